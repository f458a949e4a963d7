-- The gates among pins.
use Rattle.std.proofs.Common.{◌≡◌, ℕ, zero, suc, ◌<◌, Bool, true, false, cond, eqb, ◌||◌, List, [], ◌∷◌, ◌++◌, length, get_or, fold, All, sym, ◌∙◌, ap, subst, arith, refl}
use Rattle.std.specs.List.{list_any}
use Rattle.std.proofs.lemmas.Bool.{cond_both}
use Rattle.std.proofs.lemmas.List.Elements.{All-push}
use Rattle.pim_graph.specs.Graphs.{has}
use Rattle.pim_nor.specs.declared.network.Pin.{Pin}
use Rattle.pim_nor.specs.declared.network.Pin.TheVariants.{Input, Gate as Place}
use Rattle.pim_nor.specs.Network.{IsOfFirst, IsInputOrFirst, AreInputsOrFirst}
use Rattle.pim_nor.specs.GateGraphs.{with_gate, gates_among}

list_any-has : (gs : List ℕ) (x : ℕ) → list_any (λ y. eqb y x) gs ≡ has gs x
list_any-has [] x = refl
list_any-has (y ∷ ys) x = ap (λ (b : Bool). eqb y x || b) (list_any-has ys x)

-- a gate that isn't there goes to the end
pub with_gate-new : (gs : List ℕ) (p : Pin) (x : ℕ) → p ≡ Place x → list_any (λ y. eqb y x) gs ≡ false → gs ++ x ∷ [] ≡ with_gate gs p
with_gate-new gs p x is absent =
    sym (ap (with_gate gs) is ∙ ap (λ (b : Bool). cond b gs (gs ++ x ∷ [])) (sym (list_any-has gs x) ∙ absent))

-- a gate that is there stays where it is
pub with_gate-there : (gs : List ℕ) (p : Pin) (x : ℕ) → p ≡ Place x → list_any (λ y. eqb y x) gs ≡ true → gs ≡ with_gate gs p
with_gate-there gs p x is present =
    sym (ap (with_gate gs) is ∙ ap (λ (b : Bool). cond b gs (gs ++ x ∷ [])) (sym (list_any-has gs x) ∙ present))

-- gates among pins of the first n are of the first n
pub All-fold : (n : ℕ) (gs : List ℕ) (ps : List Pin) → All (λ c. c < n) gs → AreInputsOrFirst n ps → All (λ c. c < n) (fold with_gate gs ps)
All-fold n gs [] below h = below
All-fold n gs (Input j ∷ ps) below h = All-fold n gs ps below h.1
All-fold n gs (Place x ∷ ps) below h =
    let P : List ℕ → Type 0 = λ xs. All (λ c. c < n) xs in
    All-fold n (cond (has gs x) gs (gs ++ x ∷ [])) ps (cond_both (has gs x) gs (gs ++ x ∷ []) P (λ _. below) (λ _. All-push (λ c. c < n) gs x below h.0)) h.1

pub All-gates_among : (n : ℕ) (ps : List Pin) → AreInputsOrFirst n ps → All (λ c. c < n) (gates_among ps)
All-gates_among n ps h = All-fold n [] ps (λ k d l. absurd (omega arith)) h

-- pins that are there, one by one
pub AreInputsOrFirst-from : (inputs n : ℕ) (ps : List Pin) → ((k : ℕ) (d : Pin) → k < length ps → IsOfFirst inputs n (get_or ps k d)) → AreInputsOrFirst n ps
AreInputsOrFirst-from inputs n [] h = tt
AreInputsOrFirst-from inputs n (Input j ∷ ps) h = (tt, AreInputsOrFirst-from inputs n ps (λ k d l. h (suc k) d (omega arith)))
AreInputsOrFirst-from inputs n (Place i ∷ ps) h = (h 0 (Place i) (omega arith), AreInputsOrFirst-from inputs n ps (λ k d l. h (suc k) d (omega arith)))

pub AreInputsOrFirst-at : (n : ℕ) (ps : List Pin) (k : ℕ) (d : Pin) → AreInputsOrFirst n ps → k < length ps → IsInputOrFirst n (get_or ps k d)
AreInputsOrFirst-at n [] k d h l = absurd (omega arith)
AreInputsOrFirst-at n (p ∷ ps) zero d h l = h.0
AreInputsOrFirst-at n (p ∷ ps) (suc k) d h l = AreInputsOrFirst-at n ps k d h.1 (omega arith)

-- the gate of a pin that is there
pub gate_there : (n : ℕ) (ps : List Pin) (k x : ℕ) (d : Pin) → AreInputsOrFirst n ps → k < length ps → get_or ps k d ≡ Place x → x < n
gate_there n ps k x d h l e =
    let P : Pin → Type 0 = IsInputOrFirst n in
    subst P e (AreInputsOrFirst-at n ps k d h l)
