-- What is marked stays marked, and a marked gate's operands are marked.
use Rattle.std.proofs.Common.{◌≡◌, ℕ, ◌<◌, ◌≤◌, zero, suc, Bool, true, false, cond, List, [], ◌∷◌, length, get_or, set, refl, sym, ◌∙◌, subst, arith, inl, inr}
use Rattle.std.proofs.lemmas.List.{get_or-set_same, get_or-set_other, length-set}
use Rattle.std.proofs.lemmas.Bool.{cases_eq, false≢true}
use Rattle.pim_nor.specs.declared.network.Pin.{Pin}
use Rattle.pim_nor.specs.declared.network.Pin.TheVariants.{Input, Gate as Place}
use Rattle.pim_nor.specs.declared.network.Gate.{Gate}
use Rattle.pim_nor.specs.Network.{pins, IsInputOrFirst, AreInputsOrFirst}
use Rattle.pim_nor.specs.Reached.{mark, mark_all, reached}

-- the pin is an input, or its gate is marked
abbrev pub IsMarked : List Bool → Pin → Type 0
IsMarked marks (Input j) = Unit {0}
IsMarked marks (Place s) = get_or marks s false ≡ true

abbrev pub AreMarked : List Bool → List Pin → Type 0
AreMarked marks [] = Unit {0}
AreMarked marks (p ∷ ps) = IsMarked marks p × AreMarked marks ps

pub length-mark : (marks : List Bool) (p : Pin) → length (mark marks p) ≡ length marks
length-mark marks (Input j) = refl
length-mark marks (Place s) = length-set marks s true

pub length-mark_all : (marks : List Bool) (ps : List Pin) → length (mark_all marks ps) ≡ length marks
length-mark_all marks [] = refl
length-mark_all marks (p ∷ ps) = length-mark_all (mark marks p) ps ∙ length-mark marks p

step : (ℕ → Gate) → ℕ → List Bool → List Bool
step gate s marks = cond (get_or marks s false) (mark_all marks (pins (gate s))) marks

length-cond : (b : Bool) (marks : List Bool) (ps : List Pin) → length (cond b (mark_all marks ps) marks) ≡ length marks
length-cond true marks ps = length-mark_all marks ps
length-cond false marks ps = refl

pub length-reached : (gate : ℕ → Gate) (n : ℕ) (marks : List Bool) → length (reached gate n marks) ≡ length marks
length-reached gate zero marks = refl
length-reached gate (suc n) marks =
    length-reached gate n (cond (get_or marks n false) (mark_all marks (pins (gate n))) marks) ∙ length-cond (get_or marks n false) marks (pins (gate n))

-- a set mark keeps what is marked
set_keeps : (marks : List Bool) (s t : ℕ) → get_or marks t false ≡ true → get_or (set marks s true) t false ≡ true
set_keeps [] s t h = h
set_keeps (b ∷ marks) zero zero h = refl
set_keeps (b ∷ marks) zero (suc t) h = h
set_keeps (b ∷ marks) (suc s) zero h = h
set_keeps (b ∷ marks) (suc s) (suc t) h = set_keeps marks s t h

mark-keeps : (marks : List Bool) (p : Pin) (t : ℕ) → get_or marks t false ≡ true → get_or (mark marks p) t false ≡ true
mark-keeps marks (Input j) t h = h
mark-keeps marks (Place s) t h = set_keeps marks s t h

mark_all-keeps : (marks : List Bool) (ps : List Pin) (t : ℕ) → get_or marks t false ≡ true → get_or (mark_all marks ps) t false ≡ true
mark_all-keeps marks [] t h = h
mark_all-keeps marks (p ∷ ps) t h = mark_all-keeps (mark marks p) ps t (mark-keeps marks p t h)

cond-keeps : (b : Bool) (marks : List Bool) (ps : List Pin) (t : ℕ) → get_or marks t false ≡ true → get_or (cond b (mark_all marks ps) marks) t false ≡ true
cond-keeps true marks ps t h = mark_all-keeps marks ps t h
cond-keeps false marks ps t h = h

pub reached-keeps : (gate : ℕ → Gate) (n : ℕ) (marks : List Bool) (t : ℕ) → get_or marks t false ≡ true → get_or (reached gate n marks) t false ≡ true
reached-keeps gate zero marks t h = h
reached-keeps gate (suc n) marks t h =
    reached-keeps gate n (cond (get_or marks n false) (mark_all marks (pins (gate n))) marks) t (cond-keeps (get_or marks n false) marks (pins (gate n)) t h)

pub reached-keeps_all : (gate : ℕ → Gate) (n : ℕ) (marks : List Bool) (ps : List Pin) → AreMarked marks ps → AreMarked (reached gate n marks) ps
reached-keeps_all gate n marks [] h = tt
reached-keeps_all gate n marks (Input j ∷ ps) h = (tt, reached-keeps_all gate n marks ps h.1)
reached-keeps_all gate n marks (Place s ∷ ps) h = (reached-keeps gate n marks s h.0, reached-keeps_all gate n marks ps h.1)

mark-marks : (marks : List Bool) (p : Pin) → IsInputOrFirst (length marks) p → IsMarked (mark marks p) p
mark-marks marks (Input j) h = tt
mark-marks marks (Place s) h = get_or-set_same marks s true false h

IsMarked-mark_all : (marks : List Bool) (p : Pin) (ps : List Pin) → IsMarked marks p → IsMarked (mark_all marks ps) p
IsMarked-mark_all marks (Input j) ps h = tt
IsMarked-mark_all marks (Place s) ps h = mark_all-keeps marks ps s h

pub mark_all-marks : (marks : List Bool) (ps : List Pin) → AreInputsOrFirst (length marks) ps → AreMarked (mark_all marks ps) ps
mark_all-marks marks [] h = tt
mark_all-marks marks (p ∷ ps) h =
    let P : ℕ → Type 0 = λ n. AreInputsOrFirst n ps in
    (IsMarked-mark_all (mark marks p) p ps (mark-marks marks p h.0), mark_all-marks (mark marks p) ps (subst P (sym (length-mark marks p)) h.1))

-- marks from a place on stay as they are where only earlier gates are marked
mark-stays : (marks : List Bool) (p : Pin) (n t : ℕ) → IsInputOrFirst n p → n ≤ t → get_or (mark marks p) t false ≡ get_or marks t false
mark-stays marks (Input j) n t h l = refl
mark-stays marks (Place s) n t h l = get_or-set_other marks s t true false (omega arith)

mark_all-stays : (marks : List Bool) (ps : List Pin) (n t : ℕ) → AreInputsOrFirst n ps → n ≤ t → get_or (mark_all marks ps) t false ≡ get_or marks t false
mark_all-stays marks [] n t h l = refl
mark_all-stays marks (p ∷ ps) n t h l = mark_all-stays (mark marks p) ps n t h.1 l ∙ mark-stays marks p n t h.0 l

cond-stays : (b : Bool) (marks : List Bool) (ps : List Pin) (n t : ℕ) → AreInputsOrFirst n ps → n ≤ t → get_or (cond b (mark_all marks ps) marks) t false ≡ get_or marks t false
cond-stays true marks ps n t h l = mark_all-stays marks ps n t h l
cond-stays false marks ps n t h l = refl

-- each of the first n gates reads inputs and gates before it
abbrev pub ReadBefore : (ℕ → Gate) → ℕ → Type 0
ReadBefore gate n = (s : ℕ) → s < n → AreInputsOrFirst s (pins (gate s))

reached-stays : (gate : ℕ → Gate) (n : ℕ) (marks : List Bool) (t : ℕ) → ReadBefore gate n → n ≤ t → get_or (reached gate n marks) t false ≡ get_or marks t false
reached-stays gate zero marks t h l = refl
reached-stays gate (suc n) marks t h l =
    reached-stays gate n (cond (get_or marks n false) (mark_all marks (pins (gate n))) marks) t (λ s b. h s (omega arith)) (omega arith) ∙ cond-stays (get_or marks n false) marks (pins (gate n)) n t (h n (omega arith)) (omega arith)

pub AreInputsOrFirst-le : (ps : List Pin) (m n : ℕ) → m ≤ n → AreInputsOrFirst m ps → AreInputsOrFirst n ps
AreInputsOrFirst-le [] m n l h = tt
AreInputsOrFirst-le (Input j ∷ ps) m n l h = (tt, AreInputsOrFirst-le ps m n l h.1)
AreInputsOrFirst-le (Place s ∷ ps) m n l h =
    let b : s < m = h.0 in (omega arith, AreInputsOrFirst-le ps m n l h.1)

closed_here : (gate : ℕ → Gate) (n : ℕ) (marks : List Bool) (b : Bool) → get_or marks n false ≡ b → b ≡ true → n ≤ length marks → AreInputsOrFirst n (pins (gate n)) → AreMarked (reached gate n (cond b (mark_all marks (pins (gate n))) marks)) (pins (gate n))
closed_here gate n marks true e is l h =
    reached-keeps_all gate n (mark_all marks (pins (gate n))) (pins (gate n)) (mark_all-marks marks (pins (gate n)) (AreInputsOrFirst-le (pins (gate n)) n (length marks) l h))
closed_here gate n marks false e is l h = absurd (false≢true is)

-- the operands of a marked gate are marked
pub reached-closed : (gate : ℕ → Gate) (n : ℕ) (marks : List Bool) (s : ℕ) → ReadBefore gate n → n ≤ length marks → s < n → get_or (reached gate n marks) s false ≡ true → AreMarked (reached gate n marks) (pins (gate s))
reached-closed gate zero marks s before fits l h = absurd (omega arith)
reached-closed gate (suc n) marks s before fits l h =
    let b = get_or marks n false in
    let next = cond b (mark_all marks (pins (gate n))) marks in
    let len : length next ≡ length marks = length-cond b marks (pins (gate n)) in
    let earlier : ReadBefore gate n = λ k below. before k (omega arith) in
    elim (cases_eq s n) [
      | inl e ↦
          let P : ℕ → Type 0 = λ k. AreMarked (reached gate n next) (pins (gate k)) in
          let Q : ℕ → Type 0 = λ k. get_or (reached gate n next) k false ≡ true in
          let at_n : get_or (reached gate n next) n false ≡ true = subst Q e h in
          let is : b ≡ true = sym (cond-stays b marks (pins (gate n)) n n (before n (omega arith)) (omega arith)) ∙ (sym (reached-stays gate n next n earlier (omega arith)) ∙ at_n) in
          subst P (sym e) (closed_here gate n marks b refl is (omega arith) (before n (omega arith)))
      | inr ne ↦ reached-closed gate n next s earlier (omega arith) (omega arith) h
    ]
