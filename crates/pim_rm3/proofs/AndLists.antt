-- Lists of the AND nodes that gates read.
use Rattle.std.proofs.Common.{◌≡◌, ℕ, ◌*◌, ◌/◌, ◌<◌, Bool, true, false, cond, eqb, nat_lt, ◌||◌, List, [], ◌∷◌, ◌++◌, All, refl, sym, ◌∙◌, ap, arith}
use Rattle.std.specs.List.{list_any}
use Rattle.std.proofs.lemmas.Bool.Decides.{nat_tests}
use Rattle.std.proofs.lemmas.List.Elements.{All-push}
use Rattle.pim_aig.specs.Graph.{AigView}
use Rattle.pim_aig.specs.declared.literal.Lit.{Lit}
use Rattle.pim_graph.specs.Graphs.{has}
use Rattle.pim_rm3.specs.Gates.{ands_read, with_and}
use Rattle.pim_rm3.specs.inner.Reading.{ReadsBelow}
use Rattle.pim_rm3.specs.declared.gate.Gate.{Gate}
use Rattle.pim_rm3.specs.declared.gate.Gate.TheVariants as gate

list_any-has : (gs : List ℕ) (x : ℕ) → list_any (λ y. eqb y x) gs ≡ has gs x
list_any-has [] x = refl
list_any-has (y ∷ ys) x = ap (λ (b : Bool). eqb y x || b) (list_any-has ys x)

opened : (g : AigView) (gs : List ℕ) (e : Lit) → g.inputs < e.0 / 2 → with_and g gs e ≡ cond (has gs (2 * (e.0 / 2))) gs (gs ++ 2 * (e.0 / 2) ∷ [])
opened g gs e h =
    let lt : nat_lt g.inputs (e.0 / 2) ≡ true = grind (arith, nat_tests) in
    ap (λ (b : Bool). cond b (cond (has gs (2 * (e.0 / 2))) gs (gs ++ 2 * (e.0 / 2) ∷ [])) gs) lt

pub with_and_new : (g : AigView) (gs : List ℕ) (e : Lit) → g.inputs < e.0 / 2 → list_any (λ y. eqb y (2 * (e.0 / 2))) gs ≡ false → gs ++ 2 * (e.0 / 2) ∷ [] ≡ with_and g gs e
with_and_new g gs e h absent =
    sym (opened g gs e h ∙ ap (λ (b : Bool). cond b gs (gs ++ 2 * (e.0 / 2) ∷ [])) (sym (list_any-has gs (2 * (e.0 / 2))) ∙ absent))

pub with_and_there : (g : AigView) (gs : List ℕ) (e : Lit) → g.inputs < e.0 / 2 → list_any (λ y. eqb y (2 * (e.0 / 2))) gs ≡ true → gs ≡ with_and g gs e
with_and_there g gs e h present =
    sym (opened g gs e h ∙ ap (λ (b : Bool). cond b gs (gs ++ 2 * (e.0 / 2) ∷ [])) (sym (list_any-has gs (2 * (e.0 / 2))) ∙ present))

pick : (b : Bool) (xs ys : List ℕ) (P : List ℕ → Type 0) → P xs → P ys → P (cond b xs ys)
pick true xs ys P p q = p
pick false xs ys P p q = q

with_and_below : (g : AigView) (gs : List ℕ) (e : Lit) (n : ℕ) → All (λ c. c < n) gs → e.0 < n → All (λ c. c < n) (with_and g gs e)
with_and_below g gs e n all h =
    let P : List ℕ → Type 0 = λ xs. All (λ c. c < n) xs in
    let k = 2 * (e.0 / 2) in
    pick (nat_lt g.inputs (e.0 / 2)) (cond (has gs k) gs (gs ++ k ∷ [])) gs P
    (pick (has gs k) gs (gs ++ k ∷ []) P all (All-push (λ c. c < n) gs k all (omega arith))) all

none_below : (n : ℕ) → All (λ c. c < n) []
none_below n = λ k d l. absurd (omega arith)

-- the AND nodes that a gate reads have lower numbers
pub ands_below : (g : AigView) (n : ℕ) (t : Gate) → ReadsBelow n t → All (λ c. c < n) (ands_read g t)
ands_below g n (gate.Constant b) h = none_below n
ands_below g n gate.Input h = none_below n
ands_below g n (gate.Not m) h = with_and_below g [] m n (none_below n) h
ands_below g n (gate.And x y) h = with_and_below g (with_and g [] x) y n (with_and_below g [] x n (none_below n) h.0) h.1
