-- What one round changes, and when there are enough.
use Rattle.std.proofs.Common.{◌≡◌, ℕ, zero, suc, ◌+◌, ◌<◌, ◌≤◌, Bool, true, false, ◌&&◌, List, [], ◌∷◌, length, Option, Some, None, refl, sym, ◌∙◌, ap, arith, inl, inr}
use Rattle.std.specs.Prelude.{is_some}
use Rattle.pim_mig.specs.Graph.{MigView}
use Rattle.pim_mig.specs.Needs.{is_needed, needed_count}
use Rattle.pim_mig.specs.declared.node.Maj.{Maj}
use Rattle.pim_rewrite.specs.Cases.{case_of, distribute, has_case, has_case_from}
use Rattle.pim_rewrite.specs.Passes.{flip}
use Rattle.pim_rewrite.specs.Rewritten.{rounds}
use Rattle.pim_rewrite.specs.declared.cases.Case.{Case}
use Rattle.pim_rewrite.specs.inner.Tables.{most_made}
use Rattle.pim_rewrite.proofs.Counting.{counted, counted_few, counted_is}
use Rattle.pim_rewrite.proofs.Frame.{bool_cases, one_if, true_not_false}
use Rattle.pim_rewrite.proofs.Views.{both, either}

abbrev round_by : Bool → ℕ → MigView → MigView
round_by b k g = elim b as (λ _. MigView) [
  | true ↦ rounds k (flip (distribute g))
  | false ↦ g
]

-- without a case nothing changes
pub rounds_none : (k : ℕ) (g : MigView) → has_case g ≡ false → rounds k g ≡ g
rounds_none zero g h = refl
rounds_none (suc k) g h = ap (λ (b : Bool). round_by b k g) h

-- with one a round is made
rounds_some : (k : ℕ) (g : MigView) → has_case g ≡ true → rounds (suc k) g ≡ rounds k (flip (distribute g))
rounds_some k g h = ap (λ (b : Bool). round_by b k g) h

pub rounds_step : (left less : ℕ) (g next whole : MigView) → left ≡ suc less → has_case g ≡ true → next ≡ flip (distribute g) → rounds left g ≡ whole → rounds less next ≡ whole
rounds_step left less g next whole at has is so_far =
    ap (rounds less) is ∙ sym (rounds_some less g has) ∙ ap (λ (k : ℕ). rounds k g) (sym at) ∙ so_far

counted_case : (g : MigView) (n : ℕ) (rest : List Maj) → has_case_from g n rest ≡ true → 0 < counted (is_needed g) n (length rest)
counted_case g n [] h = absurd (true_not_false true refl (sym h))
counted_case g n (m ∷ rest) h =
    let turn = ap (λ (a : ℕ). counted (is_needed g) a (length rest)) (let z : suc n ≡ n + 1 = omega arith in z) in
    elim (either (is_needed g n && is_some (case_of g m)) (has_case_from g (suc n) rest) h) [
      | inl a ↦ let e = ap one_if (both (is_needed g n) (is_some (case_of g m)) a).0 in omega arith
      | inr a ↦ let e = counted_case g (suc n) rest a in omega arith
    ]

-- where no node is needed, none has a case
pub none_needed : (g : MigView) → needed_count g ≤ 0 → has_case g ≡ false
none_needed g few = elim (bool_cases (has_case g)) [
  | inr f ↦ f
  | inl t ↦
      let a = counted_case g (1 + g.inputs) g.nodes t in
      let b = counted_is (is_needed g) (1 + g.inputs) (length g.nodes) in
      absurd (let z : ⊥ = omega arith in z)
]

pub needed_few : (g : MigView) → needed_count g ≤ length g.nodes
needed_few g = omega (arith, counted_is (is_needed g) (1 + g.inputs) (length g.nodes), counted_few (is_needed g) (1 + g.inputs) (length g.nodes))

pub most_one : (o : Option Case) → 1 ≤ most_made true o
most_one None = omega arith
most_one (Some c) = omega arith
