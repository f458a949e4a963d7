-- The reads that are still to come, as one of them is done.
use Rattle.std.proofs.Common.{◌≡◌, ℕ, ◌+◌, ◌-◌, ◌<◌, ◌≤◌, Bool, cond, List, ◌∷◌, length, drop, get_or, set, fold, inl, inr, refl, sym, ap, subst, arith}
use Rattle.std.specs.Prelude.{All, slice_index}
use Rattle.std.proofs.lemmas.Bool.{cases_eq, cases_lt, eq-eqb, ne_eqb}
use Rattle.std.proofs.lemmas.List.{drop_more, get_or-set_same, get_or-set_other, get_or_past}
use Rattle.std.proofs.lemmas.List.Elements.{All-tail}
use Rattle.pim_graph.specs.Readers.{occurrences}
use Rattle.pim_simpler.specs.inner.Kept.{ScheduleView, after_read}

-- after a read of x there are enough reads left for the rest
pub reads_left : (left rest : List ℕ) (x : ℕ) → ((y : ℕ) → occurrences (x ∷ rest) y ≤ slice_index left y) →
    (y : ℕ) → occurrences rest y ≤ slice_index (set left x (slice_index left x - 1)) y
reads_left left rest x enough y =
    let here : occurrences (x ∷ rest) x ≡ 1 + occurrences rest x = ap (λ (b : Bool). cond b 1 0 + occurrences rest x) (eq-eqb x x refl) in
    elim (cases_eq y x) [
      | inl same ↦
          elim (cases_lt x (length left)) [
            | inl within ↦
                let now : slice_index (set left x (slice_index left x - 1)) x ≡ slice_index left x - 1 = get_or-set_same left x (slice_index left x - 1) 0 within in
                let P : ℕ → Type 0 = λ z. occurrences rest z ≤ slice_index (set left x (slice_index left x - 1)) z in
                subst P (sym same) (omega (arith, now, here, enough x))
            | inr past ↦ absurd (omega (arith, here, enough x, get_or_past left x 0 past))
          ]
      | inr apart ↦
          let now : slice_index (set left x (slice_index left x - 1)) y ≡ slice_index left y = get_or-set_other left x y (slice_index left x - 1) 0 apart in
          let before : occurrences (x ∷ rest) y ≡ 0 + occurrences rest y = ap (λ (b : Bool). cond b 1 0 + occurrences rest y) (ne_eqb x y (λ e. apart (sym e))) in
          omega (arith, now, before, enough y)
    ]

-- what is left of a loop over what a gate reads
pub record ToRead (start s : ScheduleView) (all : List ℕ) (k : ℕ) : Type 0 where
  pub there : All (λ x. x < length s.net.gates) (drop k all)
  pub read : (x : ℕ) → occurrences (drop k all) x ≤ slice_index s.left x
  pub rest : fold after_read s (drop k all) ≡ fold after_read start all

pub ToRead-more : (start s t : ScheduleView) (all : List ℕ) (k : ℕ) → k < length all → t ≡ after_read s (get_or all k 0) → ToRead start s all k → ToRead start t all (k + 1)
ToRead-more start s t all k within step now =
    let x : ℕ = get_or all k 0 in
    let cut : drop k all ≡ x ∷ drop (k + 1) all = drop_more all k 0 within in
    let P : List ℕ → Type 0 = λ xs. All (λ y. y < length s.net.gates) xs in
    let R : List ℕ → Type 0 = λ xs. (y : ℕ) → occurrences xs y ≤ slice_index s.left y in
    let F : List ℕ → Type 0 = λ xs. fold after_read s xs ≡ fold after_read start all in
    let next : ToRead start (after_read s x) all (k + 1) = record {
      there = All-tail (λ (y : ℕ). y < length s.net.gates) x (drop (k + 1) all) (subst P cut now.there);
      read = reads_left s.left (drop (k + 1) all) x (subst R cut now.read);
      rest = subst F cut now.rest;
    } in
    let G : ScheduleView → Type 0 = λ u. ToRead start u all (k + 1) in
    subst G (sym step) next
