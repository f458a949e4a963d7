-- Inner: which signals are inputs, as a mark for each signal up to some number.
use Rattle.std.specs.Prelude.{◌≡◌, ◌==◌, ℕ, Bool, false, List, length, count_by, slice_index_or}
use Rattle.std.specs.List.{list_any}

-- whether a signal is marked; those past the marks are not
abbrev pub is_marked : List Bool → ℕ → Bool
is_marked marks s = slice_index_or marks s false

-- the signals that are marked are these inputs, of which no two are one signal
pub record AreMarked (inputs : List ℕ) (marks : List Bool) : Type 0 where
  pub same : (s : ℕ) → is_marked marks s ≡ list_any (λ i. i == s) inputs
  pub once : count_by (λ mark. mark) marks ≡ length inputs
