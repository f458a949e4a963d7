-- Inner: breakpoints with a count of them at each position, so that no one is searched for.
use Rattle.std.specs.Prelude.{◌≡◌, ℕ, ◌<◌, List, length, Option, Some, count_by, slice_index_or}
use Rattle.pim_debug.specs.States.{stands_at, stop_of}

-- the breakpoints by number, and how many positions there are
pub record StopsView : Type 0 where
  pub stops : List (Option ℕ)
  pub positions : ℕ

-- how many breakpoints stand at each position, and all of them stand at one
pub record AreCounts (counts : List ℕ) (stops : List (Option ℕ)) : Type 0 where
  pub counted : (k : ℕ) → k < length counts → slice_index_or counts k 0 ≡ count_by (stands_at k) stops
  pub within : (n k : ℕ) → stop_of stops n ≡ Some k → k < length counts
