-- Inner: columns of words that stand one after another in one list.
use Rattle.std.specs.Prelude.{◌≡◌, ◌≢◌, ℕ, ◌*◌, ◌<◌, Bool, List, length}
use Rattle.pim_io.specs.Lanes.{lane, column_in}

-- lane r of column t is v r now, and all other columns are as they were
pub record Stored (words t : ℕ) (v : ℕ → Bool) (old new : List ℕ) : Type 0 where
  pub same : length new ≡ length old
  pub target : (r : ℕ) → r < 64 * words → lane (column_in words new t) r ≡ v r
  pub others : (c : ℕ) → c ≢ t → column_in words new c ≡ column_in words old c
