-- Inner. The cells that gates hold and those that are free, while cells are given out.
use Rattle.std.specs.Prelude.{◌≡◌, ℕ, ◌+◌, ◌<◌, ◌≤◌, ◌==◌, Bool, true, false, ◌&&◌, not, List, [], ◌∷◌, count_by, length, slice_index, Option, Some, None, IsPermutation}
use Rattle.pim_graph.specs.Graphs.{GraphView, has}
use Rattle.pim_graph.specs.Readers.{occurrences, still_needed}

-- the cells that are free again, and the first one that was never given out
pub record SparesView : Type 0 where
  pub free : List ℕ
  pub next : ℕ

-- a cell was taken: a free one where there is one, else the next
pub record IsTaken (old new : SparesView) (cell : ℕ) : Type 0 where
  pub fresh_cell : length old.free ≡ 0 → cell ≡ old.next
  pub fresh_left : length old.free ≡ 0 → new ≡ record { free = []; next = old.next + 1 }
  pub reused_cell : 0 < length old.free → IsPermutation old.free (cell ∷ new.free)
  pub reused_left : 0 < length old.free → new.next ≡ old.next

-- a cell was chosen: that of the gate that is taken over, else one that was taken
abbrev pub IsChoice : Option ℕ → List ℕ → SparesView → SparesView → ℕ → Type 0
IsChoice None cells old new cell = IsTaken old new cell
IsChoice (Some c) cells old new cell = (cell ≡ slice_index cells c) × (new ≡ old)

-- the gate is the one that is taken over
abbrev pub is_taken : Option ℕ → ℕ → Bool
is_taken None x = false
is_taken (Some c) x = c == x

-- the gate is still needed, and isn't taken over
abbrev pub holds : GraphView → List ℕ → Option ℕ → ℕ → Bool
holds g left taken x = still_needed g left x && not (is_taken taken x)

-- each placed gate has a cell of those given out, and each free cell is one of these, once. No two holders have one
-- cell, and none has a free one. The cells given out are those that are free and those of holders
pub record IsPool (holder : ℕ → Bool) (placed cells : List ℕ) (first : ℕ) (s : SparesView) : Type 0 where
  pub from : (y : ℕ) → has placed y ≡ true → first ≤ slice_index cells y
  pub within : (y : ℕ) → has placed y ≡ true → slice_index cells y < s.next
  pub apart : (y z : ℕ) → has placed y ≡ true → has placed z ≡ true → holder y ≡ true → holder z ≡ true →
      slice_index cells y ≡ slice_index cells z → y ≡ z
  pub unheld : (y : ℕ) → has placed y ≡ true → holder y ≡ true → occurrences s.free (slice_index cells y) ≡ 0
  pub once : (c : ℕ) → occurrences s.free c ≤ 1
  pub free_from : (c : ℕ) → 0 < occurrences s.free c → first ≤ c
  pub free_within : (c : ℕ) → 0 < occurrences s.free c → c < s.next
  pub counted : first + length s.free + count_by holder placed ≡ s.next
