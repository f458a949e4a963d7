-- Cells for the gates of an order.
use Rattle.std.specs.Prelude.{◌≡◌, ◌≢◌, ℕ, ◌+◌, ◌<◌, ◌≤◌, max, true, false, List, [], ◌∷◌, ◌++◌, count_by, drop, length, take, slice_index, slice_index_or, Option, Some, None}
use Rattle.pim_graph.specs.Graphs.{GraphView, has, kids_of}
use Rattle.pim_graph.specs.Peaks.{needed}

-- what contracts see of an `Allotment`: the cell of each gate, and the number that all of these are below
pub record AllotmentView : Type 0 where
  pub cells : List ℕ
  pub width : ℕ

-- the gate whose cell the gate at a place takes over, if it takes over one; past the end of the list none does
abbrev pub taken_at : List (Option ℕ) → ℕ → Option ℕ
taken_at over place = slice_index_or over place None

-- each gate that is taken over is a child of the gate that does so, and after that gate it is needed no longer
pub record IsOver (g : GraphView) (order : List ℕ) (over : List (Option ℕ)) : Type 0 where
  pub child : (p c : ℕ) → p < length order → taken_at over p ≡ Some c → has (kids_of g (slice_index order p)) c ≡ true
  pub last : (p c : ℕ) → p < length order → taken_at over p ≡ Some c → needed g (drop (p + 1) order) c ≡ false

-- each gate of the order has one cell, from the first on and below the width. A gate that takes one over has that gate's
-- cell. Every other earlier gate that is needed at a place has another cell than the gate at that place
pub record IsAllotment (g : GraphView) (order : List ℕ) (over : List (Option ℕ)) (first : ℕ) (a : AllotmentView) : Type 0 where
  pub len : length a.cells ≡ length g.kids
  pub room : first ≤ a.width
  pub from : (y : ℕ) → has order y ≡ true → first ≤ slice_index a.cells y
  pub within : (y : ℕ) → has order y ≡ true → slice_index a.cells y < a.width
  pub taken : (p c : ℕ) → p < length order → taken_at over p ≡ Some c →
      slice_index a.cells (slice_index order p) ≡ slice_index a.cells c
  pub apart : (p y : ℕ) → p < length order → has (take p order) y ≡ true → needed g (drop p order) y ≡ true →
      taken_at over p ≢ Some y → slice_index a.cells y ≢ slice_index a.cells (slice_index order p)

-- how many cells the gate at a place takes: none where it takes one over
abbrev pub cells_taken : Option ℕ → ℕ
cells_taken None = 1
cells_taken (Some c) = 0

-- the greatest number of cells that are in use at a place of the rest of an order: that of the gate there, and those of the
-- earlier gates that are roots or are read by the gate there or a later one; a cell that the gate takes over counts once
abbrev pub cells_from : GraphView → List (Option ℕ) → List ℕ → List ℕ → ℕ
cells_from g over earlier [] = 0
cells_from g over earlier (x ∷ later) =
    max (count_by (needed g (x ∷ later)) earlier + cells_taken (taken_at over (length earlier))) (cells_from g over (earlier ++ x ∷ []) later)

-- how many cells an order takes, 0 for the empty one
abbrev pub cells_along : GraphView → List ℕ → List (Option ℕ) → ℕ
cells_along g order over = cells_from g over [] order
