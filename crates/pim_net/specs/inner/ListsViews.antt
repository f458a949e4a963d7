-- The columns and rows of a cover that are held in lists.
use Rattle.std.specs.Prelude.{ℕ, List}
use Rattle.pim_net.specs.declared.cover.Bit3.{Bit3}

-- the signals of the columns, and the rows with a cell per column
pub record ListsView : Type 0 where
  pub ins : List ℕ
  pub rows : List (List Bit3)
