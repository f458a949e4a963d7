-- A cover of signals, as contracts see it.
use Rattle.std.specs.Prelude.{ℕ, zero, suc, Bool, List, [], ◌∷◌, take, drop}
use Rattle.pim_net.specs.declared.cover.Bit3.{Bit3}

-- the signals of its columns, its rows with a cell per column, and its value where a row holds
pub record CoverView : Type 0 where
  pub ins : List ℕ
  pub rows : List (List Bit3)
  pub phase : Bool

-- the first `count` rows of cells that stand one after another, `width` to a row
abbrev pub rows_of : ℕ → ℕ → List Bit3 → List (List Bit3)
rows_of width zero cells = []
rows_of width (suc count) cells = take width cells ∷ rows_of width count (drop width cells)
