-- A row of a cover: a pattern with a cell for each column, and the value of the cover where the row holds (BLIF 1992,
-- "Logic Gates").
use Rattle.std.specs.Prelude.{ℕ, ◌==◌, ◌||◌, not, List, [], ◌∷◌, Bool, true, false, if◌then◌else◌, length, map, Option, Some, None, Result, Ok, Err}
use Rattle.std.specs.Bool.{beq}
use Rattle.std.specs.List.{list_all}
use Rattle.std.specs.Option.{ok_or}
use Rattle.pim_net.specs.declared.cover.Bit3.{Bit3}
use Rattle.pim_net.specs.declared.cover.Bit3.TheVariants.{Zero, One, Any}
use Rattle.pim_blif.specs.declared.fault.BlifFault.{BlifFault}
use Rattle.pim_blif.specs.declared.fault.BlifFault.TheVariants as faults
use Rattle.pim_io.specs.Readings.{◌>>=◌}

-- what a row asks of each column, and the value of the cover where it holds
pub record RowView : Type 0 where
  pub cells : List Bit3
  pub value : Bool

-- a byte that asks something of a column: `0`, `1` or `-`
abbrev pub is_cell : ℕ → Bool
is_cell b = b == 48 || (b == 49) || (b == 45)

-- what such a byte asks
abbrev pub cell_of : ℕ → Bit3
cell_of b = if b == 48 then Zero else (if b == 49 then One else Any)

-- the cells of a pattern
abbrev pub cells_of : List ℕ → List Bit3
cells_of pattern = map cell_of pattern

-- the pattern of a row with these words: it has none in a cover without columns
abbrev pub pattern_of : List (List ℕ) → List ℕ
pattern_of [] = []
pattern_of (value ∷ []) = []
pattern_of (pattern ∷ value ∷ words) = pattern

-- the output character of a row with these words, as a word
abbrev pub output_of : List (List ℕ) → List ℕ
output_of [] = []
output_of (value ∷ []) = value
output_of (pattern ∷ value ∷ words) = value

-- how many words a row has in a cover of so many columns
abbrev pub row_words : ℕ → ℕ
row_words width = if width == 0 then 1 else 2

-- the value that an output character tells
abbrev pub value_of : List ℕ → Option Bool
value_of [] = None
value_of (b ∷ []) = if b == 48 then Some false else (if b == 49 then Some true else None)
value_of (b ∷ c ∷ word) = None

-- whether a row has another value than the first row of its cover
abbrev pub is_mixed : Option Bool → Bool → Bool
is_mixed None value = false
is_mixed (Some first) value = not (beq first value)

-- the row of a line, in a cover of so many columns whose first row has this value, if there is one
unfoldable pub row_at : ℕ → ℕ → Option Bool → List (List ℕ) → Result RowView BlifFault
row_at line width first words =
    if length words == row_words width
    then (ok_or (value_of (output_of words)) (faults.Syntax line) >>= λ value.
    if length (pattern_of words) == width
    then (if list_all is_cell (pattern_of words)
    then (if is_mixed first value then Err (faults.MixedPhase line) else Ok (record { cells = cells_of (pattern_of words); value = value }))
    else Err (faults.Syntax line))
    else Err (faults.RowWidth line))
    else Err (faults.Syntax line)
