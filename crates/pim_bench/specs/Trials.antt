-- Rows that are drawn for an adder, and which of them a program answers wrongly.
use Rattle.std.specs.Prelude.{ℕ, zero, suc, Bool, not, List, [], ◌∷◌, count_by}
use Rattle.std.specs.Str.{bytes_eq}
use Rattle.pim_adder.specs.Drawn.{RowsView, after, row_line, row_sum}
use Rattle.pim_io.specs.Bits.{bits_of, line_of}
use Rattle.pim_isa.specs.Programs.{ProgramView}
use Rattle.pim_isa.specs.Results.{result_of}
use Rattle.pim_isa.specs.declared.target.Fill.TheVariants.{Zeros}
use Rattle.pim_bench.specs.declared.trial.TheConstants.{ROWS}

-- where the generator begins
abbrev pub first_row : ℕ → RowsView
first_row bits = record { bits = bits; state = bits }

-- so many rows, from one on
unfoldable pub rows_from : ℕ → RowsView → List RowsView
rows_from zero row = []
rows_from (suc count) row = row ∷ rows_from count (after row)

-- the program, with zeros in all cells that are no inputs, gives another line for a row than its sum
abbrev pub is_wrong : ProgramView → RowsView → Bool
is_wrong p row = not (bytes_eq (line_of (result_of p Zeros (bits_of (row_line row)))) (row_sum row))

-- how many of the rows a program of an adder of numbers of so many bits answers wrongly
abbrev pub wrong_of : ProgramView → ℕ → ℕ
wrong_of p bits = count_by (is_wrong p) (rows_from ROWS (first_row bits))
