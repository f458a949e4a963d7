-- Inner: rows that are executed together.
use Rattle.std.specs.Prelude.{◌≡◌, ℕ, zero, suc, ◌+◌, ◌*◌, ◌<◌, List, length}
use Rattle.pim_adder.specs.Drawn.{RowsView, after, row_line}
use Rattle.pim_io.specs.Bits.{bits_of}
use Rattle.pim_isa.specs.Programs.{ProgramView}
use Rattle.pim_isa.specs.Results.{result_of}
use Rattle.pim_isa.specs.declared.target.Fill.TheVariants.{Zeros}
use Rattle.pim_lanes.specs.Banks.{BankView}
use Rattle.pim_lanes.specs.declared.limits.TheConstants.{LARGE_WORDS}
use Rattle.pim_vectors.specs.Tiles.{TileView, vector_of}

-- the row that stands so many after a row
unfoldable pub later : ℕ → RowsView → RowsView
later zero row = row
later (suc count) row = after (later count row)

-- the first lanes of a tile are the rows from one on
abbrev pub Holds : RowsView → TileView → ℕ → Type 0
Holds row t lanes = (k : ℕ) → k < lanes → vector_of t k ≡ bits_of (row_line (later k row))

-- the first lanes of a tile are what a program gives for the rows from one on
abbrev pub Answers : ProgramView → RowsView → TileView → ℕ → Type 0
Answers p row t lanes = (k : ℕ) → k < lanes → vector_of t k ≡ result_of p Zeros (bits_of (row_line (later k row)))

-- the program that is tried, and the next row
pub record TrialView : Type 0 where
  pub program : ProgramView
  pub row : RowsView

-- what every trial keeps: both generators stand at the same row, and all sizes are those that the program and the rows ask for
pub record IsTrial (p : ProgramView) (drawn checked : RowsView) (bank : BankView) (vectors results : TileView) (line sum answer : List ℕ) : Type 0 where
  pub inputs : length p.inputs ≡ 2 * drawn.bits + 1
  pub outputs : length p.outputs ≡ drawn.bits + 1
  pub same : checked ≡ drawn
  pub cells : bank.cells ≡ p.cells
  pub words : bank.words ≡ LARGE_WORDS
  pub vector_columns : vectors.columns ≡ length p.inputs
  pub vector_words : vectors.words ≡ LARGE_WORDS
  pub result_columns : results.columns ≡ length p.outputs
  pub result_words : results.words ≡ LARGE_WORDS
  pub line_long : length line ≡ length p.inputs
  pub sum_long : length sum ≡ length p.outputs
  pub answer_long : length answer ≡ length p.outputs
