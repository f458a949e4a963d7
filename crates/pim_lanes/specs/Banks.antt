-- Rows of cells side by side: a column of words for each cell, with a lane for each row.
use Rattle.std.specs.Prelude.{◌≡◌, ℕ, zero, suc, ◌+◌, ◌-◌, ◌*◌, ◌^◌, ◌<◌, ◌≤◌, ◌==◌, nat_lt, if◌then◌else◌, Bool, false, List, length, replicate, map, All}
use Rattle.std.specs.List.{range_with_len}
use Rattle.pim_isa.specs.declared.draft.TheConstants.{MAX_CELLS}
use Rattle.pim_isa.specs.declared.target.Fill.{Fill}
use Rattle.pim_isa.specs.declared.target.Fill.TheVariants.{Zeros, Ones}
use Rattle.pim_isa.specs.declared.instr.Operand.{Operand}
use Rattle.pim_isa.specs.declared.instr.Operand.TheVariants as operand
use Rattle.pim_isa.specs.declared.instr.Instr.{Instr}
use Rattle.pim_isa.specs.Touches.{names}
use Rattle.pim_isa.specs.Validity.{reads_target}
use Rattle.pim_io.specs.Lanes.{lane, column_in, with_words}

-- the number of cells, the words of a column, and the words of the cells' columns, one column after another
pub record BankView : Type 0 where
  pub cells : ℕ
  pub words : ℕ
  pub buffer : List ℕ

-- column c of a bank: the words of cell c, and behind the cells a column of zeros and a column of ones
abbrev pub column_of : BankView → ℕ → List ℕ
column_of b c =
    if nat_lt c b.cells then column_in b.words b.buffer c
    else (if c == b.cells then replicate b.words 0 else replicate b.words (2 ^ 64 - 1))

-- row r of a bank: the bits of lane r of each cell's column
unfoldable pub row_of : BankView → ℕ → List Bool
row_of b r = map (λ c. lane (column_in b.words b.buffer c) r) (range_with_len 0 b.cells)

-- the bank with these words in the column of cell c
abbrev pub with_column : BankView → ℕ → List ℕ → BankView
with_column b c column = record b { buffer = with_words b.buffer (c * b.words) column }

-- r is the number of a row
abbrev pub IsRow : BankView → ℕ → Type 0
IsRow b r = r < 64 * b.words

-- what the list of all columns keeps: its sizes, and the columns of zeros and of ones, which stand before those of the cells
pub record IsBuffer (cells words : ℕ) (buffer : List ℕ) : Type 0 where
  pub small : cells ≤ MAX_CELLS
  pub short : words ≤ 64
  pub whole : length buffer ≡ (cells + 2) * words
  pub zeros : column_in words buffer 0 ≡ replicate words 0
  pub ones : column_in words buffer 1 ≡ replicate words (2 ^ 64 - 1)

-- the sizes are as they were
pub record SameFrame (old new : BankView) : Type 0 where
  pub cells : new.cells ≡ old.cells
  pub words : new.words ≡ old.words

-- the instruction names cells below the number of cells, and doesn't read its target
pub record FitsCells (cells : ℕ) (i : Instr) : Type 0 where
  pub within : All (λ c. c < cells) (names i)
  pub apart : reads_target i ≡ false

-- where the column of an operand stands: the two constant columns come first
abbrev pub place_of : Operand → ℕ
place_of operand.Zero = 0
place_of operand.One = 1
place_of (operand.Cell c) = c + 2

-- the column at a place
abbrev pub column_at : BankView → ℕ → List ℕ
column_at b zero = replicate b.words 0
column_at b (suc zero) = replicate b.words (2 ^ 64 - 1)
column_at b (suc (suc c)) = column_in b.words b.buffer c

-- the word that fills a column
abbrev pub fill_word : Fill → ℕ
fill_word Zeros = 0
fill_word Ones = 2 ^ 64 - 1
