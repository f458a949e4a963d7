-- The lives of a program's cells. A life begins where a value is put into a cell, by an input or by an instruction that writes the
-- cell, and ends with the last use of that value.
use Rattle.std.specs.Prelude.{ℕ, ◌+◌, Bool, ◌&&◌, not, if◌then◌else◌, List, [], ◌∷◌, ◌++◌, Option, Some, None}
use Rattle.std.specs.List.{flat_map, list_any, range_with_len}
use Rattle.std.specs.Option.{option_or}
use Rattle.pim_isa.specs.declared.instr.Instr.{Instr}
use Rattle.pim_isa.specs.Programs.{ProgramView}
use Rattle.pim_isa.specs.Sound.{cells_of}
use Rattle.pim_isa.specs.Touches.{reads, writes}
use Rattle.pim_isa.specs.Validity.{has}
use Rattle.pim_life.specs.declared.life.Start.TheVariants.{Load, At}
use Rattle.pim_life.specs.declared.life.End.{End}
use Rattle.pim_life.specs.declared.life.End.TheVariants.{Unread, Read, Output}
use Rattle.pim_life.specs.declared.life.Life.{Life}

-- one of the instructions writes the cell
abbrev pub is_written : ℕ → List Instr → Bool
is_written c is = list_any (λ i. has c (writes i)) is

-- the instructions up to the first that writes the cell, that one included, and all of them if none does
abbrev pub until_written : ℕ → List Instr → List Instr
until_written c [] = []
until_written c (i ∷ is) = i ∷ (if has c (writes i) then [] else until_written c is)

-- the place of the last instruction that reads the cell, of instructions that stand from place k on
abbrev pub last_read : ℕ → ℕ → List Instr → Option ℕ
last_read c k [] = None
last_read c k (i ∷ is) = option_or (last_read c (k + 1) is) (if has c (reads i) then Some k else None)

-- the end of a value that is last read at this place, if it is read
abbrev pub read_end : Option ℕ → End
read_end None = Unread
read_end (Some k) = Read k

-- the end of a life of the cell, given the instructions behind its start, which stand from place k on: where the cell is an output
-- and none of them writes it, it is the output's value; else its last reader ends it, at the latest the one that writes the
-- cell again
abbrev pub end_of : ℕ → Bool → ℕ → List Instr → End
end_of c is_output k is =
    if is_output && not (is_written c is) then Output else read_end (last_read c k (until_written c is))

-- the life that the instruction at place k begins, if it writes the cell; the instructions `is` stand behind it
abbrev pub begun : ℕ → Bool → ℕ → Instr → List Instr → List Life
begun c is_output k i is =
    if has c (writes i) then record { cell = c; start = At k; end = end_of c is_output (k + 1) is } ∷ [] else []

-- the lives of the cell that begin with one of the instructions, which stand from place k on
abbrev pub written_lives : ℕ → Bool → ℕ → List Instr → List Life
written_lives c is_output k [] = []
written_lives c is_output k (i ∷ is) = begun c is_output k i is ++ written_lives c is_output (k + 1) is

-- the life that begins with an input's bit, if the cell is an input
abbrev pub loaded_lives : ProgramView → ℕ → List Life
loaded_lives p c =
    if has c (cells_of p.inputs)
    then record { cell = c; start = Load; end = end_of c (has c (cells_of p.outputs)) 0 p.instrs } ∷ [] else []

-- the lives of a cell, by their start
abbrev pub cell_lives : ProgramView → ℕ → List Life
cell_lives p c = loaded_lives p c ++ written_lives c (has c (cells_of p.outputs)) 0 p.instrs

-- the lives of a program: those of each cell, by rising cell
abbrev pub lives_of : ProgramView → List Life
lives_of p = flat_map (cell_lives p) (range_with_len 0 p.cells)
