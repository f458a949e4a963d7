-- Worked examples of the definitions, by computation.
use Rattle.std.proofs.Common.{◌≡◌, ℕ, true, false, List, [], ◌∷◌, replicate, refl}
use Rattle.std.specs.Prelude.{codes}
use Rattle.pim_isa.specs.declared.target.Target.TheVariants.{Magic}
use Rattle.pim_isa.specs.declared.target.Fill.TheVariants.{Zeros, Ones}
use Rattle.pim_isa.specs.declared.port.Port.{Port}
use Rattle.pim_isa.specs.declared.instr.Ins.TheVariants as ins
use Rattle.pim_isa.specs.declared.instr.Instr.{Instr}
use Rattle.pim_isa.specs.declared.instr.Instr.TheVariants.{Init, Nor}
use Rattle.pim_isa.specs.Programs.{ProgramView}
use Rattle.pim_vectors.specs.Tiles.{TileView, vector_of}
use Rattle.pim_io.specs.Lanes.{is_set, lane, column_in}
use Rattle.pim_imply.specs.Programs.{ImplyView}
use Rattle.pim_imply.specs.declared.instr.ImplyInstr.TheVariants.{False, Imp}
use Rattle.pim_batch.specs.ImplyTables.{imply_line, imply_rows}
use Rattle.pim_batch.specs.Tables.{result_line, table, tile_words, tile_rows}
use Rattle.pim_batch.specs.inner.TileLines.{row_line, row_lines}

abbrev port : ℕ → Port
port c = record { cell = c; label = 105 ∷ [] }

abbrev program : ℕ → List Port → List Port → List Instr → ProgramView
program cells inputs outputs instrs = record { target = Magic; cells = cells; inputs = inputs; outputs = outputs; instrs = instrs }

-- the AND of the cells 0 and 1 in cell 4, and these outputs
abbrev and_with : List Port → ProgramView
and_with outputs =
    program 5 (port 0 ∷ port 1 ∷ []) outputs
    (Init (2 ∷ 3 ∷ 4 ∷ []) ∷ Nor 2 (ins.One 1) ∷ Nor 3 (ins.One 0) ∷ Nor 4 (ins.Two 2 3) ∷ [])

abbrev and_program : ProgramView
and_program = and_with (port 4 ∷ [])

-- ---- lines
line_of_zero : result_line and_program Zeros (true ∷ false ∷ []) ≡ codes "0\n"
line_of_zero = refl

line_of_one : result_line and_program Ones (true ∷ true ∷ []) ≡ codes "1\n"
line_of_one = refl

outputs_in_order : result_line (and_with (port 4 ∷ port 1 ∷ port 0 ∷ [])) Zeros (true ∷ false ∷ []) ≡ codes "001\n"
outputs_in_order = refl

a_cell_that_nothing_writes : result_line (program 1 [] (port 0 ∷ []) []) Ones [] ≡ codes "1\n"
a_cell_that_nothing_writes = refl

no_outputs : result_line (program 1 (port 0 ∷ []) [] []) Zeros (true ∷ []) ≡ codes "\n"
no_outputs = refl

-- ---- tables
no_vectors : table and_program Zeros [] ≡ []
no_vectors = refl

and_table : table and_program Zeros ((false ∷ false ∷ []) ∷ (false ∷ true ∷ []) ∷ (true ∷ false ∷ []) ∷ (true ∷ true ∷ []) ∷ []) ≡ codes "0\n0\n0\n1\n"
and_table = refl

-- ---- how many rows are executed together
small_tile : tile_words and_program ≡ 64
small_tile = refl

small_rows : tile_rows and_program ≡ 4096
small_rows = refl

last_small : tile_words (program 65536 [] [] []) ≡ 64
last_small = refl

first_large : tile_words (program 65537 [] [] []) ≡ 4
first_large = refl

large_rows : tile_rows (program 65537 [] [] []) ≡ 256
large_rows = refl

many_outputs : tile_words (program 1 [] (replicate 65537 (port 0)) []) ≡ 4
many_outputs = refl

-- ---- rows of a tile of two columns: column 0 has 5, column 1 has 6
abbrev two_columns : TileView
two_columns = record { columns = 2; words = 1; buffer = 5 ∷ 6 ∷ [] }

third_line : row_line two_columns 2 ≡ codes "11\n"
unfolding vector_of column_in lane is_set
third_line = refl

first_lines : row_lines two_columns 2 ≡ codes "10\n01\n"
unfolding vector_of column_in lane is_set
first_lines = refl

-- ---- the IMPLY machine

abbrev imply_program : ImplyView
imply_program = record {
  cells = 4;
  inputs = port 0 ∷ port 1 ∷ [];
  outputs = port 3 ∷ [];
  instrs = False 2 ∷ Imp 1 2 ∷ Imp 0 2 ∷ False 3 ∷ Imp 2 3 ∷ [];
}

and_of_ones : imply_line imply_program Zeros (true ∷ true ∷ []) ≡ codes "1\n"
and_of_ones = refl

and_of_one_and_zero : imply_line imply_program Ones (true ∷ false ∷ []) ≡ codes "0\n"
and_of_one_and_zero = refl

rows_of_two_inputs : imply_rows 2 ≡ 4096
rows_of_two_inputs = refl

-- an input of 64 MiB has 64 lines of as many characters, the last one without its newline
rows_of_many_inputs : imply_rows 1048575 ≡ 66
rows_of_many_inputs = refl
