-- Worked examples of the binary form, by computation.
use Rattle.std.proofs.Common.{◌≡◌, List, ℕ, [], ◌∷◌, ◌++◌, Ok, Err, codes, refl}
use Rattle.pim_io.specs.Codes.{code_of, code_at}
use Rattle.pim_isa.specs.Programs.{ProgramView}
use Rattle.pim_isa.specs.declared.target.Target.TheVariants.{Magic, Plim}
use Rattle.pim_isa.specs.declared.instr.Ins.TheVariants as ins
use Rattle.pim_isa.specs.declared.instr.Operand.TheVariants as operand
use Rattle.pim_isa.specs.declared.instr.Instr.TheVariants.{Init, Nor, Rm3}
use Rattle.pim_file.specs.declared.fault.FileFault.TheVariants as faults
use Rattle.pim_file.specs.Items.{shown_at, number_at, length_at, many, counted}
use Rattle.pim_file.specs.BinaryReading.{target_at, port_at, init_at, nor1_at, nor2_at, operand_number_at, rm3_at, instr_at, draft_at, draft2_of, parse2_of, parse_of}
use Rattle.pim_file.specs.ProgramFile.{draft_of, parse1_of}
use Rattle.pim_text.specs.Reading.{parts_of}
use Rattle.pim_file.specs.Binary.{bin}

-- the program of a two-input AND
abbrev and_program : ProgramView
and_program = record {
  target = Magic;
  cells = 5;
  inputs = record { cell = 0; label = codes "i0" } ∷ record { cell = 1; label = codes "i1" } ∷ [];
  outputs = record { cell = 4; label = codes "o0" } ∷ [];
  instrs = Init (2 ∷ 3 ∷ 4 ∷ []) ∷ Nor 2 (ins.One 1) ∷ Nor 3 (ins.One 0) ∷ Nor 4 (ins.Two 2 3) ∷ [];
}

-- the ports of the AND, and its instructions
abbrev and_ports : List ℕ
and_ports = 2 ∷ 0 ∷ 2 ∷ 105 ∷ 48 ∷ 1 ∷ 2 ∷ 105 ∷ 49 ∷ 1 ∷ 4 ∷ 2 ∷ 111 ∷ 48 ∷ []

abbrev and_instrs : List ℕ
and_instrs = 4 ∷ 0 ∷ 3 ∷ 2 ∷ 3 ∷ 4 ∷ 1 ∷ 2 ∷ 1 ∷ 1 ∷ 3 ∷ 0 ∷ 2 ∷ 4 ∷ 2 ∷ 3 ∷ []

and_form : bin and_program ≡ codes "pim2\n" ++ (0 ∷ 5 ∷ []) ++ and_ports ++ and_instrs
unfolding code_of
and_form = refl

and_read : parse_of (codes "pim2\n" ++ (0 ∷ 5 ∷ []) ++ and_ports ++ and_instrs) ≡ Ok and_program
unfolding parse_of parse2_of draft2_of draft_at target_at counted many number_at length_at shown_at port_at init_at nor1_at nor2_at instr_at code_of code_at
and_read = refl

-- a number that has a longer spelling than it needs is wrong at its last byte
longer_spelling : parse_of (codes "pim2\n" ++ (0 ∷ 133 ∷ 0 ∷ []) ++ and_ports ++ and_instrs) ≡ Err (faults.Byte 7)
unfolding parse_of parse2_of draft2_of draft_at target_at number_at code_of code_at
longer_spelling = refl

-- a number that is cut is cut off, and five bytes from 128 on are wrong at the fifth
cut_number : parse_of (codes "pim2\n" ++ 0 ∷ 128 ∷ 128 ∷ 128 ∷ 128 ∷ []) ≡ Err faults.Truncated
unfolding parse_of parse2_of draft2_of draft_at target_at number_at code_of code_at
cut_number = refl

five_high_bytes : parse_of (codes "pim2\n" ++ 0 ∷ 128 ∷ 128 ∷ 128 ∷ 128 ∷ 128 ∷ []) ≡ Err (faults.Byte 10)
unfolding parse_of parse2_of draft2_of draft_at target_at number_at code_of code_at
five_high_bytes = refl

past_32_bits : parse_of (codes "pim2\n" ++ 0 ∷ 255 ∷ 255 ∷ 255 ∷ 255 ∷ 16 ∷ []) ≡ Err (faults.Byte 10)
unfolding parse_of parse2_of draft2_of draft_at target_at number_at code_of code_at
past_32_bits = refl

third_target : parse_of (codes "pim2\n" ++ 2 ∷ 5 ∷ []) ≡ Err (faults.Byte 5)
unfolding parse_of parse2_of draft2_of draft_at target_at
third_target = refl

-- an input in cell 0 whose label has no byte
no_label : parse_of (codes "pim2\n" ++ 0 ∷ 5 ∷ 1 ∷ 0 ∷ 0 ∷ []) ≡ Err (faults.Byte 9)
unfolding parse_of parse2_of draft2_of draft_at target_at counted many number_at length_at port_at code_of code_at
no_label = refl

-- a label with the byte 127
hidden_byte : parse_of (codes "pim2\n" ++ 0 ∷ 5 ∷ 1 ∷ 0 ∷ 2 ∷ 97 ∷ 127 ∷ []) ≡ Err (faults.Byte 11)
unfolding parse_of parse2_of draft2_of draft_at target_at counted many number_at length_at shown_at port_at code_of code_at
hidden_byte = refl

-- no ports and one instruction of no kind
no_kind : parse_of (codes "pim2\n" ++ 0 ∷ 5 ∷ 0 ∷ 0 ∷ 1 ∷ 6 ∷ []) ≡ Err (faults.Byte 10)
unfolding parse_of parse2_of draft2_of draft_at target_at counted many number_at instr_at code_of code_at
no_kind = refl

-- the first byte behind the last instruction
byte_behind : parse_of (codes "pim2\n" ++ 0 ∷ 5 ∷ 0 ∷ 0 ∷ 0 ∷ 7 ∷ 7 ∷ []) ≡ Err (faults.Byte 10)
unfolding parse_of parse2_of draft2_of draft_at target_at counted many number_at code_of code_at
byte_behind = refl

-- too many cells are judged once all is read
too_large : parse_of (codes "pim2\n" ++ 0 ∷ 129 ∷ 128 ∷ 64 ∷ 0 ∷ 0 ∷ 0 ∷ []) ≡ Err faults.TooLarge
unfolding parse_of parse2_of draft2_of draft_at target_at counted many number_at code_of code_at
too_large = refl

-- the constants 0 and 1 of an RM3, and the cells 0 and 1
operands : parse_of (codes "pim2\n" ++ 1 ∷ 3 ∷ 0 ∷ 0 ∷ 2 ∷ 3 ∷ 0 ∷ 1 ∷ 2 ∷ 3 ∷ 3 ∷ 2 ∷ 2 ∷ [])
    ≡ Ok (record { target = Plim; cells = 3; inputs = []; outputs = []; instrs = Rm3 operand.Zero operand.One 2 ∷ Rm3 (operand.Cell 1) (operand.Cell 0) 2 ∷ [] })
unfolding parse_of parse2_of draft2_of draft_at target_at counted many number_at instr_at rm3_at operand_number_at code_of code_at
operands = refl

-- four of the five bytes are text, which has no line
four_bytes : parse_of (codes "pim2") ≡ Err faults.Truncated
unfolding parse_of parse1_of draft_of parts_of
four_bytes = refl
