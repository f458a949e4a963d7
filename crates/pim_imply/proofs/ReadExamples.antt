-- Worked examples of reading, by computation.
use Rattle.std.proofs.Common.{◌≡◌, ℕ, List, [], ◌∷◌, ◌++◌, Some, None, Ok, Err, codes, refl}
use Rattle.pim_io.specs.Words.{number_of}
use Rattle.pim_text.specs.Fields.{plain_number}
use Rattle.pim_text.specs.Reading.{parts_of}
use Rattle.pim_imply.specs.Lines.{instr_of}
use Rattle.pim_imply.specs.Reading.{draft_of, imply_of}
use Rattle.pim_imply.specs.declared.fault.ImplyFault.TheVariants as faults
use Rattle.pim_imply.specs.declared.instr.ImplyInstr.TheVariants.{False, Imp}
use Rattle.pim_imply.specs.declared.invalid.ImplyInvalid.TheVariants as invalid

-- a line of a text
abbrev line : List ℕ → List ℕ
line text = text ++ 10 ∷ []

-- the lines before the ports
abbrev head : List ℕ
head = line (codes "imply 1") ++ line (codes "cells 2")

imp_line : instr_of (codes "imp 10 2") ≡ Some (Imp 10 2)
unfolding plain_number number_of
imp_line = refl

blank_behind : instr_of (codes "imp 1 2 ") ≡ None
unfolding plain_number number_of
blank_behind = refl

two_spaces : instr_of (codes "false  2") ≡ None
unfolding plain_number number_of
two_spaces = refl

leading_zero : instr_of (codes "imp 1 02") ≡ None
unfolding plain_number number_of
leading_zero = refl

-- a NOT of cell 0 in cell 1
not_program : imply_of (head ++ line (codes "input 0 a") ++ line (codes "output 1 f") ++ line (codes "cycles 2") ++ line (codes "false 1") ++ line (codes "imp 0 1") ++ line (codes "end"))
    ≡ Ok (record {
      cells = 2;
      inputs = record { cell = 0; label = codes "a" } ∷ [];
      outputs = record { cell = 1; label = codes "f" } ∷ [];
      instrs = False 1 ∷ Imp 0 1 ∷ [];
    })
unfolding imply_of draft_of parts_of plain_number number_of
not_program = refl

same_cell : imply_of (head ++ line (codes "cycles 1") ++ line (codes "imp 1 1") ++ line (codes "end")) ≡ Err (faults.Invalid (invalid.SameCell 0))
unfolding imply_of draft_of parts_of plain_number number_of
same_cell = refl

-- an input stands before the outputs
late_input : imply_of (head ++ line (codes "output 1 f") ++ line (codes "input 0 a")) ≡ Err (faults.Line 4)
unfolding imply_of draft_of parts_of plain_number number_of
late_input = refl

too_few_cycles : imply_of (head ++ line (codes "cycles 1") ++ line (codes "end")) ≡ Err (faults.Line 4)
unfolding imply_of draft_of parts_of plain_number number_of
too_few_cycles = refl

-- a last piece without a newline is not judged before `end`
cut_off : imply_of (line (codes "imply 1") ++ codes "wrong") ≡ Err faults.Truncated
unfolding imply_of draft_of parts_of
cut_off = refl

nothing : imply_of [] ≡ Err faults.Truncated
unfolding imply_of draft_of parts_of
nothing = refl

-- behind `end` each byte is wrong
byte_behind_end : imply_of (head ++ line (codes "cycles 0") ++ line (codes "end") ++ codes "x") ≡ Err (faults.Line 5)
unfolding imply_of draft_of parts_of plain_number number_of
byte_behind_end = refl

abbrev large_head : List ℕ
large_head = line (codes "imply 1") ++ line (codes "cells 1048577")

too_large : imply_of (large_head ++ line (codes "cycles 0") ++ line (codes "end")) ≡ Err faults.TooLarge
unfolding imply_of draft_of parts_of plain_number number_of
too_large = refl

-- a wrong line comes before too many cells
line_before_size : imply_of (large_head ++ line (codes "wrong")) ≡ Err (faults.Line 3)
unfolding imply_of draft_of parts_of plain_number number_of
line_before_size = refl
