-- Worked examples of reading, by computation.
use Rattle.std.proofs.Common.{true, false, ◌≡◌, ℕ, List, [], ◌∷◌, ◌++◌, Ok, Err, codes, refl}
use Rattle.pim_io.specs.Words.{number_of}
use Rattle.pim_isa.specs.declared.target.Target.TheVariants.{Magic}
use Rattle.pim_isa.specs.declared.instr.Ins.TheVariants as ins
use Rattle.pim_isa.specs.declared.instr.Instr.TheVariants.{Init, Nor}
use Rattle.pim_isa.specs.declared.invalid.Invalid.TheVariants as invalid
use Rattle.pim_file.specs.declared.fault.FileFault.TheVariants as faults
use Rattle.pim_text.specs.Fields.{plain_number}
use Rattle.pim_text.specs.InstrForms.{not_of, instr_of}
use Rattle.pim_file.specs.ProgramFile.{draft_of, parse1_of}
use Rattle.pim_text.specs.Reading.{parts_of}
use Rattle.pim_file.specs.Right.{right}

-- a line of a file
abbrev line : List ℕ → List ℕ
line text = text ++ 10 ∷ []

-- the lines before the ports
abbrev head : List ℕ
head = line (codes "pim 1") ++ line (codes "target magic") ++ line (codes "cells 2")

-- a NOT of cell 0 in cell 1
not_program : parse1_of (head ++ line (codes "input 0 a") ++ line (codes "output 1 f") ++ line (codes "cycles 2") ++ line (codes "init 1") ++ line (codes "not 1 0") ++ line (codes "end"))
    ≡ Ok (record {
      target = Magic;
      cells = 2;
      inputs = record { cell = 0; label = codes "a" } ∷ [];
      outputs = record { cell = 1; label = codes "f" } ∷ [];
      instrs = Init (1 ∷ []) ∷ Nor 1 (ins.One 0) ∷ [];
    })
unfolding parse1_of draft_of parts_of instr_of not_of plain_number number_of
not_program = refl

-- a NOT that reads its target
target_read : parse1_of (head ++ line (codes "cycles 1") ++ line (codes "not 1 1") ++ line (codes "end")) ≡ Err (faults.Invalid (invalid.TargetRead 0))
unfolding parse1_of draft_of parts_of instr_of not_of plain_number number_of
target_read = refl

wrong_line : parse1_of (line (codes "pim 1") ++ line (codes "target magic") ++ line (codes "cells 05")) ≡ Err (faults.Line 3)
unfolding parse1_of draft_of parts_of plain_number number_of
wrong_line = refl

-- an input stands before the outputs
late_input : parse1_of (head ++ line (codes "output 1 f") ++ line (codes "input 0 a")) ≡ Err (faults.Line 5)
unfolding parse1_of draft_of parts_of plain_number number_of
late_input = refl

too_few_cycles : parse1_of (head ++ line (codes "cycles 1") ++ line (codes "end")) ≡ Err (faults.Line 5)
unfolding parse1_of draft_of parts_of instr_of plain_number number_of
too_few_cycles = refl

-- a last piece without a newline is not judged before `end`
cut_off : parse1_of (line (codes "pim 1") ++ codes "wrong") ≡ Err faults.Truncated
unfolding parse1_of draft_of parts_of
cut_off = refl

nothing : parse1_of [] ≡ Err faults.Truncated
unfolding parse1_of draft_of parts_of
nothing = refl

-- behind `end` each byte is wrong
byte_behind_end : parse1_of (head ++ line (codes "cycles 0") ++ line (codes "end") ++ codes "x") ≡ Err (faults.Line 6)
unfolding parse1_of draft_of parts_of plain_number number_of
byte_behind_end = refl

-- too many cells
abbrev large_head : List ℕ
large_head = line (codes "pim 1") ++ line (codes "target plim") ++ line (codes "cells 1048577")

too_large : parse1_of (large_head ++ line (codes "cycles 0") ++ line (codes "end")) ≡ Err faults.TooLarge
unfolding parse1_of draft_of parts_of plain_number number_of
too_large = refl

-- a wrong line comes before too many cells
line_before_size : parse1_of (large_head ++ line (codes "wrong")) ≡ Err (faults.Line 4)
unfolding parse1_of draft_of parts_of plain_number number_of
line_before_size = refl

-- behind the number of cycles as many lines are instructions, and the next one is `end`
instruction_left : right (codes "cycles 1" ∷ codes "cells 2" ∷ []) (codes "init 1") ≡ true
unfolding instr_of plain_number number_of
instruction_left = refl

none_left : right (codes "init 1" ∷ codes "cycles 1" ∷ []) (codes "init 1") ≡ false
unfolding instr_of plain_number number_of
none_left = refl

end_then : right (codes "init 1" ∷ codes "cycles 1" ∷ []) (codes "end") ≡ true
unfolding instr_of plain_number number_of
end_then = refl

nothing_behind_end : right (codes "end" ∷ codes "cycles 0" ∷ []) (codes "end") ≡ false
unfolding instr_of plain_number number_of
nothing_behind_end = refl

no_input_behind_outputs : right (codes "output 1 f" ∷ codes "cells 2" ∷ []) (codes "input 0 a") ≡ false
unfolding instr_of plain_number number_of
no_input_behind_outputs = refl
