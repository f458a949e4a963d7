-- The text of a program of the IMPLY machine, or of a draft of one.
use Rattle.std.specs.Prelude.{ℕ, List, [], ◌∷◌, ◌++◌, length, codes}
use Rattle.pim_text.specs.Parts.{instrs_text as lines_of}
use Rattle.pim_text.specs.Text.{numbers_text, counted_text, ports_text}
use Rattle.pim_imply.specs.declared.instr.ImplyInstr.{ImplyInstr}
use Rattle.pim_imply.specs.declared.instr.ImplyInstr.TheVariants.{False, Imp}
use Rattle.pim_imply.specs.Programs.{ImplyView}

-- an instruction, without its newline
abbrev pub imply_text : ImplyInstr → List ℕ
imply_text (False q) = codes "false" ++ numbers_text (q ∷ [])
imply_text (Imp p q) = codes "imp" ++ numbers_text (p ∷ q ∷ [])

-- the line of each instruction
abbrev pub instrs_text : List ImplyInstr → List ℕ
instrs_text instrs = lines_of imply_text instrs

-- the whole text; the number of cycles is the number of instructions
abbrev pub text : ImplyView → List ℕ
text p =
    counted_text (codes "imply 1\ncells ") p.cells ++ ports_text (codes "input ") p.inputs ++ ports_text (codes "output ") p.outputs
    ++ counted_text (codes "cycles ") (length p.instrs) ++ instrs_text p.instrs ++ codes "end\n"
