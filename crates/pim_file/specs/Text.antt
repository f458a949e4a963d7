-- The text of a program or of a draft of one: single spaces, decimal numbers without leading zeros, a newline after each line.
use Rattle.std.specs.Prelude.{ℕ, List, ◌++◌, length, codes}
use Rattle.pim_isa.specs.Programs.{ProgramView}
use Rattle.pim_isa.specs.declared.target.Target.{Target}
use Rattle.pim_isa.specs.declared.instr.Instr.{Instr}
use Rattle.pim_text.specs.Parts.{instrs_text as lines_of}
use Rattle.pim_text.specs.Text.{target_word, instr_text, counted_text, ports_text}

-- the line of each instruction
abbrev pub instrs_text : List Instr → List ℕ
instrs_text instrs = lines_of instr_text instrs

-- the lines before the ports
abbrev pub head_text : Target → ℕ → List ℕ
head_text target cells =
    codes "pim 1\ntarget " ++ target_word target ++ counted_text (codes "\ncells ") cells

-- the whole text; the number of cycles is the number of instructions
abbrev pub text : ProgramView → List ℕ
text p =
    head_text p.target p.cells ++ ports_text (codes "input ") p.inputs ++ ports_text (codes "output ") p.outputs
    ++ counted_text (codes "cycles ") (length p.instrs) ++ instrs_text p.instrs ++ codes "end\n"
