-- The listing of a program: assembly without names, where each instruction has its number as a comment.
use Rattle.std.specs.Prelude.{ℕ, ◌+◌, List, [], ◌∷◌, ◌++◌, codes, decimal}
use Rattle.pim_isa.specs.Programs.{ProgramView}
use Rattle.pim_isa.specs.declared.port.Port.{Port}
use Rattle.pim_isa.specs.declared.instr.Instr.{Instr}
use Rattle.pim_text.specs.Text.{instr_text, counted_text, target_line}
use Rattle.pim_asm.specs.Labels.{quoted}

-- the line of a port: the word that says which kind it is, its cell, and its label in quotes
abbrev pub port_listing : List ℕ → Port → List ℕ
port_listing word port = word ++ decimal port.cell ++ codes " " ++ quoted port.label ++ codes "\n"

-- the line of each port
abbrev pub ports_listing : List ℕ → List Port → List ℕ
ports_listing word [] = []
ports_listing word (port ∷ ports) = port_listing word port ++ ports_listing word ports

-- the line of the instruction number k
abbrev pub instr_listing : ℕ → Instr → List ℕ
instr_listing k instr = instr_text instr ++ codes " ; " ++ decimal k ++ codes "\n"

-- the line of each instruction, of which the first has the number k
abbrev pub instrs_listing : ℕ → List Instr → List ℕ
instrs_listing k [] = []
instrs_listing k (instr ∷ instrs) = instr_listing k instr ++ instrs_listing (k + 1) instrs

-- the whole listing
abbrev pub listing_of : ProgramView → List ℕ
listing_of p =
    target_line p.target ++ counted_text (codes "\ncells ") p.cells ++ ports_listing (codes "input ") p.inputs
    ++ ports_listing (codes "output ") p.outputs ++ instrs_listing 0 p.instrs
