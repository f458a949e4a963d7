-- How a line of a program's text is spelled: single spaces, and decimal numbers without leading zeros.
use Rattle.std.specs.Prelude.{ℕ, List, [], ◌∷◌, ◌++◌, codes, map, decimal}
use Rattle.pim_isa.specs.declared.target.Target.{Target}
use Rattle.pim_isa.specs.declared.target.Target.TheVariants.{Magic, Plim}
use Rattle.pim_isa.specs.declared.port.Port.{Port}
use Rattle.pim_isa.specs.declared.instr.Ins.{Ins}
use Rattle.pim_isa.specs.declared.instr.Ins.TheVariants.{Two, Three, Four, One as Single}
use Rattle.pim_isa.specs.declared.instr.Operand.{Operand}
use Rattle.pim_isa.specs.declared.instr.Operand.TheVariants.{Zero, One, Cell}
use Rattle.pim_isa.specs.declared.instr.Instr.{Instr}
use Rattle.pim_isa.specs.declared.instr.Instr.TheVariants.{Init, Nor, Rm3}

-- the word of a target
abbrev pub target_word : Target → List ℕ
target_word Magic = codes "magic"
target_word Plim = codes "plim"

-- each number after a space
abbrev pub numbers_text : List ℕ → List ℕ
numbers_text [] = []
numbers_text (n ∷ ns) = (codes " " ++ decimal n) ++ numbers_text ns

-- an operand of an RM3: a constant after a hash, a cell after an at sign
abbrev pub operand_text : Operand → List ℕ
operand_text Zero = codes "#0"
operand_text One = codes "#1"
operand_text (Cell c) = codes "@" ++ decimal c

-- the word and the operands of a NOR with the target t: of one operand it is a NOT
abbrev pub nor_text : ℕ → Ins → List ℕ
nor_text t (Single a) = codes "not" ++ numbers_text (t ∷ a ∷ [])
nor_text t (Two a b) = codes "nor" ++ numbers_text (t ∷ a ∷ b ∷ [])
nor_text t (Three a b c) = codes "nor" ++ numbers_text (t ∷ a ∷ b ∷ c ∷ [])
nor_text t (Four a b c d) = codes "nor" ++ numbers_text (t ∷ a ∷ b ∷ c ∷ d ∷ [])

-- an instruction, without its newline
abbrev pub instr_text : Instr → List ℕ
instr_text (Init cells) = codes "init" ++ numbers_text cells
instr_text (Nor t ins) = nor_text t ins
instr_text (Rm3 p q z) =
    codes "rm3 " ++ operand_text p ++ codes " " ++ operand_text q ++ codes " @" ++ decimal z

-- the words of a NOR with the target t
abbrev pub nor_words : ℕ → Ins → List (List ℕ)
nor_words t (Single a) = codes "not" ∷ map decimal (t ∷ a ∷ [])
nor_words t (Two a b) = codes "nor" ∷ map decimal (t ∷ a ∷ b ∷ [])
nor_words t (Three a b c) = codes "nor" ∷ map decimal (t ∷ a ∷ b ∷ c ∷ [])
nor_words t (Four a b c d) = codes "nor" ∷ map decimal (t ∷ a ∷ b ∷ c ∷ d ∷ [])

-- the words of an instruction
abbrev pub instr_words : Instr → List (List ℕ)
instr_words (Init cells) = codes "init" ∷ map decimal cells
instr_words (Nor t ins) = nor_words t ins
instr_words (Rm3 p q z) = codes "rm3" ∷ operand_text p ∷ operand_text q ∷ (codes "@" ++ decimal z) ∷ []

-- the line of a target, without its newline
abbrev pub target_line : Target → List ℕ
target_line target = codes "target " ++ target_word target

-- a word, a number and a newline
abbrev pub counted_text : List ℕ → ℕ → List ℕ
counted_text word n = word ++ decimal n ++ codes "\n"

-- the line of a port, without its newline: the word that says which kind it is, its cell, and its label to the end of the line
abbrev pub port_line : List ℕ → Port → List ℕ
port_line word port = word ++ decimal port.cell ++ codes " " ++ port.label

-- the same with its newline
abbrev pub port_text : List ℕ → Port → List ℕ
port_text word port = port_line word port ++ codes "\n"

-- the line of each port
abbrev pub ports_text : List ℕ → List Port → List ℕ
ports_text word [] = []
ports_text word (port ∷ ports) = port_text word port ++ ports_text word ports
