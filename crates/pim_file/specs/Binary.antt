-- The binary form of a program or of a draft of one: bytes and seven-bit numbers, each in its shortest spelling.
use Rattle.std.specs.Prelude.{ℕ, ◌+◌, List, [], ◌∷◌, ◌++◌, length}
use Rattle.pim_io.specs.Codes.{code_of}
use Rattle.pim_isa.specs.declared.target.Target.{Target}
use Rattle.pim_isa.specs.declared.target.Target.TheVariants.{Magic, Plim}
use Rattle.pim_isa.specs.declared.port.Port.{Port}
use Rattle.pim_isa.specs.declared.instr.Ins.{Ins}
use Rattle.pim_isa.specs.declared.instr.Ins.TheVariants.{Two, Three, Four, One as Single}
use Rattle.pim_isa.specs.declared.instr.Operand.{Operand}
use Rattle.pim_isa.specs.declared.instr.Operand.TheVariants.{Zero, One, Cell}
use Rattle.pim_isa.specs.declared.instr.Instr.{Instr}
use Rattle.pim_isa.specs.declared.instr.Instr.TheVariants.{Init, Nor, Rm3}
use Rattle.pim_isa.specs.Programs.{ProgramView}
use Rattle.pim_file.specs.BinaryReading.{tag}

-- the byte of a target
abbrev pub target_byte : Target → ℕ
target_byte Magic = 0
target_byte Plim = 1

-- the form of each, one after another
abbrev pub each_bin : {X : Type 0} → (X → List ℕ) → List X → List ℕ
each_bin bin [] = []
each_bin bin (x ∷ xs) = bin x ++ each_bin bin xs

-- how many there are, and the form of each
abbrev pub counted_bin : {X : Type 0} → (X → List ℕ) → List X → List ℕ
counted_bin bin xs = code_of (length xs) ++ each_bin bin xs

-- numbers, one after another
abbrev pub numbers_bin : List ℕ → List ℕ
numbers_bin numbers = each_bin code_of numbers

-- a port: its cell, how long its label is, and the label
abbrev pub port_bin : Port → List ℕ
port_bin port = code_of port.cell ++ (code_of (length port.label) ++ port.label)

-- the number of an operand of an RM3: 0 and 1 for the constants, two more than a cell
abbrev pub operand_number : Operand → ℕ
operand_number Zero = 0
operand_number One = 1
operand_number (Cell c) = c + 2

-- a NOR with the target t: a byte for how many operands it has, the target, and the operands
abbrev pub nor_bin : ℕ → Ins → List ℕ
nor_bin t (Single a) = 1 ∷ numbers_bin (t ∷ a ∷ [])
nor_bin t (Two a b) = 2 ∷ numbers_bin (t ∷ a ∷ b ∷ [])
nor_bin t (Three a b c) = 4 ∷ numbers_bin (t ∷ a ∷ b ∷ c ∷ [])
nor_bin t (Four a b c d) = 5 ∷ numbers_bin (t ∷ a ∷ b ∷ c ∷ d ∷ [])

-- an instruction: the byte of its kind, and its numbers
abbrev pub instr_bin : Instr → List ℕ
instr_bin (Init cells) = 0 ∷ counted_bin code_of cells
instr_bin (Nor t ins) = nor_bin t ins
instr_bin (Rm3 p q z) = 3 ∷ numbers_bin (operand_number p ∷ operand_number q ∷ z ∷ [])

-- the whole form behind its first five bytes
abbrev pub body_bin : ProgramView → List ℕ
body_bin p =
    target_byte p.target
    ∷ (code_of p.cells ++ (counted_bin port_bin p.inputs ++ (counted_bin port_bin p.outputs ++ counted_bin instr_bin p.instrs)))

-- the whole form
abbrev pub bin : ProgramView → List ℕ
bin p = tag ++ body_bin p
