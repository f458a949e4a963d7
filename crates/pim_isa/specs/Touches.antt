-- Which cells an instruction writes, which it reads, and which it names.
use Rattle.std.specs.Prelude.{ℕ, List, [], ◌∷◌, ◌++◌}
use Rattle.pim_isa.specs.declared.instr.Ins.{Ins}
use Rattle.pim_isa.specs.declared.instr.Ins.TheVariants as ins
use Rattle.pim_isa.specs.declared.instr.Operand.{Operand}
use Rattle.pim_isa.specs.declared.instr.Operand.TheVariants as operand
use Rattle.pim_isa.specs.declared.instr.Instr.{Instr}
use Rattle.pim_isa.specs.declared.instr.Instr.TheVariants.{Init, Nor, Rm3}

-- the one to four cells that a NOR reads, in order
abbrev pub operands : Ins → List ℕ
operands (ins.One a) = a ∷ []
operands (ins.Two a b) = a ∷ b ∷ []
operands (ins.Three a b c) = a ∷ b ∷ c ∷ []
operands (ins.Four a b c d) = a ∷ b ∷ c ∷ d ∷ []

-- the cell of an operand, if it is one
abbrev pub operand_cells : Operand → List ℕ
operand_cells operand.Zero = []
operand_cells operand.One = []
operand_cells (operand.Cell c) = c ∷ []

-- the cells that an instruction writes
abbrev pub writes : Instr → List ℕ
writes (Init cells) = cells
writes (Nor t ins) = t ∷ []
writes (Rm3 p q z) = z ∷ []

-- the cells that it reads: its operands, and for an Rm3 the old value of the cell that it writes
abbrev pub reads : Instr → List ℕ
reads (Init cells) = []
reads (Nor t ins) = operands ins
reads (Rm3 p q z) = z ∷ (operand_cells p ++ operand_cells q)

-- the cells that it writes or reads
abbrev pub names : Instr → List ℕ
names i = writes i ++ reads i
