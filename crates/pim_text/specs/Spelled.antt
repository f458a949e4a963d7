-- Which lines there are: those whose numbers are below 2 ^ 32, and whose labels are labels.
use Rattle.std.specs.Prelude.{ℕ, ◌^◌, ◌<◌, List, ◌∷◌}
use Rattle.std.specs.List.{AllByRecursion}
use Rattle.pim_io.specs.Names.{IsLabel}
use Rattle.pim_isa.specs.declared.port.Port.{Port}
use Rattle.pim_isa.specs.declared.instr.Operand.{Operand}
use Rattle.pim_isa.specs.declared.instr.Operand.TheVariants.{Zero, One, Cell}
use Rattle.pim_isa.specs.declared.instr.Instr.{Instr}
use Rattle.pim_isa.specs.declared.instr.Instr.TheVariants.{Init, Nor, Rm3}
use Rattle.pim_isa.specs.Programs.{ProgramView}
use Rattle.pim_isa.specs.Touches.{operands}

-- numbers that have a spelling
abbrev pub AreSpelled : List ℕ → Type 0
AreSpelled numbers = AllByRecursion (λ n. n < 2 ^ 32) numbers

-- an operand that has a spelling
abbrev pub IsSpelledOperand : Operand → Type 0
IsSpelledOperand Zero = Unit {0}
IsSpelledOperand One = Unit {0}
IsSpelledOperand (Cell c) = c < 2 ^ 32

-- an instruction that has a line
abbrev pub HasLine : Instr → Type 0
HasLine (Init cells) = AreSpelled cells
HasLine (Nor t ins) = AreSpelled (t ∷ operands ins)
HasLine (Rm3 p q z) = IsSpelledOperand p × IsSpelledOperand q × (z < 2 ^ 32)

-- a port that has a line
pub record HasPortLine (port : Port) : Type 0 where
  pub cell : port.cell < 2 ^ 32
  pub label : IsLabel port.label

-- a program whose ports and instructions have lines
pub record HasLines (p : ProgramView) : Type 0 where
  pub cells : p.cells < 2 ^ 32
  pub inputs : AllByRecursion HasPortLine p.inputs
  pub outputs : AllByRecursion HasPortLine p.outputs
  pub instrs : AllByRecursion HasLine p.instrs
