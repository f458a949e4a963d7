-- Which drafts have a binary form: those whose numbers are below 2 ^ 32, and whose labels are labels.
use Rattle.std.specs.Prelude.{◌^◌, ◌<◌, ◌∷◌, [], length}
use Rattle.std.specs.List.{AllByRecursion}
use Rattle.pim_isa.specs.declared.instr.Instr.{Instr}
use Rattle.pim_isa.specs.declared.instr.Instr.TheVariants.{Init, Nor, Rm3}
use Rattle.pim_isa.specs.Programs.{ProgramView}
use Rattle.pim_isa.specs.Touches.{operands}
use Rattle.pim_text.specs.Spelled.{AreSpelled, HasPortLine}
use Rattle.pim_file.specs.Binary.{operand_number}

-- the numbers of an instruction, its count of cells among them, can be written
abbrev pub HasBytes : Instr → Type 0
HasBytes (Init cells) = (length cells < 2 ^ 32) × AreSpelled cells
HasBytes (Nor t ins) = AreSpelled (t ∷ operands ins)
HasBytes (Rm3 p q z) = AreSpelled (operand_number p ∷ operand_number q ∷ z ∷ [])

-- a draft that has a binary form; a port has one where it has a line
pub record HasBinary (draft : ProgramView) : Type 0 where
  pub cells : draft.cells < 2 ^ 32
  pub few_inputs : length draft.inputs < 2 ^ 32
  pub inputs : AllByRecursion HasPortLine draft.inputs
  pub few_outputs : length draft.outputs < 2 ^ 32
  pub outputs : AllByRecursion HasPortLine draft.outputs
  pub few_instrs : length draft.instrs < 2 ^ 32
  pub instrs : AllByRecursion HasBytes draft.instrs
