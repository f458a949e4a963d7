-- Which drafts have a text: those whose numbers are below 2 ^ 32, and whose labels are labels.
use Rattle.std.specs.Prelude.{◌^◌, ◌<◌, ◌≤◌, length}
use Rattle.std.specs.List.{AllByRecursion}
use Rattle.pim_isa.specs.declared.draft.TheConstants.{MAX_CELLS}
use Rattle.pim_text.specs.Spelled.{HasPortLine}
use Rattle.pim_imply.specs.declared.instr.ImplyInstr.{ImplyInstr}
use Rattle.pim_imply.specs.declared.instr.ImplyInstr.TheVariants.{False, Imp}
use Rattle.pim_imply.specs.Programs.{ImplyView}

-- an instruction that has a line
abbrev pub HasLine : ImplyInstr → Type 0
HasLine (False q) = q < 2 ^ 32
HasLine (Imp p q) = (p < 2 ^ 32) × (q < 2 ^ 32)

-- a draft that has a text, of at most as many cells as a program may have
pub record HasText (draft : ImplyView) : Type 0 where
  pub cells : draft.cells ≤ MAX_CELLS
  pub inputs : AllByRecursion HasPortLine draft.inputs
  pub outputs : AllByRecursion HasPortLine draft.outputs
  pub cycles : length draft.instrs < 2 ^ 32
  pub instrs : AllByRecursion HasLine draft.instrs
