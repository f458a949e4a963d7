-- Which drafts have a text: those whose numbers are below 2 ^ 32, and whose labels are labels.
use Rattle.std.specs.Prelude.{◌^◌, ◌<◌, length}
use Rattle.std.specs.List.{AllByRecursion}
use Rattle.pim_isa.specs.Programs.{ProgramView}
use Rattle.pim_text.specs.Spelled.{HasLine, HasPortLine}

-- a draft that has a text
pub record HasText (draft : ProgramView) : Type 0 where
  pub cells : draft.cells < 2 ^ 32
  pub inputs : AllByRecursion HasPortLine draft.inputs
  pub outputs : AllByRecursion HasPortLine draft.outputs
  pub cycles : length draft.instrs < 2 ^ 32
  pub instrs : AllByRecursion HasLine draft.instrs
