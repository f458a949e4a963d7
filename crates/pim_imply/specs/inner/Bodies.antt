-- Inner: a draft and a program of the IMPLY machine are kept as the ports and cells of a program without instructions, and a list.
use Rattle.std.specs.Prelude.{◌≡◌, ◌≤◌, List, [], length, None}
use Rattle.pim_isa.specs.Programs.{ProgramView}
use Rattle.pim_isa.specs.Sound.{IsProgram}
use Rattle.pim_isa.specs.declared.draft.TheConstants.{MAX_INSTRS}
use Rattle.pim_isa.specs.declared.target.Target.TheVariants.{Plim}
use Rattle.pim_imply.specs.declared.instr.ImplyInstr.{ImplyInstr}
use Rattle.pim_imply.specs.Programs.{ImplyView}
use Rattle.pim_imply.specs.Validity.{fault_of}

-- the draft with the ports and cells of this body, and these instructions
abbrev pub with_body : ProgramView → List ImplyInstr → ImplyView
with_body body instrs = record { cells = body.cells; inputs = body.inputs; outputs = body.outputs; instrs = instrs }

-- the body has no instructions
pub record IsBody (body : ProgramView) : Type 0 where
  pub target : body.target ≡ Plim
  pub instrs : body.instrs ≡ []

-- a body that is a program, and instructions without a fault
pub record IsImply (body : ProgramView) (instrs : List ImplyInstr) : Type 0 where
  pub sound : IsProgram body
  pub bare : IsBody body
  pub few : length instrs ≤ MAX_INSTRS
  pub faultless : fault_of (with_body body instrs) ≡ None
