-- What a program of the IMPLY machine and a draft of one are seen as: plain lists and numbers.
use Rattle.std.specs.Prelude.{ℕ, List, []}
use Rattle.pim_isa.specs.Programs.{ProgramView}
use Rattle.pim_isa.specs.declared.port.Port.{Port}
use Rattle.pim_isa.specs.declared.target.Target.TheVariants.{Plim}
use Rattle.pim_imply.specs.declared.instr.ImplyInstr.{ImplyInstr}

-- the number of cells, the ports in order and the instructions in order
pub record ImplyView : Type 0 where
  pub cells : ℕ
  pub inputs : List Port
  pub outputs : List Port
  pub instrs : List ImplyInstr

-- the cells and the ports as a program without instructions; its target is of no account
abbrev pub body_of : ImplyView → ProgramView
body_of d = record { target = Plim; cells = d.cells; inputs = d.inputs; outputs = d.outputs; instrs = [] }
