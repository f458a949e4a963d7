-- What a program and a draft of one are seen as: plain lists and numbers.
use Rattle.std.specs.Prelude.{ℕ, List}
use Rattle.pim_isa.specs.declared.target.Target.{Target}
use Rattle.pim_isa.specs.declared.port.Port.{Port}
use Rattle.pim_isa.specs.declared.instr.Instr.{Instr}

-- the target, the number of cells, the ports in order and the instructions in order
pub record ProgramView : Type 0 where
  pub target : Target
  pub cells : ℕ
  pub inputs : List Port
  pub outputs : List Port
  pub instrs : List Instr

-- the labels of the inputs and of the outputs, in order
pub record PortsView : Type 0 where
  pub inputs : List (List ℕ)
  pub outputs : List (List ℕ)
