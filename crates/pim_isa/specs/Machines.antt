-- What a machine is seen as, and what one step of it does.
use Rattle.std.specs.Prelude.{ℕ, ◌+◌, Bool, List, Option, Some, None, slice_get}
use Rattle.pim_isa.specs.declared.instr.Instr.{Instr}
use Rattle.pim_isa.specs.Programs.{ProgramView}
use Rattle.pim_isa.specs.Steps.{step}

-- the program, the bits of the cells, and how many instructions were executed
pub record MachineView : Type 0 where
  pub program : ProgramView
  pub row : List Bool
  pub at : ℕ

-- the state after this instruction, and the same state where there is none
abbrev pub stepped : MachineView → Option Instr → MachineView
stepped m None = m
stepped m (Some i) = record m { row = step m.row i; at = m.at + 1 }

-- the state after the instruction at hand, and the same state at the end
abbrev pub next_of : MachineView → MachineView
next_of m = stepped m (slice_get m.program.instrs m.at)
