-- The machine: what one instruction does to a row of bits, and what a list of them does.
use Rattle.std.specs.Prelude.{ℕ, ◌+◌, ◌||◌, Bool, false, not, List, [], ◌∷◌, map, Option, Some, None, replicate, slice_get, slice_set}
use Rattle.pim_isa.specs.Results.{fill_bit, with_inputs}
use Rattle.pim_isa.specs.Steps.{bit}
use Rattle.pim_isa.specs.declared.target.Fill.{Fill}
use Rattle.pim_imply.specs.declared.instr.ImplyInstr.{ImplyInstr}
use Rattle.pim_imply.specs.declared.instr.ImplyInstr.TheVariants.{False, Imp}
use Rattle.pim_imply.specs.Programs.{ImplyView}

-- the row after one instruction: `False q` clears the cell q, and `Imp p q` leaves in q whether p implies it
abbrev pub istep : List Bool → ImplyInstr → List Bool
istep m (False q) = slice_set m q false
istep m (Imp p q) = slice_set m q (not (bit m p) || bit m q)

-- the row after the instructions in order
abbrev pub iexec : List ImplyInstr → List Bool → List Bool
iexec [] m = m
iexec (i ∷ is) m = iexec is (istep m i)

-- the row at the start: the bits in the input cells, and the filling in the others
abbrev pub load : ImplyView → Fill → List Bool → List Bool
load p fill bits = with_inputs p.inputs bits (replicate p.cells (fill_bit fill))

-- the program, the bits of the cells, and how many instructions were executed
pub record ImplyMachineView : Type 0 where
  pub program : ImplyView
  pub row : List Bool
  pub at : ℕ

-- the state after this instruction, and the same state where there is none
abbrev pub stepped : ImplyMachineView → Option ImplyInstr → ImplyMachineView
stepped m None = m
stepped m (Some i) = record m { row = istep m.row i; at = m.at + 1 }

-- the state after the instruction at hand, and the same state at the end
abbrev pub next_of : ImplyMachineView → ImplyMachineView
next_of m = stepped m (slice_get m.program.instrs m.at)

-- the bits in the output cells when all instructions are done, in order
abbrev pub iresult_of : ImplyView → Fill → List Bool → List Bool
iresult_of p fill bits = map (λ o. bit (iexec p.instrs (load p fill bits)) o.cell) p.outputs
