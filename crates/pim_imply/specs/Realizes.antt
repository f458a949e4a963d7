-- What it is for a program to compute a function of bits in one row, whatever the other cells hold at the start.
use Rattle.std.specs.Prelude.{◌≡◌, ◌≢◌, ℕ, ◌<◌, ◌≤◌, Bool, List, length, map, take, Some, slice_get}
use Rattle.pim_isa.specs.PortLists.{input_ports}
use Rattle.pim_isa.specs.Steps.{bit}
use Rattle.pim_imply.specs.declared.instr.ImplyInstr.{ImplyInstr}
use Rattle.pim_imply.specs.declared.instr.ImplyInstr.TheVariants.{False, Imp}
use Rattle.pim_imply.specs.Machines.{iexec}
use Rattle.pim_imply.specs.Programs.{ImplyView}

-- the cell that an instruction writes
abbrev pub written : ImplyInstr → ℕ
written (False q) = q
written (Imp p q) = q

-- the inputs stand in the first cells, with these labels, and no instruction writes them; from every row that begins
-- with the inputs' bits, whatever its other cells hold, the output cells end with the bits that f gives; the row keeps its
-- length, and every cell that is not the program's stays as it was
pub record IRealizes (p : ImplyView) (labels : List (List ℕ)) (f : List Bool → List Bool) : Type 0 where
  pub inputs : p.inputs ≡ input_ports 0 labels
  pub keeps_inputs : (k c : ℕ) (i : ImplyInstr) → slice_get p.instrs k ≡ Some i → c < length labels → written i ≢ c
  pub gives_outputs : (m bits : List Bool) → length bits ≡ length labels → p.cells ≤ length m → take (length labels) m ≡ bits →
      map (λ o. bit (iexec p.instrs m) o.cell) p.outputs ≡ f bits
  pub keeps_length : (m : List Bool) → length (iexec p.instrs m) ≡ length m
  pub keeps_others : (m : List Bool) (c : ℕ) → p.cells ≤ c → bit (iexec p.instrs m) c ≡ bit m c
