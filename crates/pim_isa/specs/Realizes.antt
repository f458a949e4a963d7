-- What it is for a program to compute a function of bits in one row, whatever the other cells hold at the start.
use Rattle.std.specs.Prelude.{◌≡◌, ℕ, ◌<◌, ◌≤◌, Bool, false, List, length, map, take, Some, slice_get}
use Rattle.pim_isa.specs.declared.instr.Instr.{Instr}
use Rattle.pim_isa.specs.Programs.{ProgramView}
use Rattle.pim_isa.specs.PortLists.{input_ports}
use Rattle.pim_isa.specs.Steps.{bit, exec}
use Rattle.pim_isa.specs.Touches.{writes}
use Rattle.pim_isa.specs.Validity.{has}

-- the inputs stand in the first cells, with these labels, and no instruction writes them; from every row that begins
-- with the inputs' bits, whatever its other cells hold, the output cells end with the bits that f gives; the row keeps its
-- length, and every cell that is not the program's stays as it was
pub record Realizes (p : ProgramView) (labels : List (List ℕ)) (f : List Bool → List Bool) : Type 0 where
  pub inputs : p.inputs ≡ input_ports 0 labels
  pub keeps_inputs : (k c : ℕ) (i : Instr) → slice_get p.instrs k ≡ Some i → c < length labels → has c (writes i) ≡ false
  pub gives_outputs : (m bits : List Bool) → length bits ≡ length labels → p.cells ≤ length m → take (length labels) m ≡ bits →
      map (λ o. bit (exec p.instrs m) o.cell) p.outputs ≡ f bits
  pub keeps_length : (m : List Bool) → length (exec p.instrs m) ≡ length m
  pub keeps_others : (m : List Bool) (c : ℕ) → p.cells ≤ c → bit (exec p.instrs m) c ≡ bit m c
