use Rattle.std.proofs.Common.{◌≡◌, drop, length}
use Rattle.pim_isa.specs.Sound.{cells_of}
use Rattle.pim_isa.specs.Steps.{bit}
use Rattle.pim_prove.specs.Clean.{unset_of}
use Rattle.pim_prove.specs.inner.Marks.{unset_from}
use Rattle.pim_prove.proofs.unset.find_unset.Given as goal

-- the first of the instructions that are left is the first of all
abbrev pub invariant-loop-place : goal.invariant-loop-place
invariant-loop-place l = record {
  first : unset_from (bit l.marks) l.place (drop l.place l.instr-items) (cells_of l.outputs) ≡ unset_of l.program;
  long : length l.marks ≡ l.program.cells;
}
