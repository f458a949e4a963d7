use Rattle.std.proofs.Common.{◌≡◌, drop}
use Rattle.pim_isa.specs.Steps.{bit}
use Rattle.pim_prove.specs.Clean.{first_unset_of}
use Rattle.pim_prove.proofs.marks.Marks.first_of.Given as goal

-- the first of the cells that are left is the first of all
abbrev pub invariant-loop-cell : goal.invariant-loop-cell
invariant-loop-cell l = first_unset_of (bit l.self) (drop l.cell-index l.cells) ≡ first_unset_of (bit l.self) l.cells
