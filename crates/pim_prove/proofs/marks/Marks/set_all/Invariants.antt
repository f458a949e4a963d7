use Rattle.std.proofs.Common.{◌≡◌, drop}
use Rattle.pim_isa.specs.Steps.{set_ones}
use Rattle.pim_prove.proofs.marks.Marks.set_all.Given as goal

-- setting the cells that are left makes the whole
abbrev pub invariant-loop-cell : goal.invariant-loop-cell
invariant-loop-cell l = set_ones (drop l.cell-index l.cells) l.self ≡ set_ones l.cells l.initial.self
