use Rattle.std.proofs.Common.{◌≡◌, drop}
use Rattle.pim_isa.specs.Steps.{set_ones}
use Rattle.pim_isa.proofs.row.Row.set_ones.Given as goal

-- the rest of the cells, on the row so far, gives what all of them give
abbrev pub invariant-loop-cell : goal.invariant-loop-cell
invariant-loop-cell l = set_ones (drop l.cell-index l.cells) l.self ≡ set_ones l.cells l.initial.self
