use Rattle.std.proofs.Common.{◌≡◌, drop}
use Rattle.pim_life.specs.inner.Drawing.{emptied}
use Rattle.pim_life.proofs.drawing.empty.Given as goal

-- emptying the cells that are left makes the whole
abbrev pub invariant-loop-cell : goal.invariant-loop-cell
invariant-loop-cell l = emptied (drop l.cell-index l.cells) l.held.items ≡ emptied l.cells l.initial.held.items
