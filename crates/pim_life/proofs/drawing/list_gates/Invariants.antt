use Rattle.std.proofs.Common.{◌≡◌, ◌≤◌, [], drop, length}
use Rattle.pim_life.specs.inner.Drawing.{gates_held}
use Rattle.pim_life.proofs.drawing.list_gates.Given as goal

-- the gates so far, with those of the cells that are left, are all
abbrev pub invariant-loop-cell : goal.invariant-loop-cell
invariant-loop-cell l = record {
  gates : gates_held l.held l.gates.items (drop l.cell-index l.cells) ≡ gates_held l.held [] l.cells;
  few : length l.gates.items ≤ l.cell-index;
}
