use Rattle.std.proofs.Common.{◌≡◌, ◌+◌, ◌≤◌, max, length, take, drop}
use Rattle.pim_graph.specs.Allotments.{cells_along, cells_from}
use Rattle.pim_graph.specs.Peaks.{peak}
use Rattle.pim_graph.specs.Readers.{CountsReads, still_needed}
use Rattle.pim_graph.specs.inner.Pools.{IsPool}
use Rattle.pim_graph.proofs.Allotting.{HasCells}
use Rattle.pim_graph.proofs.allotments.allot.Given as goal

abbrev pub invariant-loop-place : goal.invariant-loop-place
invariant-loop-place l = record {
  left : CountsReads l.graph (drop l.place l.order) l.left;
  len : length l.cells.items ≡ length l.graph.kids;
  pool : IsPool (still_needed l.graph l.left) (take l.place l.order) l.cells.items l.first l.spares;
  given : HasCells l.graph l.order l.over l.place l.cells.items;
  most : l.spares.next ≤ l.first + peak l.graph l.order;
  cells : max l.spares.next (l.first + cells_from l.graph l.over (take l.place l.order) (drop l.place l.order)) ≡ l.first + cells_along l.graph l.order l.over;
}
