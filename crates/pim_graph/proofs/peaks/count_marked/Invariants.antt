use Rattle.std.proofs.Common.{◌≡◌, ◌+◌, ◌≤◌, count_by, drop}
use Rattle.pim_graph.specs.inner.Marks.{is_marked}
use Rattle.pim_graph.proofs.peaks.count_marked.Given as goal

abbrev pub invariant-loop-gate : goal.invariant-loop-gate
invariant-loop-gate l = record {
  counted : l.count + count_by (is_marked l.marks) (drop l.gate-index l.gates) ≡ count_by (is_marked l.marks) l.gates;
  few : l.count ≤ l.gate-index;
}
