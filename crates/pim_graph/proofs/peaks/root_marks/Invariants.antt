use Rattle.std.proofs.Common.{◌≡◌, ◌<◌, ◌||◌, ℕ, drop, length, vec_len}
use Rattle.pim_graph.specs.Graphs.{has}
use Rattle.pim_graph.specs.inner.Marks.{is_marked}
use Rattle.pim_graph.proofs.peaks.root_marks.Given as goal

abbrev pub invariant-loop-root : goal.invariant-loop-root
invariant-loop-root l = record {
  len : vec_len l.marks ≡ length l.graph.kids;
  marked : (x : ℕ) → x < length l.graph.kids → (is_marked l.marks.items x || has (drop l.root-index l.graph.roots) x) ≡ has l.graph.roots x;
}
