use Rattle.std.proofs.Common.{◌≡◌, ℕ, ◌+◌, ◌<◌, List, All, drop, length, slice_index}
use Rattle.pim_graph.specs.Readers.{occurrences}
use Rattle.pim_graph.specs.inner.Pools.{IsPool, holds}
use Rattle.pim_graph.proofs.allotments.release.Given as goal

abbrev pub invariant-loop-child : goal.invariant-loop-child
invariant-loop-child l = record {
  len : length l.left ≡ length l.graph.kids;
  left : (x : ℕ) → x < length l.graph.kids → slice_index l.left x + occurrences l.children x ≡ slice_index l.initial.left x + occurrences (drop l.child-index l.children) x;
  next : l.spares.next ≡ l.initial.spares.next;
  pool : (placed : List ℕ) (first : ℕ) → All (λ c. occurrences placed c ≡ 1) l.children → IsPool (holds l.graph l.initial.left l.taken) placed l.cells first l.initial.spares → IsPool (holds l.graph l.left l.taken) placed l.cells first l.spares;
}
