use Rattle.std.proofs.Common.{◌≡◌, ℕ, ◌+◌, ◌*◌, ◌<◌, ◌≤◌, All, drop, length, slice_index, vec_len}
use Rattle.pim_graph.specs.Readers.{reads}
use Rattle.pim_graph.proofs.readers.Readers.new.Given as goal

abbrev pub invariant-loop-gate : goal.invariant-loop-gate
invariant-loop-gate l = record {
  len : vec_len l.left ≡ length l.graph.kids;
  counts : (x : ℕ) → x < length l.graph.kids → slice_index l.left.items x + reads l.graph (drop l.gate-index l.order) x ≡ reads l.graph l.order x;
  room : All (λ n. n ≤ 4 * l.gate-index) l.left.items;
}
