use Rattle.std.proofs.Common.{◌≡◌, ℕ, ◌+◌, ◌*◌, ◌<◌, ◌≤◌, All, drop, length, slice_index}
use Rattle.pim_graph.specs.Trees.{all_reads, reads_in}
use Rattle.pim_graph.proofs.trees.read_counts.Given as goal

-- what was counted, with the reads of the gates that are left, is the whole
abbrev pub invariant-loop-gate : goal.invariant-loop-gate
invariant-loop-gate l = record {
  len : length l.counts.items ≡ length l.graph.kids;
  counts : (x : ℕ) → x < length l.graph.kids → slice_index l.counts.items x + reads_in (drop l.gate l.graph.kids) x ≡ all_reads l.graph x;
  room : All (λ n. n ≤ 4 * l.gate) l.counts.items;
}
