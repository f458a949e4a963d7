use Rattle.std.proofs.Common.{◌≡◌, ℕ, ◌+◌, ◌<◌, ◌^◌, All, drop, slice_index, vec_len}
use Rattle.pim_graph.specs.Readers.{occurrences}
use Rattle.pim_graph.proofs.readers.count_reads.Given as goal

abbrev pub invariant-loop-child : goal.invariant-loop-child
invariant-loop-child l = record {
  len : vec_len l.counts ≡ vec_len l.initial.counts;
  counts : (x : ℕ) → x < vec_len l.initial.counts → slice_index l.counts.items x + occurrences (drop l.child-index l.children) x ≡ slice_index l.initial.counts.items x + occurrences l.children x;
  room : All (λ n. n + 4 < 2 ^ 32 + l.child-index) l.counts.items;
}
