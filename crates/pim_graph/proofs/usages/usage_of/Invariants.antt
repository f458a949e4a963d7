use Rattle.std.proofs.Common.{◌≡◌, ◌+◌, ◌*◌, ◌≤◌, drop, length, map, max, slice_index}
use Rattle.pim_graph.specs.Usages.{most_raised, usage_of}
use Rattle.pim_graph.proofs.usages.usage_of.Given as goal

abbrev pub invariant-loop-k : goal.invariant-loop-k
invariant-loop-k l = record {
  rest : max l.most (most_raised l.k (map (slice_index l.usages) (drop l.k l.children))) ≡ usage_of (map (slice_index l.usages) l.children);
  fits : l.most ≤ (length l.usages + 1) * 4 + 1;
}
