use Rattle.std.proofs.Common.{◌≡◌, ◌+◌, ◌*◌, ◌≤◌, All, drop, vec_len}
use Rattle.pim_graph.specs.Usages.{usages_from, usages}
use Rattle.pim_graph.proofs.usages.usage.Given as goal

abbrev pub invariant-loop-gate : goal.invariant-loop-gate
invariant-loop-gate l = record {
  rest : usages_from l.usages.items (drop l.gate l.graph.kids) ≡ usages l.graph;
  len : vec_len l.usages ≡ l.gate;
  fit : All (λ u. u ≤ vec_len l.usages * 4 + 1) l.usages.items;
}
