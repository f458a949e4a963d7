use Rattle.std.proofs.Common.{◌≡◌, ◌+◌, drop}
use Rattle.pim_rewrite.specs.Cases.{has_case, has_case_from}
use Rattle.pim_rewrite.proofs.cases.has_case.Given as goal

-- what the nodes that are left have, all have
abbrev pub invariant-loop-node : goal.invariant-loop-node
invariant-loop-node l = record {
  whole : has_case_from l.reading l.number (drop l.node-index l.nodes) ≡ has_case l.reading;
  number : l.number ≡ 1 + l.reading.inputs + l.node-index;
}
