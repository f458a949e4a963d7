use Rattle.std.proofs.Common.{◌≡◌, ◌++◌, drop, map, reverse}
use Rattle.pim_graph.specs.declared.walk.Step.TheVariants.{Visit}
use Rattle.pim_graph.proofs.walk.push_visits.Given as goal

abbrev pub invariant-loop-k : goal.invariant-loop-k
invariant-loop-k l = l.stack.items ≡ l.initial.stack.items ++ map Visit (reverse (drop l.k l.gates))
