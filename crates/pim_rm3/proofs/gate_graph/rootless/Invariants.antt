use Rattle.std.proofs.Common.{◌≡◌, [], map}
use Rattle.std.specs.List.{range_with_len}
use Rattle.pim_rm3.specs.Gates.{ands_read, gate_of}
use Rattle.pim_rm3.proofs.gate_graph.rootless.Given as goal

abbrev pub invariant-loop-literal : goal.invariant-loop-literal
invariant-loop-literal l = l.graph ≡ record { kids = map (λ k. ands_read l.aig (gate_of l.aig k)) (range_with_len 0 l.literal); roots = [] }
