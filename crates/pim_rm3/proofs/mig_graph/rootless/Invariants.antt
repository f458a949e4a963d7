use Rattle.std.proofs.Common.{◌≡◌, [], map}
use Rattle.std.specs.List.{range_with_len}
use Rattle.pim_rm3.specs.Steps.{gate_reads}
use Rattle.pim_rm3.proofs.mig_graph.rootless.Given as goal

abbrev pub invariant-loop-literal : goal.invariant-loop-literal
invariant-loop-literal l = l.graph ≡ record { kids = map (gate_reads l.mig) (range_with_len 0 l.literal); roots = [] }
