use Rattle.std.proofs.Common.{◌≡◌, [], map, take}
use Rattle.pim_nor.specs.GateGraphs.{gates_read}
use Rattle.pim_nor.proofs.gate_graph.rootless.Given as goal

abbrev pub invariant-loop-gate : goal.invariant-loop-gate
invariant-loop-gate l = l.graph ≡ record { kids = map gates_read (take l.gate-index l.gates); roots = [] }
