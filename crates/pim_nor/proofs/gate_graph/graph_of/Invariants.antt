use Rattle.std.proofs.Common.{◌≡◌, drop, fold, map}
use Rattle.pim_nor.specs.GateGraphs.{gates_among, gates_read, with_gate}
use Rattle.pim_nor.proofs.gate_graph.graph_of.Given as goal

abbrev pub invariant-loop-out : goal.invariant-loop-out
invariant-loop-out l = record {
  kids : l.graph.kids ≡ map gates_read l.gates;
  rest : fold with_gate l.graph.roots (drop l.out-index l.outs) ≡ gates_among l.outs;
}
