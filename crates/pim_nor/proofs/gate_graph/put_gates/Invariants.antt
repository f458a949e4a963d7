use Rattle.std.proofs.Common.{◌≡◌, drop, fold}
use Rattle.pim_nor.specs.GateGraphs.{gates_among, with_gate}
use Rattle.pim_nor.proofs.gate_graph.put_gates.Given as goal

abbrev pub invariant-loop-pin : goal.invariant-loop-pin
invariant-loop-pin l = fold with_gate l.gates.items (drop l.pin-index l.pins) ≡ gates_among l.pins
