use Rattle.std.proofs.Common.{◌≡◌, ◌*◌, [], drop, fold, map}
use Rattle.std.specs.List.{range_with_len}
use Rattle.pim_aig.specs.Graph.{nodes}
use Rattle.pim_rm3.specs.Gates.{ands_read, gate_of, with_root}
use Rattle.pim_rm3.proofs.gate_graph.gate_graph.Given as goal

abbrev pub invariant-loop-output : goal.invariant-loop-output
invariant-loop-output l = record {
  kids : l.graph.kids ≡ map (λ k. ands_read l.aig (gate_of l.aig k)) (range_with_len 0 (2 * nodes l.aig));
  rest : fold (with_root l.aig.inputs) l.graph.roots (drop l.output-index l.outputs) ≡ fold (with_root l.aig.inputs) [] l.outputs;
}
