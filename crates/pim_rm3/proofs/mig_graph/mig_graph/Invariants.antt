use Rattle.std.proofs.Common.{◌≡◌, ◌*◌, [], drop, fold, map}
use Rattle.std.specs.List.{range_with_len}
use Rattle.pim_mig.specs.Graph.{size}
use Rattle.pim_rm3.specs.Gates.{with_root}
use Rattle.pim_rm3.specs.Steps.{gate_reads}
use Rattle.pim_rm3.proofs.mig_graph.mig_graph.Given as goal

abbrev pub invariant-loop-output : goal.invariant-loop-output
invariant-loop-output l = record {
  kids : l.graph.kids ≡ map (gate_reads l.mig) (range_with_len 0 (2 * size l.mig));
  rest : fold (with_root l.mig.inputs) l.graph.roots (drop l.output-index l.outputs) ≡ fold (with_root l.mig.inputs) [] l.outputs;
}
