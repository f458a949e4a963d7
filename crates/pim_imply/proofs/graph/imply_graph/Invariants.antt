use Rattle.std.proofs.Common.{◌≡◌, ◌*◌, [], drop, fold, map}
use Rattle.std.specs.List.{range_with_len}
use Rattle.pim_aig.specs.Graph.{nodes}
use Rattle.pim_imply.specs.Gates.{gates_of, operands, turned, with_root}
use Rattle.pim_imply.proofs.graph.imply_graph.Given as goal

-- the gates stay, and the roots of the outputs that are left lead to all roots
abbrev pub invariant-loop-output : goal.invariant-loop-output
invariant-loop-output l = record {
  kids : l.graph.kids ≡ map (λ k. gates_of l.aig (operands l.aig (turned k))) (range_with_len 0 (2 * nodes l.aig));
  rest : fold (with_root l.aig) l.graph.roots (drop l.output-index l.outputs) ≡ fold (with_root l.aig) [] l.outputs;
}
