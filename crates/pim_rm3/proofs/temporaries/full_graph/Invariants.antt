use Rattle.std.proofs.Common.{◌≡◌, ◌*◌, [], drop, fold, map}
use Rattle.std.specs.List.{range_with_len}
use Rattle.pim_mig.specs.Graph.{size}
use Rattle.pim_rm3.specs.Temporaries.{all_reads, with_gate}
use Rattle.pim_rm3.proofs.temporaries.full_graph.Given as goal

abbrev pub invariant-loop-root : goal.invariant-loop-root
invariant-loop-root l = record {
  kids : l.full.kids ≡ map (all_reads l.mig) (range_with_len 0 (2 * (2 * size l.mig)));
  rest : fold with_gate l.full.roots (drop l.root-index l.roots) ≡ fold with_gate [] l.roots;
}
