use Rattle.std.proofs.Common.{◌≡◌, length, ℕ, arith, List, ap, ◌∙◌}
use Rattle.std.proofs.lemmas.List.{length-map}
use Rattle.pim_nor.specs.GateGraphs.{gates_read}
use Rattle.pim_nor.proofs.GateLists.{gate_there}
use Rattle.pim_nor.proofs.gate_graph.graph_of.Goals as goal

pub add_root-requires : goal.add_root-requires
add_root-requires c =
    let below = gate_there (length c.args.gates.now) c.args.outs.now c.loop-out.out-index c.in-Gate.gate _ c.requires.outs c.loop-out-test.true c.in-Gate.is in
    let len : length c.loop-out.graph.kids ≡ length c.args.gates.now = ap (λ (ks : List (List ℕ)). length ks) c.loop-out.invariant.kids ∙ length-map c.args.gates.now gates_read in
    record { there = omega arith }
