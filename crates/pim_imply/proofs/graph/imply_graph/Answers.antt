use Rattle.std.proofs.Common.{◌≡◌, ℕ, ◌*◌, ◌<◌, List, length, get_or, ◌∙◌, ap, arith}
use Rattle.std.proofs.lemmas.List.FromFn.{length-map-range_with_len}
use Rattle.pim_aig.specs.Graph.{nodes}
use Rattle.pim_aig.specs.declared.literal.Lit.{Lit}
use Rattle.pim_imply.specs.Gates.{gates_of, operands, turned}
use Rattle.pim_imply.proofs.GateReads.{turned_below}
use Rattle.pim_imply.proofs.graph.imply_graph.Goals as goal

pub put_root-requires : goal.put_root-requires
put_root-requires c =
    let g = c.args.aig.now in
    let k = c.loop-output.output-index in
    let d : Lit = record { 0 = 0 } in
    let same = c.outputs-outputs.ensures.literals in
    let len : length c.loop-output.graph.kids ≡ 2 * nodes g = ap (λ (ks : List (List ℕ)). length ks) c.loop-output.invariant.kids ∙ length-map-range_with_len (λ k. gates_of g (operands g (turned k))) 0 (2 * nodes g) in
    let count = ap (λ (os : List Lit). length os) same in
    let at : turned (get_or c.outputs-outputs.result.now k d).0 ≡ turned (get_or g.outputs k d).0 = ap (λ (os : List Lit). turned (get_or os k d).0) same in
    let there = c.outputs-outputs.ensures.sound.outputs_there k d (omega arith) in
    let below : turned (get_or g.outputs k d).0 < 2 * nodes g = turned_below (get_or g.outputs k d).0 (nodes g) there in
    omega arith
