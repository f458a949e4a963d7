use Rattle.std.proofs.Common.{◌≡◌, ℕ, ◌*◌, List, length, get_or, ◌∙◌, ap, arith}
use Rattle.std.proofs.lemmas.List.FromFn.{length-map-range_with_len}
use Rattle.pim_aig.specs.declared.literal.Lit.{Lit}
use Rattle.pim_mig.specs.Graph.{size}
use Rattle.pim_rm3.specs.Steps.{gate_reads}
use Rattle.pim_rm3.proofs.mig_graph.mig_graph.Goals as goal

pub put_root-requires : goal.put_root-requires
put_root-requires c =
    let g = c.args.mig.now in
    let k = c.loop-output.output-index in
    let d : Lit = record { 0 = 0 } in
    let same = c.outputs-outputs.ensures.literals in
    let len : length c.loop-output.graph.kids ≡ 2 * size g = ap (λ (ks : List (List ℕ)). length ks) c.loop-output.invariant.kids ∙ length-map-range_with_len (gate_reads g) 0 (2 * size g) in
    let count = ap (λ (os : List Lit). length os) same in
    let at : (get_or c.outputs-outputs.result.now k d).0 ≡ (get_or g.outputs k d).0 = ap (λ (os : List Lit). (get_or os k d).0) same in
    let there = c.outputs-outputs.ensures.sound.outputs_there k d (omega arith) in
    omega arith
