use Rattle.std.proofs.Common.{◌≡◌, ℕ, ◌*◌, List, get_or, length, ◌∙◌, ap, arith}
use Rattle.std.proofs.lemmas.List.FromFn.{length-map-range_with_len}
use Rattle.pim_graph.specs.Graphs.{GraphView}
use Rattle.pim_mig.specs.Graph.{size}
use Rattle.pim_rm3.specs.Temporaries.{all_reads}
use Rattle.pim_rm3.proofs.StepLaws.{kids_count}
use Rattle.pim_rm3.proofs.temporaries.full_graph.Goals as goal

pub add_root-requires : goal.add_root-requires
add_root-requires c =
    let g = c.args.mig.now in
    let k = c.loop-root.root-index in
    let same = c.roots-roots.ensures.list in
    let len : length c.loop-root.full.kids ≡ 2 * (2 * size g) = ap (λ (ks : List (List ℕ)). length ks) c.loop-root.invariant.kids ∙ length-map-range_with_len (all_reads g) 0 (2 * (2 * size g)) in
    let old = ap (λ (v : GraphView). length v.kids) c.requires.graph ∙ kids_count g in
    let count = ap (λ (rs : List ℕ). length rs) same in
    let at = ap (λ (rs : List ℕ). get_or rs k 0) same in
    let there = c.roots-roots.ensures.sound.roots_there k 0 (omega arith) in
    omega arith
