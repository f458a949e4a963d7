use Rattle.std.proofs.Common.{◌≡◌, ℕ, ◌+◌, ◌*◌, ◌<◌, ◌++◌, ◌∷◌, [], List, All, length, map, sym, ◌∙◌, ap, subst, arith}
use Rattle.std.specs.List.{range_with_len}
use Rattle.std.proofs.lemmas.List.FromFn.{length-map-range_with_len, map-range_with_len_more}
use Rattle.pim_graph.specs.Graphs.{GraphView}
use Rattle.pim_mig.specs.Graph.{size}
use Rattle.pim_rm3.specs.Steps.{gate_reads}
use Rattle.pim_rm3.proofs.StepLaws.{reads_below}
use Rattle.pim_rm3.proofs.mig_graph.rootless.Goals as goal

pub add-requires-clause-there : goal.add-requires-clause-there
add-requires-clause-there c =
    let g = c.args.mig.now in
    let n = c.loop-literal.literal in
    let len : length c.loop-literal.graph.kids ≡ n = ap (λ (v : GraphView). length v.kids) c.loop-literal.invariant ∙ length-map-range_with_len (gate_reads g) 0 n in
    let there : n < 2 * size g = omega (arith, c.loop-literal-test.true, c.literals-literal-end.ensures.count) in
    let P : List ℕ → Type 0 = λ xs. All (λ k. k < length c.loop-literal.graph.kids) xs in
    let Q : ℕ → Type 0 = λ m. All (λ k. k < m) (gate_reads g n) in
    subst P (sym (c.deref.ensures.value ∙ c.in_ok-put_reads.ensures)) (subst Q (sym len) (reads_below g n c.literals-literal-end.ensures.sound there))

pub add-requires-clause-room : goal.add-requires-clause-room
add-requires-clause-room c =
    let g = c.args.mig.now in
    let n = c.loop-literal.literal in
    let len : length c.loop-literal.graph.kids ≡ n = ap (λ (v : GraphView). length v.kids) c.loop-literal.invariant ∙ length-map-range_with_len (gate_reads g) 0 n in
    omega (arith, c.literals-literal-end.ensures.few)

pub loop-literal-preserved : goal.loop-literal-preserved
loop-literal-preserved c =
    let g = c.args.mig.now in
    let n = c.loop-literal.literal in
    let f = gate_reads g in
    let here : c.deref.result.now ≡ f n = c.deref.ensures.value ∙ c.in_ok-put_reads.ensures in
    let next : 0 + n ≡ n = omega arith in
    let V : List (List ℕ) → GraphView = λ ks. record { kids = ks; roots = [] } in
    let P : GraphView → GraphView = λ v. record v { kids = v.kids ++ c.deref.result.now ∷ [] } in
    c.in_ok-add.ensures.grown ∙ ap P c.loop-literal.invariant ∙ ap (λ (ks : List ℕ). V (map f (range_with_len 0 n) ++ ks ∷ [])) here ∙ ap V (sym (map-range_with_len_more f 0 n n next))
