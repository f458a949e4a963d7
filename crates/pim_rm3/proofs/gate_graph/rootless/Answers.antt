use Rattle.std.proofs.Common.{◌≡◌, ℕ, ◌+◌, ◌<◌, ◌++◌, ◌∷◌, [], List, All, length, map, sym, ◌∙◌, ap, subst, arith}
use Rattle.std.specs.List.{range_with_len}
use Rattle.std.proofs.lemmas.List.FromFn.{length-map-range_with_len, map-range_with_len_more}
use Rattle.pim_graph.specs.Graphs.{GraphView}
use Rattle.pim_rm3.specs.Gates.{ands_read, gate_of}
use Rattle.pim_rm3.proofs.AndLists.{ands_below}
use Rattle.pim_rm3.proofs.gate_graph.rootless.Goals as goal

pub add-requires-clause-there : goal.add-requires-clause-there
add-requires-clause-there c =
    let g = c.args.aig.now in
    let n = c.loop-literal.literal in
    let len : length c.loop-literal.graph.kids ≡ n = ap (λ (v : GraphView). length v.kids) c.loop-literal.invariant ∙ length-map-range_with_len (λ k. ands_read g (gate_of g k)) 0 n in
    let P : List ℕ → Type 0 = λ xs. All (λ k. k < length c.loop-literal.graph.kids) xs in
    let Q : ℕ → Type 0 = λ m. All (λ k. k < m) (ands_read g c.gate_of.result) in
    subst P (sym (c.deref.ensures.value ∙ c.in_ok-put_ands_read.ensures)) (subst Q (sym len) (ands_below g n c.gate_of.result c.gate_of.ensures.below))

pub add-requires-clause-room : goal.add-requires-clause-room
add-requires-clause-room c =
    let g = c.args.aig.now in
    let n = c.loop-literal.literal in
    let len : length c.loop-literal.graph.kids ≡ n = ap (λ (v : GraphView). length v.kids) c.loop-literal.invariant ∙ length-map-range_with_len (λ k. ands_read g (gate_of g k)) 0 n in
    omega (arith, c.literals-literal-end.ensures.few)

pub loop-literal-preserved : goal.loop-literal-preserved
loop-literal-preserved c =
    let g = c.args.aig.now in
    let n = c.loop-literal.literal in
    let f : ℕ → List ℕ = λ k. ands_read g (gate_of g k) in
    let here : c.deref.result.now ≡ f n = c.deref.ensures.value ∙ c.in_ok-put_ands_read.ensures ∙ ap (ands_read g) c.gate_of.ensures.gate in
    let next : 0 + n ≡ n = omega arith in
    let V : List (List ℕ) → GraphView = λ ks. record { kids = ks; roots = [] } in
    let P : GraphView → GraphView = λ v. record v { kids = v.kids ++ c.deref.result.now ∷ [] } in
    c.in_ok-add.ensures.grown ∙ ap P c.loop-literal.invariant ∙ ap (λ (ks : List ℕ). V (map f (range_with_len 0 n) ++ ks ∷ [])) here ∙ ap V (sym (map-range_with_len_more f 0 n n next))
