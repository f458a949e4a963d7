use Rattle.std.proofs.Common.{◌≡◌, ℕ, ◌+◌, ◌*◌, ◌<◌, ◌++◌, ◌∷◌, [], List, All, length, map, sym, ◌∙◌, ap, subst, arith}
use Rattle.std.specs.List.{range_with_len}
use Rattle.std.proofs.lemmas.List.FromFn.{length-map-range_with_len, map-range_with_len_more}
use Rattle.pim_graph.specs.Graphs.{GraphView}
use Rattle.pim_mig.specs.Graph.{size}
use Rattle.pim_rm3.specs.Temporaries.{all_reads}
use Rattle.pim_rm3.proofs.StepLaws.{full_below, full_few}
use Rattle.pim_rm3.proofs.temporaries.rootless.Goals as goal

pub add-requires-clause-there : goal.add-requires-clause-there
add-requires-clause-there c =
    let g = c.args.mig.now in
    let n = c.loop-number.number in
    let len : length c.loop-number.graph.kids ≡ n = ap (λ (v : GraphView). length v.kids) c.loop-number.invariant ∙ length-map-range_with_len (all_reads g) 0 n in
    let there : n < 2 * (2 * size g) = omega (arith, c.loop-number-test.true, c.literals-number-end.ensures.count) in
    let P : List ℕ → Type 0 = λ xs. All (λ k. k < length c.loop-number.graph.kids) xs in
    let Q : ℕ → Type 0 = λ m. All (λ k. k < m) (all_reads g n) in
    subst P (sym (c.deref.ensures.value ∙ c.in_ok-put_all_reads.ensures)) (subst Q (sym len) (full_below g n c.literals-number-end.ensures.sound there))

pub add-requires-clause-few : goal.add-requires-clause-few
add-requires-clause-few c =
    let same = ap (λ (xs : List ℕ). length xs) (c.deref.ensures.value ∙ c.in_ok-put_all_reads.ensures) in
    omega (arith, same, full_few c.args.mig.now c.loop-number.number)

pub add-requires-clause-room : goal.add-requires-clause-room
add-requires-clause-room c =
    let g = c.args.mig.now in
    let n = c.loop-number.number in
    let len : length c.loop-number.graph.kids ≡ n = ap (λ (v : GraphView). length v.kids) c.loop-number.invariant ∙ length-map-range_with_len (all_reads g) 0 n in
    omega (arith, c.literals-number-end.ensures.few)

pub loop-number-preserved : goal.loop-number-preserved
loop-number-preserved c =
    let g = c.args.mig.now in
    let n = c.loop-number.number in
    let f = all_reads g in
    let here : c.deref.result.now ≡ f n = c.deref.ensures.value ∙ c.in_ok-put_all_reads.ensures in
    let next : 0 + n ≡ n = omega arith in
    let V : List (List ℕ) → GraphView = λ ks. record { kids = ks; roots = [] } in
    let P : GraphView → GraphView = λ v. record v { kids = v.kids ++ c.deref.result.now ∷ [] } in
    c.in_ok-add.ensures.grown ∙ ap P c.loop-number.invariant ∙ ap (λ (ks : List ℕ). V (map f (range_with_len 0 n) ++ ks ∷ [])) here ∙ ap V (sym (map-range_with_len_more f 0 n n next))
