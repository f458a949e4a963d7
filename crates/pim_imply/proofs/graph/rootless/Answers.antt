use Rattle.std.proofs.Common.{◌≡◌, ℕ, ◌+◌, ◌*◌, ◌<◌, ◌≤◌, ◌++◌, ◌∷◌, [], List, All, length, map, sym, ◌∙◌, ap, subst, arith}
use Rattle.std.specs.List.{range_with_len}
use Rattle.std.proofs.lemmas.List.FromFn.{length-map-range_with_len, map-range_with_len_more}
use Rattle.pim_aig.specs.Graph.{nodes}
use Rattle.pim_graph.specs.Graphs.{GraphView}
use Rattle.pim_imply.specs.Gates.{gates_of, operands, turned}
use Rattle.pim_imply.proofs.GateReads.{turned_below, reads_below, reads_few}
use Rattle.pim_imply.proofs.graph.rootless.Goals as goal

pub put_operands-requires : goal.put_operands-requires
put_operands-requires c =
    let n = nodes c.args.aig.now in
    let P : ℕ → Type 0 = λ l. l < 2 * n in
    subst P (sym c.turned.ensures) (turned_below c.loop-gate.gate n (omega (arith, c.literals-gate-end.ensures.count)))

pub add-requires-clause-few : goal.add-requires-clause-few
add-requires-clause-few c =
    let g = c.args.aig.now in
    let is : c.deref-in-loop-gate.result.now ≡ gates_of g (operands g (turned c.loop-gate.gate)) = c.deref-in-loop-gate.ensures.value ∙ c.in_ok-put_gates.ensures ∙ ap (gates_of g) (c.deref.ensures.value ∙ c.in_ok-put_operands.ensures ∙ ap (operands g) c.turned.ensures) in
    let P : List ℕ → Type 0 = λ xs. length xs ≤ 4 in
    subst P (sym is) (reads_few g (turned c.loop-gate.gate))

pub add-requires-clause-there : goal.add-requires-clause-there
add-requires-clause-there c =
    let g = c.args.aig.now in
    let n = c.loop-gate.gate in
    let len : length c.loop-gate.graph.kids ≡ n = ap (λ (v : GraphView). length v.kids) c.loop-gate.invariant ∙ length-map-range_with_len (λ k. gates_of g (operands g (turned k))) 0 n in
    let is : c.deref-in-loop-gate.result.now ≡ gates_of g (operands g (turned n)) = c.deref-in-loop-gate.ensures.value ∙ c.in_ok-put_gates.ensures ∙ ap (gates_of g) (c.deref.ensures.value ∙ c.in_ok-put_operands.ensures ∙ ap (operands g) c.turned.ensures) in
    let P : List ℕ → Type 0 = λ xs. All (λ k. k < length c.loop-gate.graph.kids) xs in
    let Q : ℕ → Type 0 = λ m. All (λ k. k < m) (gates_of g (operands g (turned n))) in
    subst P (sym is) (subst Q (sym len) (reads_below g n c.literals-gate-end.ensures.sound (omega (arith, c.literals-gate-end.ensures.count))))

pub add-requires-clause-room : goal.add-requires-clause-room
add-requires-clause-room c =
    let g = c.args.aig.now in
    let n = c.loop-gate.gate in
    let len : length c.loop-gate.graph.kids ≡ n = ap (λ (v : GraphView). length v.kids) c.loop-gate.invariant ∙ length-map-range_with_len (λ k. gates_of g (operands g (turned k))) 0 n in
    omega (arith, c.literals-gate-end.ensures.few)

pub loop-gate-preserved : goal.loop-gate-preserved
loop-gate-preserved c =
    let g = c.args.aig.now in
    let n = c.loop-gate.gate in
    let f : ℕ → List ℕ = λ k. gates_of g (operands g (turned k)) in
    let here : c.deref-in-loop-gate.result.now ≡ f n = c.deref-in-loop-gate.ensures.value ∙ c.in_ok-put_gates.ensures ∙ ap (gates_of g) (c.deref.ensures.value ∙ c.in_ok-put_operands.ensures ∙ ap (operands g) c.turned.ensures) in
    let next : 0 + n ≡ n = omega arith in
    let V : List (List ℕ) → GraphView = λ ks. record { kids = ks; roots = [] } in
    let P : GraphView → GraphView = λ v. record v { kids = v.kids ++ c.deref-in-loop-gate.result.now ∷ [] } in
    c.in_ok-add.ensures.grown ∙ ap P c.loop-gate.invariant ∙ ap (λ (ks : List ℕ). V (map f (range_with_len 0 n) ++ ks ∷ [])) here ∙ ap V (sym (map-range_with_len_more f 0 n n next))
