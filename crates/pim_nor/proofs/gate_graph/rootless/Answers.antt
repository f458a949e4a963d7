use Rattle.std.proofs.Common.{◌≡◌, ◌<◌, ℕ, ◌∙◌, All, List, arith, ap, length, sym, subst, take, length-take, get_or}
use Rattle.std.proofs.lemmas.List.{length-map}
use Rattle.pim_graph.specs.Graphs.{GraphView}
use Rattle.pim_nor.specs.GateGraphs.{gates_read}
use Rattle.pim_nor.specs.Network.{pins}
use Rattle.pim_nor.specs.declared.network.Gate.TheVariants.{One}
use Rattle.pim_nor.proofs.GateLists.{All-gates_among}
use Rattle.pim_nor.proofs.gate_graph.rootless.Goals as goal

pub add-requires-clause-there : goal.add-requires-clause-there
add-requires-clause-there c =
    let n = c.loop-gate.gate-index in
    let gates = c.args.gates.now in
    let P : List ℕ → Type 0 = λ xs. All (λ k. k < length c.loop-gate.graph.kids) xs in
    let Q : ℕ → Type 0 = λ m. All (λ k. k < m) (gates_read (get_or gates n One)) in
    let len : n ≡ length c.loop-gate.graph.kids = sym (ap (λ (g : GraphView). length g.kids) c.loop-gate.invariant ∙ (length-map (take n gates) gates_read ∙ omega (arith, length-take n gates))) in
    subst P (sym (c.deref.ensures.value ∙ c.in_ok-put_gates_read.ensures)) (subst Q len (All-gates_among n (pins (get_or gates n One)) (c.requires.after n One c.loop-gate-test.true)))
