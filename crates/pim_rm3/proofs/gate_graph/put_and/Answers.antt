use Rattle.std.proofs.Common.{◌*◌, ◌/◌, ◌<◌, eqb, List, ℕ, sym, ◌∙◌, ap, arith}
use Rattle.std.specs.List.{list_any}
use Rattle.pim_rm3.proofs.AndLists.{with_and_new, with_and_there}
use Rattle.pim_rm3.proofs.gate_graph.put_and.Goals as goal

pub returns-in_ok-push : goal.returns-in_ok-push
returns-in_ok-push c =
    let gate = 2 * (c.args.literal.0 / 2) in
    let above : c.args.aig.now.inputs < c.args.literal.0 / 2 = omega arith in
    c.in_ok-push.ensures.items ∙ with_and_new c.args.aig.now c.args.gates.now.items c.args.literal above (ap (λ (xs : List ℕ). list_any (λ y. eqb y gate) xs) (sym c.deref.ensures.value) ∙ (sym c.contains.ensures.value ∙ c.if-not-contains.true))

pub returns-else-not-contains : goal.returns-else-not-contains
returns-else-not-contains c =
    let gate = 2 * (c.args.literal.0 / 2) in
    let above : c.args.aig.now.inputs < c.args.literal.0 / 2 = omega arith in
    with_and_there c.args.aig.now c.args.gates.now.items c.args.literal above (ap (λ (xs : List ℕ). list_any (λ y. eqb y gate) xs) (sym c.deref.ensures.value) ∙ (sym c.contains.ensures.value ∙ c.if-not-contains.false))
