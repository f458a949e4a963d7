use Rattle.std.proofs.Common.{eqb, List, ℕ, sym, ◌∙◌, ap}
use Rattle.std.specs.List.{list_any}
use Rattle.pim_nor.proofs.GateLists.{with_gate-new, with_gate-there}
use Rattle.pim_nor.proofs.gate_graph.put_gate.Goals as goal

pub returns-in_ok-push : goal.returns-in_ok-push
returns-in_ok-push c =
    c.in_ok-push.ensures.items ∙ with_gate-new c.args.gates.now.items c.args.pin c.in-Gate.gate c.in-Gate.is (ap (λ (xs : List ℕ). list_any (λ y. eqb y c.in-Gate.gate) xs) (sym c.deref.ensures.value) ∙ (sym c.contains.ensures.value ∙ c.if-not-contains.true))

pub returns-else-not-contains : goal.returns-else-not-contains
returns-else-not-contains c =
    with_gate-there c.args.gates.now.items c.args.pin c.in-Gate.gate c.in-Gate.is (ap (λ (xs : List ℕ). list_any (λ y. eqb y c.in-Gate.gate) xs) (sym c.deref.ensures.value) ∙ (sym c.contains.ensures.value ∙ c.if-not-contains.false))
