use Rattle.std.proofs.Common.{List, ℕ, [], Option, ap, sym, ◌∙◌}
use Rattle.pim_isa.specs.Touches.{operands}
use Rattle.pim_life.specs.inner.Drawing.{gate_in, gates_held}
use Rattle.pim_life.proofs.Drawings.{gates_within, holds_emptied}
use Rattle.pim_life.proofs.drawing.step.Goals as goal

pub add_gate-requires-clause-there : goal.add_gate-requires-clause-there
add_gate-requires-clause-there c =
    let cells = operands c.in-Nor.ins in
    gates_within c.args.graph.now.kids c.args.held.now.items cells c.deref-in-Nor.result.now c.requires
    (c.deref-in-Nor.ensures.value ∙ c.in_ok-list_operands-in-Nor.ensures.gates ∙ ap (λ (h : List (Option ℕ)). gates_held h [] cells) c.deref.ensures.value)

pub returns-in-Init-clause-holds : goal.returns-in-Init-clause-holds
returns-in-Init-clause-holds c = λ d gate is.
    holds_emptied c.args.graph.now.kids c.list.result.now c.args.held.now.items c.requires d gate
    (ap (λ (h : List (Option ℕ)). gate_in h d) (sym c.empty.ensures) ∙ is)
