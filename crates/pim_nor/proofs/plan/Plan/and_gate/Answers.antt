use Rattle.std.proofs.Common.{sym, ◌∙◌, ap}
use Rattle.pim_nor.specs.inner.Plans.{PlanView, leaf_literals}
use Rattle.pim_nor.proofs.AndGates.{two_gate, four_gate}
use Rattle.pim_nor.proofs.plan.Plan.and_gate.Goals as goal

pub returns-in-Two : goal.returns-in-Two
returns-in-Two c =
    let width = sym (ap (λ (p : PlanView). p.width) c.self.view_is) ∙ c.in-Two.is in
    let inputs = c.inputs.ensures.count ∙ ap (λ (p : PlanView). p.graph.inputs) c.self.view_is in
    two_gate c.args.self.now.graph c.args.self.now.width c.args.node c.inputs.result c.and_at-and.result c.nor.result width inputs c.and_at-and.ensures c.nor.ensures

pub returns-in-Four : goal.returns-in-Four
returns-in-Four c =
    let width = sym (ap (λ (p : PlanView). p.width) c.self.view_is) ∙ c.in-Four.is in
    let inputs = c.inputs-in-Four.ensures.count ∙ ap (λ (p : PlanView). p.graph.inputs) c.self.view_is in
    four_gate c.args.self.now.graph c.args.self.now.width c.args.node c.inputs-in-Four.result c.and_at-and.result (leaf_literals c.widened.result) (leaf_literals c.widened-in-Four.result) c.nor-in-Four.result width inputs c.and_at-and.ensures c.widened.ensures.leaves c.widened-in-Four.ensures.leaves c.nor-in-Four.ensures
