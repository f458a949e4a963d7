use Rattle.std.proofs.Common.{sym, ◌∙◌, ap, subst}
use Rattle.pim_nor.specs.Network.{IsNetwork, NorView}
use Rattle.pim_nor.specs.Values.{out_values}
use Rattle.pim_nor.proofs.Fewer.{nor_count-narrower}
use Rattle.pim_nor.proofs.NetworkValues.{out_values-nors}
use Rattle.pim_nor.proofs.Reachable.{kept-reached, reached-kept}
use Rattle.pim_nor.proofs.Networks.{nors-IsNetwork}
use Rattle.pim_nor.proofs.Sound.{plan-network}
use Rattle.pim_nor.proofs.lowering.lower.Goals as goal

pub new-requires-2 : goal.new-requires-2
new-requires-2 c =
    let marks_are = c.in_ok-kept.ensures ∙ c.in_ok-reached.ensures.marks in
    let e = plan-network c.args.aig.now c.args.width c.in_ok-plan.plan c.in_ok-plan.ensures c.in_ok-kept.kept _ _ _ marks_are c.inputs-inputs.ensures.count c.in_ok-gates.ensures c.in_ok-outs.ensures in
    subst IsNetwork (sym e) (nors-IsNetwork c.args.aig.now c.inputs-inputs.ensures.sound c.args.width)

pub returns-clause-network : goal.returns-clause-network
returns-clause-network c =
    let marks_are = c.in_ok-kept.ensures ∙ c.in_ok-reached.ensures.marks in
    c.in_ok-network.ensures ∙ plan-network c.args.aig.now c.args.width c.in_ok-plan.plan c.in_ok-plan.ensures c.in_ok-kept.kept _ _ _ marks_are c.inputs-inputs.ensures.count c.in_ok-gates.ensures c.in_ok-outs.ensures

pub returns-clause-values : goal.returns-clause-values
returns-clause-values c =
    λ bits len.
    let marks_are = c.in_ok-kept.ensures ∙ c.in_ok-reached.ensures.marks in
    let e = c.in_ok-network.ensures ∙ plan-network c.args.aig.now c.args.width c.in_ok-plan.plan c.in_ok-plan.ensures c.in_ok-kept.kept _ _ _ marks_are c.inputs-inputs.ensures.count c.in_ok-gates.ensures c.in_ok-outs.ensures in
    ap (λ (n : NorView). out_values n bits) e ∙ out_values-nors c.args.aig.now c.inputs-inputs.ensures.sound c.has_values.ensures c.args.width bits len

pub returns-clause-reached : goal.returns-clause-reached
returns-clause-reached c =
    λ slot. (kept-reached c.args.aig.now c.args.width slot, λ r. reached-kept c.args.aig.now c.inputs-inputs.ensures.sound c.args.width r)

pub returns-clause-no_more : goal.returns-clause-no_more
returns-clause-no_more c = nor_count-narrower c.args.aig.now c.inputs-inputs.ensures.sound
