use Rattle.std.proofs.Common.{ℕ, All, List, length, subst, ◌∙◌, ap, arith}
use Rattle.pim_graph.specs.Graphs.{GraphView}
use Rattle.pim_graph.specs.Orders.{IsReached, order}
use Rattle.pim_rm3.proofs.StepLaws.{kids_count, order_placed, order_there}
use Rattle.pim_rm3.proofs.smart_schedule.planned.Goals as goal

pub returns-clause-placed : goal.returns-clause-placed
returns-clause-placed c = order_placed c.args.mig.now c.in_ok-graph.graph c.in_ok-graph.ensures c.has_order.ensures.placed

pub returns-clause-reached : goal.returns-clause-reached
returns-clause-reached c =
    let g = c.args.mig.now in
    let P : List ℕ → Type 0 = λ xs. All (IsReached c.in_ok-graph.graph) xs in
    let Q : GraphView → Type 0 = λ v. All (IsReached v) (order v) in
    subst Q c.in_ok-graph.ensures (subst P c.in_ok-order.ensures.order c.in_ok-order.ensures.reached)

pub returns-clause-there : goal.returns-clause-there
returns-clause-there c = order_there c.args.mig.now (order_placed c.args.mig.now c.in_ok-graph.graph c.in_ok-graph.ensures c.has_order.ensures.placed)

pub returns-clause-few : goal.returns-clause-few
returns-clause-few c =
    let g = c.args.mig.now in
    let a = ap (λ (v : GraphView). length (order v)) c.in_ok-graph.ensures in
    let b = ap (λ (v : GraphView). length v.kids) c.in_ok-graph.ensures ∙ kids_count g in
    omega (arith, c.has_order.ensures.few)

pub returns-clause-small : goal.returns-clause-small
returns-clause-small c = c.inputs-inputs.ensures.sound
