use Rattle.std.proofs.Common.{◌≡◌, [], refl, ◌∙◌, ap}
use Rattle.pim_graph.specs.Orders.{order}
use Rattle.pim_imply.specs.Gates.{gates, imply_graph}
use Rattle.pim_imply.proofs.Orders.{all_reached, moved, order_few, order_there}
use Rattle.pim_imply.proofs.scheduling.planned.Goals as goal

pub returns-clause-reached : goal.returns-clause-reached
returns-clause-reached c =
    let g = c.args.aig.now in
    let listed : c.in_ok-order.order.items ≡ gates g = c.in_ok-order.ensures.order ∙ ap order c.in_ok-graph.ensures in
    all_reached c.in_ok-graph.graph (imply_graph g) c.in_ok-order.order.items (gates g) c.in_ok-graph.ensures listed c.in_ok-order.ensures.reached

pub returns-clause-there : goal.returns-clause-there
returns-clause-there c = order_there c.args.aig.now c.in_ok-graph.graph c.in_ok-graph.ensures c.has_order.ensures.placed

pub returns-clause-few : goal.returns-clause-few
returns-clause-few c = order_few c.args.aig.now c.in_ok-graph.graph c.in_ok-graph.ensures c.has_order.ensures.few

pub returns-clause-allotment : goal.returns-clause-allotment
returns-clause-allotment c =
    let g = c.args.aig.now in
    moved c.in_ok-graph.graph (imply_graph g) c.deref.result.now (gates g) [] [] c.inputs.result g.inputs c.in_ok-allotment.allotment
    c.in_ok-graph.ensures (c.deref.ensures.value ∙ c.in_ok-order.ensures.order ∙ ap order c.in_ok-graph.ensures) refl c.inputs.ensures.count c.in_ok-allotment.ensures.allotment
