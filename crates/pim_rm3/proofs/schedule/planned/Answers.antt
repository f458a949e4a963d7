use Rattle.std.proofs.Common.{All, List, ℕ, map, subst, ◌∙◌, ap}
use Rattle.pim_graph.specs.Graphs.{GraphView}
use Rattle.pim_graph.specs.Orders.{IsReached, order}
use Rattle.pim_graph.specs.Peaks.{IsPlaced}
use Rattle.pim_rm3.specs.Gates.{gate_graph, gates, taken}
use Rattle.pim_rm3.proofs.GateOrders.{moved}
use Rattle.pim_rm3.proofs.schedule.planned.Goals as goal

pub returns-clause-settled : goal.returns-clause-settled
returns-clause-settled c =
    let g = c.args.aig.now in
    let P : GraphView → Type 0 = λ v. IsPlaced v (order v) in
    let Q : List ℕ → Type 0 = λ xs. All (IsReached c.in_ok-graph.graph) xs in
    let R : GraphView → Type 0 = λ v. All (IsReached v) (order v) in
    record {
      small = c.inputs.ensures.sound;
      values = c.has_values.ensures;
      placed = subst P c.in_ok-graph.ensures c.has_order.ensures.placed;
      there = c.in_ok-over.ensures.there;
      reached = subst R c.in_ok-graph.ensures (subst Q c.in_ok-order.ensures.order c.in_ok-order.ensures.reached);
      over = c.in_ok-over.ensures.sound;
      allotted = moved c.in_ok-graph.graph (gate_graph g) c.deref-2.result.now (gates g) c.deref-3.result.now (map (taken g) (gates g)) c.inputs.result g.inputs c.in_ok-allotment.allotment
          c.in_ok-graph.ensures (c.deref-2.ensures.value ∙ c.in_ok-order.ensures.order ∙ ap order c.in_ok-graph.ensures) (c.deref-3.ensures.value ∙ c.in_ok-over.ensures.list) c.inputs.ensures.count c.in_ok-allotment.ensures.allotment;
    }
