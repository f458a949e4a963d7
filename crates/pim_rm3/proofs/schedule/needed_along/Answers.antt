use Rattle.std.proofs.Common.{◌≡◌, ℕ, ◌+◌, ◌≤◌, List, length, count_by, All, ap, subst, arith}
use Rattle.pim_aig.specs.Graph.{AigView}
use Rattle.pim_graph.specs.Graphs.{GraphView}
use Rattle.pim_graph.specs.Orders.{IsReached, order}
use Rattle.pim_graph.specs.Peaks.{IsPlaced}
use Rattle.pim_rm3.specs.Costs.{is_made}
use Rattle.pim_rm3.specs.Gates.{gate_graph, gates}
use Rattle.pim_rm3.proofs.Bounds.{gates_within}
use Rattle.pim_rm3.proofs.GateOrders.{order_few, order_there}
use Rattle.pim_rm3.proofs.schedule.needed_along.Goals as goal

pub overflow_add-result : goal.overflow_add-result
overflow_add-result c =
    let g = c.args.aig.now in
    let few = order_few g c.args.graph.now c.requires.graph c.has_order.ensures.few in
    let listed = ap (λ (ys : List ℕ). length ys) c.requires.order in
    omega (arith, c.in_ok-held.ensures.within, c.inputs.ensures.sound.inputs_fit, c.inputs.ensures.sound.ands_fit)

within : (g : AigView) (v : GraphView) (xs : List ℕ) → v ≡ gate_graph g → xs ≡ gates g → IsPlaced v xs → All (IsReached v) xs → IsPlaced v (order v) → length xs ≤ length g.ands + count_by is_made (gate_graph g).roots
within g v xs graph listed placed reached ordered =
    let P : GraphView → Type 0 = λ w. IsPlaced w xs in
    let Q : List ℕ → Type 0 = λ ys. IsPlaced (gate_graph g) ys in
    let R : GraphView → Type 0 = λ w. All (IsReached w) xs in
    let S : List ℕ → Type 0 = λ ys. All (IsReached (gate_graph g)) ys in
    let all = gates_within g (subst Q listed (subst P graph placed)) (subst S listed (subst R graph reached)) (order_there g v graph ordered) in
    omega (arith, ap (λ (ys : List ℕ). length ys) listed)

pub returns-clause-most : goal.returns-clause-most
returns-clause-most c =
    let all = within c.args.aig.now c.args.graph.now c.args.order.now c.requires.graph c.requires.order c.requires.placed c.requires.reached c.has_order.ensures.placed in
    omega (arith, c.inputs.ensures.count, c.in_ok-held.ensures.within)
