use Rattle.std.proofs.Common.{◌≡◌, ℕ, ◌<◌, length, ap, ◌∙◌, subst, arith}
use Rattle.std.proofs.lemmas.List.{length-map}
use Rattle.pim_graph.specs.Graphs.{GraphView}
use Rattle.pim_graph.specs.Orders.{IsReached, order}
use Rattle.pim_nor.specs.GateGraphs.{gates_read, graph_of}
use Rattle.pim_nor.specs.Network.{IsNetwork}
use Rattle.pim_nor.proofs.GraphReached.{graph_of-reached, graph_of-once}
use Rattle.pim_nor.proofs.network.NorNet.graph.Goals as goal

pub returns-clause-once : goal.returns-clause-once
returns-clause-once c = graph_of-once c.args.self.now

pub returns-clause-reached : goal.returns-clause-reached
returns-clause-reached c = graph_of-reached c.args.self.now (subst IsNetwork c.self.view_is c.self.invariant.0)

pub returns-clause-full : goal.returns-clause-full
returns-clause-full c =
    let n = c.args.self.now in
    let is : c.self.inside.graph ≡ graph_of n = c.self.invariant.2 ∙ ap graph_of c.self.view_is in
    let len : length (graph_of n).kids ≡ length n.gates = length-map n.gates gates_read in
    let P : GraphView → Type 0 = λ g. ((k : ℕ) → k < length g.kids → IsReached g k) → length (order g) ≡ length g.kids in
    subst P is c.has_order.ensures.full (λ k l. graph_of-reached n (subst IsNetwork c.self.view_is c.self.invariant.0) k (omega arith)) ∙ len
