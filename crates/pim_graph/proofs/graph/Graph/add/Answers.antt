use Rattle.std.proofs.Common.{◌≡◌, ℕ, ◌<◌, length, All, subst, ap, arith}
use Rattle.std.proofs.lemmas.List.{length-map}
use Rattle.pim_graph.specs.Graphs.{GraphView}
use Rattle.pim_graph.specs.inner.Nodes.{children_of}
use Rattle.pim_graph.proofs.Wholes.{IsWhole-push}
use Rattle.pim_graph.proofs.graph.Graph.add.Goals as goal

pub invariant_of-self-2 : goal.invariant_of-self-2
invariant_of-self-2 c =
    let nodes = c.self.inside.nodes.items in
    let len = length-map nodes children_of in
    let view = ap (λ (g : GraphView). length g.kids) c.self.view_is in
    let same : length c.args.self.now.kids ≡ length nodes = omega arith in
    let P : ℕ → Type 0 = λ m. All (λ k. k < m) c.args.children.now in
    IsWhole-push nodes c.push.new.self.items c.self.inside.roots.items c.node_of.result c.args.children.now c.self.invariant c.node_of.ensures c.requires.few (subst P same c.requires.there) (omega (arith, c.requires.room)) c.in_ok-push.ensures.items
