use Rattle.std.proofs.Common.{◌<◌, length, ap, arith}
use Rattle.std.proofs.lemmas.List.{length-map}
use Rattle.pim_graph.specs.Graphs.{GraphView}
use Rattle.pim_graph.specs.inner.Nodes.{children_of}
use Rattle.pim_graph.proofs.Wholes.{children-before}
use Rattle.pim_graph.proofs.graph.Graph.children.Goals as goal

pub returns-clause-below : goal.returns-clause-below
returns-clause-below c =
    let nodes = c.self.inside.nodes.items in
    let len = length-map nodes children_of in
    let view = ap (λ (g : GraphView). length g.kids) c.self.view_is in
    let there : c.args.gate < length nodes = omega (arith, c.requires) in
    children-before nodes c.self.inside.roots.items c.args.gate c.index-node.result.now c.self.invariant there c.index-node.ensures
