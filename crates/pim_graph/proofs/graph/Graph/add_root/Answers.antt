use Rattle.std.proofs.Common.{◌≡◌, ◌<◌, ◌≤◌, false, length, ap, sym, ◌∙◌, refl, subst, arith}
use Rattle.std.proofs.lemmas.List.{length-map, get_or_read}
use Rattle.pim_graph.specs.Graphs.{GraphView, has}
use Rattle.pim_graph.specs.inner.Nodes.{children_of}
use Rattle.pim_graph.specs.declared.graph.Node.{Node}
use Rattle.pim_graph.proofs.Wholes.{IsWhole-root, view-root}
use Rattle.pim_graph.proofs.graph.Graph.add_root.Goals as goal

pub invariant_of-self-2 : goal.invariant_of-self-2
invariant_of-self-2 c =
    let nodes = c.self.inside.nodes.items in
    let len = length-map nodes children_of in
    let view = ap (λ (g : GraphView). length g.kids) c.self.view_is in
    let there : c.args.gate < length nodes = omega (arith, c.requires.there) in
    let read = c.index_mut.ensures.value in
    let n = c.index_mut.result.now in
    let F : Node → Type 0 = λ x. x.count ≤ 4 in
    IsWhole-root nodes c.self.inside.roots.items c.push.new.self.items c.args.gate _ c.self.invariant there (ap children_of (get_or_read nodes c.args.gate n there read _)) (subst F (sym (get_or_read nodes c.args.gate n there read n)) (c.self.invariant.counts_fit c.args.gate n there)) refl c.in_ok-push.ensures.items

pub returns-clause-grown : goal.returns-clause-grown
returns-clause-grown c =
    let nodes = c.self.inside.nodes.items in
    let len = length-map nodes children_of in
    let view = ap (λ (g : GraphView). length g.kids) c.self.view_is in
    let there : c.args.gate < length nodes = omega (arith, c.requires.there) in
    let read = c.index_mut.ensures.value in
    let n = c.index_mut.result.now in
    let no_root : has c.self.inside.roots.items c.args.gate ≡ false = sym (c.self.invariant.marked c.args.gate c.index.result.now there) ∙ (ap (λ (x : Node). x.is_root) (sym c.index.ensures) ∙ c.if-index.false) in
    view-root nodes c.self.inside.roots.items c.push.new.self.items c.args.gate _ c.args.self.now c.self.view_is there (ap children_of (get_or_read nodes c.args.gate n there read _)) no_root c.in_ok-push.ensures.items
