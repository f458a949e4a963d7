use Rattle.std.proofs.Common.{◌+◌, ◌<◌, ◌∷◌, [], List, All, drop, get_or, length, sym, ◌∙◌, ap, subst, arith, length-append}
use Rattle.std.proofs.lemmas.List.{drop_more}
use Rattle.std.proofs.lemmas.List.Elements.{All-push}
use Rattle.pim_aig.specs.Graph.{IsOfFirst}
use Rattle.pim_aig.specs.declared.literal.Lit.{Lit}
use Rattle.pim_mig.specs.Graph.{MigView, size}
use Rattle.pim_mig.specs.Majs.{Making}
use Rattle.pim_mig.specs.Needs.{is_needed}
use Rattle.pim_mig.specs.declared.node.Maj.{Maj}
use Rattle.pim_rewrite.specs.Cases.{case_of}
use Rattle.pim_rewrite.specs.Passes.{passing, stepped}
use Rattle.pim_rewrite.specs.inner.Steps.{step_of}
use Rattle.pim_rewrite.specs.inner.Tables.{most_made}
use Rattle.pim_rewrite.proofs.Frame.{none}
use Rattle.pim_rewrite.proofs.Loops.{few_step, graph_is, pass_step, room}
use Rattle.pim_rewrite.proofs.passes.move_nodes.Goals as goal

pub step_if_needed-requires-clause-room : goal.step_if_needed-requires-clause-room
step_if_needed-requires-clause-room c = λ needed.
    let g = c.args.reading.now in
    let k = c.loop-node.node-index in
    let inv = c.loop-node.invariant in
    let there : k < length g.nodes = omega (arith, ap (λ (xs : List Maj). length xs) c.nodes-nodes.ensures.nodes, c.loop-node-test.true) in
    let at = ap (λ (xs : List Lit). length xs) c.deref.ensures.value ∙ inv.count in
    let r = room g k there (ap (is_needed g) (sym at) ∙ needed) in
    omega (arith, inv.few, c.requires.few)

pub loop-node-preserved : goal.loop-node-preserved
loop-node-preserved c =
    let g = c.args.reading.now in
    let k = c.loop-node.node-index in
    let nodes = c.nodes-nodes.result.now in
    let m = get_or nodes k none in
    let inv = c.loop-node.invariant in
    let j = c.in_ok-literal.ensures in
    let l = c.in_ok-literal.literal in
    let lits = c.loop-node.lits.items in
    let old = c.loop-node.made in
    let new = c.step_if_needed.new.made in
    let items = c.in_ok-push.ensures.items in
    let step = step_of c.args.pass g in
    let P : List Lit → Type 0 = λ xs. All (IsOfFirst (size new)) xs in
    let in_new = ap (λ (h : MigView). h.inputs) j.nodes in
    let there : k < length g.nodes = omega (arith, ap (λ (xs : List Maj). length xs) c.nodes-nodes.ensures.nodes, c.loop-node-test.true) in
    let most = ap (λ (xs : List Lit). most_made (is_needed g (length xs)) (case_of g m)) c.deref.ensures.value in
    let begun : List Lit → Making = λ xs. record { nodes = old.nodes; lits = xs } in
    record {
      whole = pass_step step (is_needed g) old.nodes new.nodes lits c.push.new.self.items m l (1 + g.inputs + k) (1 + g.inputs + (k + 1)) (length lits) (drop k nodes) (drop (k + 1) nodes) (passing step g)
          (drop_more nodes k none c.loop-node-test.true) inv.count (omega arith)
          (j.literal ∙ ap (λ (xs : List Lit). (stepped (is_needed g (length xs)) step (begun xs) m).lit) c.deref.ensures.value)
          (ap (λ (h : MigView). h.nodes) j.nodes ∙ ap (λ (xs : List Lit). (stepped (is_needed g (length xs)) step (begun xs) m).nodes) c.deref.ensures.value)
          items inv.whole;
      there = subst P (sym items) (All-push (IsOfFirst (size new)) lits l (λ i d h. let b = inv.there i d h in omega (arith, j.no_fewer, in_new)) j.there);
      few = few_step g k m (length old.nodes) (length new.nodes) (length lits) inv.count c.nodes-nodes.ensures.sound there (ap (λ (xs : List Maj). get_or xs k none) c.nodes-nodes.ensures.nodes) inv.few (omega (arith, j.few));
      count = omega (arith, ap (λ (xs : List Lit). length xs) items, length-append lits (l ∷ []), inv.count);
      inputs = in_new ∙ inv.inputs;
      others = graph_is new c.args.made.now.inputs c.args.made.now.outputs (in_new ∙ ap (λ (h : MigView). h.inputs) inv.others) (ap (λ (h : MigView). h.outputs) j.nodes ∙ ap (λ (h : MigView). h.outputs) inv.others);
    }
