use Rattle.std.proofs.Common.{◌+◌, ◌∷◌, [], List, All, drop, get_or, length, sym, ◌∙◌, ap, subst, arith, length-append}
use Rattle.std.proofs.lemmas.List.{drop_more}
use Rattle.std.proofs.lemmas.List.Elements.{All-push}
use Rattle.pim_aig.specs.Graph.{AigView, IsOfFirst, nodes}
use Rattle.pim_aig.specs.declared.graph.And.{And}
use Rattle.pim_aig.specs.declared.literal.Lit.{Lit}
use Rattle.pim_tidy.specs.Tidied.{tidying}
use Rattle.pim_aig.specs.Moving.{moved}
use Rattle.pim_tidy.proofs.Steps.{graph_is, step_whole}
use Rattle.pim_tidy.proofs.tidying.add_nodes.Goals as goal

pub loop-and-preserved : goal.loop-and-preserved
loop-and-preserved c =
    let k = c.loop-and.and-index in
    let ands = c.ands-ands.result.now in
    let none : And = record { x = record { 0 = 0 }; y = record { 0 = 0 } } in
    let a = get_or ands k none in
    let inv = c.loop-and.invariant in
    let j = c.in_ok-join.ensures in
    let l = c.in_ok-join.field-0 in
    let lits = c.loop-and.lits.items in
    let old = c.loop-and.tidy in
    let new = c.join.new.tidy in
    let items = c.in_ok-push.ensures.items in
    let P : List Lit → Type 0 = λ xs. All (IsOfFirst (nodes new)) xs in
    let in_new = ap (λ (g : AigView). g.inputs) j.nodes in
    record {
      whole = step_whole old.inputs new.inputs old.ands new.ands (drop k ands) (drop (k + 1) ands) lits c.push.new.self.items a c.moved-x.result c.moved-y.result l (tidying c.args.aig.now)
          (drop_more ands k none c.loop-and-test.true) inv.whole
          (c.moved-x.ensures ∙ ap (λ (xs : List Lit). moved xs a.x) c.deref.ensures.value)
          (c.moved-y.ensures ∙ ap (λ (xs : List Lit). moved xs a.y) c.deref-in-loop-and.ensures.value)
          j.literal (ap (λ (g : AigView). g.ands) j.nodes) items in_new;
      keys = j.keys;
      there = subst P (sym items) (All-push (IsOfFirst (nodes new)) lits l (λ i d h. let b = inv.there i d h in omega (arith, j.no_fewer, in_new)) j.there);
      count = omega (arith, ap (λ (xs : List Lit). length xs) items, length-append lits (l ∷ []), inv.count);
      few = omega (arith, j.one_more, inv.few);
      inputs = in_new ∙ inv.inputs;
      others = graph_is new c.args.tidy.now.inputs c.args.tidy.now.outputs (in_new ∙ ap (λ (g : AigView). g.inputs) inv.others) (ap (λ (g : AigView). g.outputs) j.nodes ∙ ap (λ (g : AigView). g.outputs) inv.others);
    }
