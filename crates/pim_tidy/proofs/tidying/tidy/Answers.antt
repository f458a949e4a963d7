use Rattle.std.proofs.Common.{◌≡◌, List, length, map, refl, sym, ◌∙◌, ap, subst, arith}
use Rattle.pim_aig.specs.Graph.{AigView}
use Rattle.pim_aig.specs.declared.graph.And.{And}
use Rattle.pim_aig.specs.declared.literal.Lit.{Lit}
use Rattle.pim_tidy.specs.Tidied.{begun, tidying}
use Rattle.pim_aig.specs.Moving.{moved}
use Rattle.pim_tidy.specs.Tidy.{AreTidy}
use Rattle.pim_tidy.proofs.Steps.{rest_few}
use Rattle.pim_tidy.proofs.Tidies.{all_tidy}
use Rattle.pim_tidy.proofs.Values.{tidied_values}
use Rattle.pim_tidy.proofs.tidying.tidy.Goals as goal

pub returns-clause-values : goal.returns-clause-values
returns-clause-values c = λ bits count.
    let g = c.args.aig.now in
    let t = c.add_outputs.new.tidy in
    let made = c.in_ok-add_outputs.ensures in
    let nodes = c.in_ok-lits.ensures.nodes in
    let first = c.new-tidy.ensures in
    tidied_values g t bits c.inputs.ensures.sound c.has_values.ensures c.has_values-2.ensures
    (ap (λ (h : AigView). h.inputs) made ∙ ap (λ (h : AigView). h.inputs) nodes ∙ ap (λ (h : AigView). h.inputs) first ∙ c.inputs.ensures.count) count
    (ap (λ (h : AigView). h.ands) made ∙ ap (λ (h : AigView). h.ands) nodes)
    (ap (λ (h : AigView). h.outputs) made ∙ ap (λ (xs : List Lit). map (moved xs) g.outputs) (c.deref.ensures.value ∙ c.in_ok-lits.ensures.literals))

pub returns-clause-tidy : goal.returns-clause-tidy
returns-clause-tidy c =
    let g = c.args.aig.now in
    let is : c.add_outputs.new.tidy.ands ≡ (tidying g).ands = ap (λ (h : AigView). h.ands) c.in_ok-add_outputs.ensures ∙ ap (λ (h : AigView). h.ands) c.in_ok-lits.ensures.nodes in
    subst AreTidy (sym is) (all_tidy g.inputs (begun g.inputs) g.ands refl)

pub returns-clause-no_more : goal.returns-clause-no_more
returns-clause-no_more c =
    let g = c.args.aig.now in
    let is : c.add_outputs.new.tidy.ands ≡ (tidying g).ands = ap (λ (h : AigView). h.ands) c.in_ok-add_outputs.ensures ∙ ap (λ (h : AigView). h.ands) c.in_ok-lits.ensures.nodes in
    omega (arith, ap (λ (xs : List And). length xs) is, rest_few g.inputs (begun g.inputs) g.ands)
