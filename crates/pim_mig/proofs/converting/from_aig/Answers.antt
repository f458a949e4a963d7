use Rattle.std.proofs.Common.{List, map, ◌∙◌, ap}
use Rattle.pim_aig.specs.declared.literal.Lit.{Lit}
use Rattle.pim_mig.specs.Graph.{MigView}
use Rattle.pim_aig.specs.Moving.{moved}
use Rattle.pim_mig.proofs.Steps.{majs_values}
use Rattle.pim_mig.proofs.converting.from_aig.Goals as goal

pub returns-clause-values : goal.returns-clause-values
returns-clause-values c = λ bits count.
    let g = c.args.aig.now in
    let t = c.add_outputs.new.mig in
    let made = c.in_ok-add_outputs.ensures in
    let nodes = c.in_ok-lits.ensures.nodes in
    let first = c.new-mig.ensures in
    majs_values g t bits c.inputs.ensures.sound c.has_values.ensures c.has_values-2.ensures
    (ap (λ (h : MigView). h.inputs) made ∙ ap (λ (h : MigView). h.inputs) nodes ∙ ap (λ (h : MigView). h.inputs) first ∙ c.inputs.ensures.count) count
    (ap (λ (h : MigView). h.nodes) made ∙ ap (λ (h : MigView). h.nodes) nodes)
    (ap (λ (h : MigView). h.outputs) made ∙ ap (λ (xs : List Lit). map (moved xs) g.outputs) (c.deref.ensures.value ∙ c.in_ok-lits.ensures.literals))
