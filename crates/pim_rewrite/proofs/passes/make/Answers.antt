use Rattle.std.proofs.Common.{List, map, ◌∙◌, ap}
use Rattle.pim_aig.specs.declared.literal.Lit.{Lit}
use Rattle.pim_mig.specs.Graph.{MigView}
use Rattle.pim_aig.specs.Moving.{moved}
use Rattle.pim_rewrite.specs.inner.Steps.{step_of}
use Rattle.pim_rewrite.proofs.Loops.{step_grows, step_values}
use Rattle.pim_rewrite.proofs.Values.{AreTwo, passed_values}
use Rattle.pim_rewrite.proofs.passes.make.Goals as goal

pub returns-clause-values : goal.returns-clause-values
returns-clause-values c = λ bits count.
    let g = c.args.reading.now in
    let t = c.add_outputs.new.made in
    let laws = c.nodes_have_laws.ensures in
    let outs = c.in_ok-add_outputs.ensures in
    let nodes = c.in_ok-lits.ensures.nodes in
    let same = ap (λ (h : MigView). h.inputs) outs ∙ ap (λ (h : MigView). h.inputs) nodes ∙ ap (λ (h : MigView). h.inputs) c.new-made.ensures ∙ c.inputs.ensures.count in
    let two : AreTwo g t bits = record { sound = c.inputs.ensures.sound; laws = laws; old = c.has_values.ensures; new = c.has_values-2.ensures; same = same; count = count } in
    passed_values (step_of c.args.pass g) g t bits two (step_grows laws g c.args.pass) (step_values g t bits c.args.pass two)
    (ap (λ (h : MigView). h.nodes) outs ∙ ap (λ (h : MigView). h.nodes) nodes)
    (ap (λ (h : MigView). h.outputs) outs ∙ ap (λ (xs : List Lit). map (moved xs) c.outputs.result.now) (c.deref.ensures.value ∙ c.in_ok-lits.ensures.literals) ∙ ap (map (moved _)) c.outputs.ensures.literals)
