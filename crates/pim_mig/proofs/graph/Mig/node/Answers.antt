use Rattle.std.proofs.Common.{◌≡◌, ◌+◌, Option, Some, None, ℕ, refl, sym, ◌∙◌, ap}
use Rattle.pim_aig.specs.Literals.{plain}
use Rattle.pim_aig.specs.declared.literal.Lit.{Lit}
use Rattle.pim_mig.specs.Graph.{MigView}
use Rattle.pim_mig.specs.Nodes.{made_by, simplified}
use Rattle.pim_mig.specs.declared.node.Maj.{Maj}
use Rattle.pim_mig.proofs.Answers.{value_after}
use Rattle.pim_mig.proofs.graph.Mig.node.Goals as goal

pub returns-in-Some-clause-value : goal.returns-in-Some-clause-value
returns-in-Some-clause-value c = λ bits count.
    let g = c.args.self.now in
    let m : Maj = record { x = c.args.x; y = c.args.y; z = c.args.z } in
    let s : simplified m ≡ Some c.in-Some.literal = sym c.simplified.ensures ∙ c.in-Some.is in
    value_after g bits g.inputs g.nodes m c.in-Some.literal c.has_values.ensures count refl
    (sym (ap (λ (o : Option Lit). (made_by o g.inputs g.nodes m).nodes) s))
    (sym (ap (λ (o : Option Lit). (made_by o g.inputs g.nodes m).lit) s))

pub returns-clause-value : goal.returns-clause-value
returns-clause-value c = λ bits count.
    let g = c.args.self.now in
    let after = c.share.new.self in
    let m : Maj = record { x = c.args.x; y = c.args.y; z = c.args.z } in
    let n : simplified m ≡ None = sym c.simplified.ensures ∙ c.in_default.is in
    let grown = c.in_ok-place.ensures.grown in
    let inputs = ap (λ (h : MigView). h.inputs) grown in
    value_after after bits g.inputs g.nodes m c.plain.result c.has_values-2.ensures count inputs
    (ap (λ (h : MigView). h.nodes) grown ∙ sym (ap (λ (o : Option Lit). (made_by o g.inputs g.nodes m).nodes) n))
    (c.plain.ensures ∙ ap (λ (k : ℕ). plain (1 + k + c.in_ok-place.place)) (ap (λ (h : MigView). h.inputs) c.self.view_is ∙ inputs)
    ∙ c.in_ok-place.ensures.literal ∙ sym (ap (λ (o : Option Lit). (made_by o g.inputs g.nodes m).lit) n))
