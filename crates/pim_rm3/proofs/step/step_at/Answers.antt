use Rattle.std.proofs.Common.{◌≡◌, ℕ, ◌*◌, ◌<◌, List, get_or, length, map, sym, subst, ◌∙◌, ap, arith}
use Rattle.std.specs.List.{range_with_len}
use Rattle.std.proofs.lemmas.List.FromFn.{get_or-map-range_with_len, length-map-range_with_len}
use Rattle.pim_mig.specs.Graph.{MigView, size}
use Rattle.pim_rm3.specs.Steps.{step_of}
use Rattle.pim_rm3.specs.inner.Operands.{StepsBelow}
use Rattle.pim_rm3.specs.declared.step.Step.{Step}
use Rattle.pim_rm3.proofs.StepLaws.{step_below}
use Rattle.pim_rm3.proofs.step.step_at.Goals as goal

pub bounds-steps-literal : goal.bounds-steps-literal
bounds-steps-literal c =
    let e = ap (λ (ss : List Step). length ss) c.requires.steps ∙ length-map-range_with_len (step_of c.args.mig.now) 0 (2 * size c.args.mig.now) in
    omega (arith, c.requires.there)

at : (g : MigView) (ss : List Step) (l : ℕ) (d : Step) → ss ≡ map (step_of g) (range_with_len 0 (2 * size g)) → l < 2 * size g → get_or ss l d ≡ step_of g l
at g ss l d is h = ap (λ (xs : List Step). get_or xs l d) is ∙ get_or-map-range_with_len (step_of g) 0 (2 * size g) l l d h (omega arith)

pub returns-clause-step : goal.returns-clause-step
returns-clause-step c = at c.args.mig.now c.args.steps.now c.args.literal _ c.requires.steps c.requires.there

pub returns-clause-below : goal.returns-clause-below
returns-clause-below c =
    subst (StepsBelow c.args.literal) (sym (at c.args.mig.now c.args.steps.now c.args.literal _ c.requires.steps c.requires.there))
    (step_below c.args.mig.now c.args.literal c.literals-count.ensures.sound c.requires.there)
