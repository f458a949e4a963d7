use Rattle.std.proofs.Common.{◌≡◌, ◌+◌, ◌++◌, ◌∷◌, [], List, map, sym, ◌∙◌, ap, arith}
use Rattle.std.specs.List.{range_with_len}
use Rattle.std.proofs.lemmas.List.FromFn.{map-range_with_len_more}
use Rattle.pim_rm3.specs.Steps.{step_of}
use Rattle.pim_rm3.specs.declared.step.Step.{Step}
use Rattle.pim_rm3.proofs.step.steps.Goals as goal

pub loop-literal-preserved : goal.loop-literal-preserved
loop-literal-preserved c =
    let f = step_of c.args.mig.now in
    let n = c.loop-literal.literal in
    let next : 0 + n ≡ n = omega arith in
    c.in_ok-push.ensures.items
    ∙ ap (λ (ys : List Step). ys ++ c.step_of.result ∷ []) c.loop-literal.invariant
    ∙ ap (λ (s : Step). map f (range_with_len 0 n) ++ s ∷ []) c.step_of.ensures
    ∙ sym (map-range_with_len_more f 0 n n next)
