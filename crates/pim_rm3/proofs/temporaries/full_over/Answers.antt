use Rattle.std.proofs.Common.{ℕ, ◌++◌, ◌∷◌, [], List, Option, flat_map, get_or, take, sym, ◌∙◌, ap}
use Rattle.std.proofs.lemmas.List.{flat_map_more, take_more}
use Rattle.pim_rm3.specs.Temporaries.{step_takes, takes_of, temporary_of, temporary_takes}
use Rattle.pim_rm3.specs.declared.step.Step.{Step}
use Rattle.pim_rm3.proofs.temporaries.full_over.Goals as goal

pub loop-literal-preserved : goal.loop-literal-preserved
loop-literal-preserved c =
    let g = c.args.mig.now in
    let i = c.loop-literal.literal-index in
    let xs = c.args.order.now in
    let l = get_or xs i 0 in
    let w = takes_of g in
    c.in_ok-put_takes.ensures
    ∙ ap (λ (ys : List (Option ℕ)). ys ++ (temporary_takes (temporary_of c.step_at.result) ++ step_takes c.step_at.result ∷ [])) c.loop-literal.invariant
    ∙ ap (λ (s : Step). flat_map w (take i xs) ++ (temporary_takes (temporary_of s) ++ step_takes s ∷ [])) c.step_at.ensures.step
    ∙ flat_map_more w [] (take i xs) l
    ∙ ap (flat_map w) (sym (take_more xs i 0 c.loop-literal-test.true))
