use Rattle.std.proofs.Common.{◌≡◌, ℕ, ◌++◌, ◌∷◌, [], List, append_assoc, flat_map, get_or, take, sym, ◌∙◌, ap}
use Rattle.std.proofs.lemmas.List.{flat_map_more, take_more}
use Rattle.pim_rm3.specs.Temporaries.{gate_number, own_temporary, temporary_of, with_temporary}
use Rattle.pim_rm3.specs.declared.step.Step.{Step}
use Rattle.pim_rm3.proofs.temporaries.full_order.Goals as goal

pub loop-literal-preserved : goal.loop-literal-preserved
loop-literal-preserved c =
    let g = c.args.mig.now in
    let i = c.loop-literal.literal-index in
    let xs = c.args.order.now in
    let l = get_or xs i 0 in
    let w = with_temporary g in
    let own : own_temporary l c.temporary_of.result ≡ own_temporary l (temporary_of (c.step_at-step.result)) = ap (own_temporary l) c.temporary_of.ensures in
    let whole : own_temporary l (temporary_of (c.step_at-step.result)) ++ gate_number l ∷ [] ≡ w l = ap (λ (s : Step). own_temporary l (temporary_of s) ++ gate_number l ∷ []) c.step_at-step.ensures.step in
    c.in_ok-push.ensures.items
    ∙ ap (λ (ys : List ℕ). ys ++ gate_number l ∷ []) (c.in_ok-put_temporary.ensures ∙ ap (λ (ys : List ℕ). ys ++ own_temporary l c.temporary_of.result) c.loop-literal.invariant)
    ∙ append_assoc (flat_map w (take i xs)) (own_temporary l c.temporary_of.result) (gate_number l ∷ [])
    ∙ ap (λ (ys : List ℕ). flat_map w (take i xs) ++ (ys ++ gate_number l ∷ [])) own
    ∙ ap (λ (ys : List ℕ). flat_map w (take i xs) ++ ys) whole
    ∙ flat_map_more w [] (take i xs) l
    ∙ ap (flat_map w) (sym (take_more xs i 0 c.loop-literal-test.true))
