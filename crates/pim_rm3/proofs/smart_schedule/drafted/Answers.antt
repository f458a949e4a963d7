use Rattle.std.proofs.Common.{ℕ, List, length, ◌∙◌, ap, arith}
use Rattle.pim_rm3.proofs.StepLaws.{full_count}
use Rattle.pim_rm3.proofs.smart_schedule.drafted.Goals as goal

pub gate_cells-requires-clause-len : goal.gate_cells-requires-clause-len
gate_cells-requires-clause-len c =
    let e = ap (λ (xs : List ℕ). length xs) c.cells-held.ensures ∙ c.requires.len ∙ full_count c.args.mig.now in
    omega (arith, c.literals.ensures.count)

pub add_votes-requires-clause-held : goal.add_votes-requires-clause-held
add_votes-requires-clause-held c = ap (λ (xs : List ℕ). length xs) c.cells-held.ensures ∙ c.requires.len ∙ full_count c.args.mig.now
