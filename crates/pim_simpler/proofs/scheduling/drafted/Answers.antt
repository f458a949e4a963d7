use Rattle.std.proofs.Common.{◌∙◌, ℕ, List, sym, subst}
use Rattle.pim_simpler.specs.inner.Runs.{Plan, Drafted, cells_within}
use Rattle.pim_simpler.proofs.scheduling.drafted.Goals as goal

pub draft-requires-clause-plan : goal.draft-requires-clause-plan
draft-requires-clause-plan c =
    let n = c.args.net.now in
    let P : List ℕ → Type 0 = λ xs. Plan n xs (cells_within n c.args.budget) in
    let Q : ℕ → Type 0 = λ k. Plan n c.deref.result.now k in
    subst Q (sym c.cells_within-cells.ensures.cells) (subst P (sym (c.deref.ensures.value ∙ c.in_ok-gates.ensures.order)) c.in_ok-gates.ensures.plan)

pub returns-clause-draft : goal.returns-clause-draft
returns-clause-draft c =
    let n = c.args.net.now in
    let P : List ℕ → Type 0 = λ xs. Drafted n c.args.ports.now xs (cells_within n c.args.budget) c.in_ok-draft.draft in
    let Q : ℕ → Type 0 = λ k. Drafted n c.args.ports.now c.deref.result.now k c.in_ok-draft.draft in
    subst P (c.deref.ensures.value ∙ c.in_ok-gates.ensures.order) (subst Q c.cells_within-cells.ensures.cells c.in_ok-draft.ensures)
