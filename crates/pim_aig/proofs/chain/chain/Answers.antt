use Rattle.std.proofs.Common.{◌+◌, List, length, drop, ap, subst, sym, ◌∙◌}
use Rattle.std.proofs.lemmas.Result.{err_from_is_err_and}
use Rattle.std.proofs.lemmas.List.{drop_more}
use Rattle.pim_aig.specs.Chains.{chain_from, Built}
use Rattle.pim_aig.specs.Faults.{Says}
use Rattle.pim_aig.specs.declared.literal.Lit.{Lit}
use Rattle.pim_aig.proofs.chain.chain.Goals as goal

pub returns-in_err-link-clause-fault : goal.returns-in_err-link-clause-fault
returns-in_err-link-clause-fault c =
    let p = err_from_is_err_and c.from_residual.result c.from_residual.ensures.1 in
    let k = c.loop-literal.literal-index in
    let lits = c.args.literals.now in
    let P : Built → Type 0 = λ b. Says c.in_err-link.field-0.0 (length b.ands) in
    let at = drop_more lits k (record { 0 = 0 }) c.loop-literal-test.true in
    rw (p.1, p.2) (subst P (ap (λ (ls : List Lit). chain_from c.loop-literal.aig.inputs c.loop-literal.aig.ands c.loop-literal.last ls) (sym at) ∙ c.loop-literal.invariant.rest) (c.in_err-link.ensures.fault (drop (k + 1) lits)))
