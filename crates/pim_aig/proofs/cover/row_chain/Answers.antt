use Rattle.std.proofs.Common.{◌+◌, List, ◌∷◌, length, drop, ap, subst, sym, ◌∙◌, arith}
use Rattle.std.proofs.lemmas.Result.{err_from_is_err_and}
use Rattle.pim_net.specs.declared.cover.Bit3.TheVariants.{Zero, One}
use Rattle.pim_aig.specs.Chains.{chain_from, row_literals, Built}
use Rattle.pim_net.specs.Tables.{values as literals_of}
use Rattle.pim_aig.specs.Literals.{complement}
use Rattle.pim_aig.specs.Faults.{Says}
use Rattle.pim_aig.specs.declared.literal.Lit.{Lit}
use Rattle.pim_aig.proofs.Rows.{row_literals-drop}
use Rattle.pim_aig.proofs.cover.row_chain.Goals as goal

pub returns-in_err-link-in-One-clause-fault : goal.returns-in_err-link-in-One-clause-fault
returns-in_err-link-in-One-clause-fault c =
    let p = err_from_is_err_and c.from_residual.result c.from_residual.ensures.1 in
    let k = c.loop-k.k in
    let lits = literals_of c.args.table.now in
    let P : Built → Type 0 = λ b. Says c.in_err-link-in-One.field-0.0 (length b.ands) in
    let at = row_literals-drop lits c.args.ins.now c.args.row.now k _ One (omega arith) (omega arith) c.in-One.is in
    let rest = row_literals lits (drop (k + 1) c.args.ins.now) (drop (k + 1) c.args.row.now) in
    let F : Lit → Type 0 = λ l. P (chain_from c.loop-k.aig.inputs c.loop-k.aig.ands c.loop-k.last (l ∷ rest)) in
    rw (p.1, p.2) (subst P (ap (λ (ls : List Lit). chain_from c.loop-k.aig.inputs c.loop-k.aig.ands c.loop-k.last ls) (sym at) ∙ c.loop-k.invariant.rest) (subst F c.at-literal.ensures (c.in_err-link-in-One.ensures.fault rest)))

pub returns-in_err-link-in-Zero-clause-fault : goal.returns-in_err-link-in-Zero-clause-fault
returns-in_err-link-in-Zero-clause-fault c =
    let p = err_from_is_err_and c.from_residual-in_err-link-in-Zero.result c.from_residual-in_err-link-in-Zero.ensures.1 in
    let k = c.loop-k.k in
    let lits = literals_of c.args.table.now in
    let P : Built → Type 0 = λ b. Says c.in_err-link-in-Zero.field-0.0 (length b.ands) in
    let at = row_literals-drop lits c.args.ins.now c.args.row.now k _ Zero (omega arith) (omega arith) c.in-Zero.is in
    let rest = row_literals lits (drop (k + 1) c.args.ins.now) (drop (k + 1) c.args.row.now) in
    let F : Lit → Type 0 = λ l. P (chain_from c.loop-k.aig.inputs c.loop-k.aig.ands c.loop-k.last (l ∷ rest)) in
    rw (p.1, p.2) (subst P (ap (λ (ls : List Lit). chain_from c.loop-k.aig.inputs c.loop-k.aig.ands c.loop-k.last ls) (sym at) ∙ c.loop-k.invariant.rest) (subst F (c.complement.ensures ∙ ap complement c.at-literal.ensures) (c.in_err-link-in-Zero.ensures.fault rest)))
