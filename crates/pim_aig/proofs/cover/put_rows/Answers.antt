use Rattle.std.proofs.Common.{ℕ, ◌++◌, ◌∷◌, [], List, length, arith, ap, ◌∙◌, subst}
use Rattle.std.proofs.lemmas.Result.{err_from_is_err_and}
use Rattle.pim_aig.specs.Chains.{chain, row_literals}
use Rattle.pim_net.specs.Tables.{values as literals_of}
use Rattle.pim_aig.specs.Faults.{Says}
use Rattle.pim_aig.specs.Graph.{nodes}
use Rattle.pim_aig.specs.declared.literal.Lit.{Lit}
use Rattle.pim_aig.proofs.Rows.{rows_step, rows_fault, All-IsOfFirst-push}
use Rattle.pim_aig.proofs.cover.put_rows.Goals as goal

pub returns-in_err-chain-clause-fault : goal.returns-in_err-chain-clause-fault
returns-in_err-chain-clause-fault c =
    let p = err_from_is_err_and c.from_residual.result c.from_residual.ensures.1 in
    let lits = literals_of c.args.table.now in
    let f = c.in_err-chain.field-0.0 in
    let P : List ℕ → Type 0 = λ ins. Says f (length (chain c.loop-k.aig.inputs c.loop-k.aig.ands (row_literals lits ins c.row.result.now)).ands) in
    rw (p.1, p.2) (rows_fault f c.loop-k.aig.inputs lits c.args.cover.now.ins c.loop-k.aig.ands c.loop-k.literals.items c.args.cover.now.rows c.loop-k.k c.row.result.now _ c.row.ensures.row (subst P c.ins.ensures.ins c.in_err-chain.ensures.fault) c.loop-k.invariant.rest)

pub loop-k-preserved : goal.loop-k-preserved
loop-k-preserved c =
    let lits = literals_of c.args.table.now in
    let old = c.loop-k.aig in
    let made = c.in_ok-chain.ensures.made ∙ ap (λ (ins : List ℕ). chain old.inputs old.ands (row_literals lits ins c.row.result.now)) c.ins.ensures.ins in
    let pushed = c.in_ok-push.ensures.items ∙ ap (λ (l : Lit). c.loop-k.literals.items ++ l ∷ []) c.complement.ensures in
    record {
      rest = rows_step old.inputs c.row_chain.new.aig.inputs lits c.args.cover.now.ins old.ands c.row_chain.new.aig.ands c.loop-k.literals.items c.push.new.self.items c.args.cover.now.rows c.loop-k.k c.row.result.now c.in_ok-chain.chain _ c.row_chain.ensures.grown.inputs_stay c.row.ensures.row made pushed c.loop-k.invariant.rest;
      there = All-IsOfFirst-push (nodes old) (nodes c.row_chain.new.aig) c.loop-k.literals.items c.push.new.self.items c.in_ok-chain.chain (omega (arith, c.row_chain.ensures.grown.inputs_stay, c.row_chain.ensures.grown.no_fewer)) c.loop-k.invariant.there c.in_ok-chain.ensures.there pushed;
      grown = grind arith;
    }
