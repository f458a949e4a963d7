use Rattle.std.proofs.Common.{[], None, length}
use Rattle.std.proofs.lemmas.Result.{err_from_is_err_and}
use Rattle.pim_aig.specs.Chains.{rows_from, cover_from}
use Rattle.pim_net.specs.Tables.{values as literals_of}
use Rattle.pim_aig.proofs.Linking.{chain_from-le, Says-le}
use Rattle.pim_aig.proofs.cover.cover_literal.Goals as goal

pub returns-in_err-put_rows-clause-fault : goal.returns-in_err-put_rows-clause-fault
returns-in_err-put_rows-clause-fault c =
    let p = err_from_is_err_and c.from_residual.result c.from_residual.ensures.1 in
    let g = c.args.aig.now in
    let r = rows_from g.inputs (literals_of c.args.table.now) c.args.cover.now.ins g.ands [] c.args.cover.now.rows in
    rw (p.1, p.2) (Says-le c.in_err-put_rows.field-0.0 (length r.ands) (length (cover_from g.inputs (literals_of c.args.table.now) g.ands c.args.cover.now).ands) (chain_from-le g.inputs r.ands None r.lits) c.in_err-put_rows.ensures.fault)
