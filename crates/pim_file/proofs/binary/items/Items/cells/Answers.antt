use Rattle.std.proofs.Common.{◌++◌, ◌∷◌, []}
use Rattle.std.proofs.lemmas.Result.{err_from_is_err_and}
use Rattle.std.proofs.lemmas.List.{append-nil}
use Rattle.pim_file.specs.Items.{number_at}
use Rattle.pim_file.proofs.ManyLemmas.{append_cons, goes_on, ends, is_done}
use Rattle.pim_file.proofs.binary.items.Items.cells.Goals as goal

pub returns-in_err-cell : goal.returns-in_err-cell
returns-in_err-cell c =
    let p = err_from_is_err_and c.from_residual.result c.from_residual.ensures.1 in
    rw (p.1, p.2) (ends number_at (λ front x. front ++ x ∷ []) (λ front xs. front ++ xs) c.args.count c.loop.counter c.loop.self c.loop.cells _ c.in_err-cell.field-0.0 c.loop-test.true c.in_err-cell.ensures c.loop.invariant)

pub loop-preserved : goal.loop-preserved
loop-preserved c =
    rw c.in_ok-push.ensures.ok (goes_on number_at (λ front x. front ++ x ∷ []) (λ front xs. front ++ xs) c.args.count c.loop.counter c.loop.self c.loop.cells _ append_cons c.in_ok-cell.cell c.number.new.self c.loop-test.true c.in_ok-cell.ensures c.loop.invariant)

pub returns : goal.returns
returns c = is_done number_at (λ front x. front ++ x ∷ []) (λ front xs. front ++ xs) c.args.count c.loop.counter c.loop.self c.loop.cells _ (append-nil c.loop.cells) c.loop-test.false c.loop.invariant
