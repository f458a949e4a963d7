use Rattle.std.proofs.Common.{◌≡◌, ◌-◌, Ok, Err, arith, ◌∙◌}
use Rattle.std.proofs.lemmas.Result.{err_from_is_err_and}
use Rattle.pim_batch.proofs.RowLemmas.{row_lines-cut}
use Rattle.pim_batch.proofs.lines.write_results.Goals as goal

pub loop-from-preserved : goal.loop-from-preserved
loop-from-preserved g c =
    let wrote = c.in_ok-write_lanes.ensures in
    let before = c.loop-from.invariant in
    let count = c.count_at_once-count in
    let cut = row_lines-cut c.args.results.now c.loop-from.from count.result c.args.lanes (omega (arith, count.ensures.within, before.within)) in
    record {
      same = wrote.wrote.1 ∙ before.same;
      rest = λ result taken faults later.
          before.rest result taken faults (rw cut (c.tell_writes.ensures.both _ _ _ _ _ _ result _ _ wrote.wrote later));
      within = omega (arith, count.ensures.within, before.within);
      room = wrote.room ∙ before.room;
      stage = wrote.stage;
      columns = wrote.columns ∙ before.columns;
    }

pub returns-in_err-write_lanes-clause-wrote : goal.returns-in_err-write_lanes-clause-wrote
returns-in_err-write_lanes-clause-wrote g c =
    let p = err_from_is_err_and c.from_residual.result c.from_residual.ensures.1 in
    let before = c.loop-from.invariant in
    let count = c.count_at_once-count in
    let cut = row_lines-cut c.args.results.now c.loop-from.from count.result c.args.lanes (omega (arith, count.ensures.within, before.within)) in
    rw p.1 (before.rest (Err p.0) _ _ (rw cut (c.tell_writes.ensures.failed _ _ _ _ p.0 _ _ c.in_err-write_lanes.ensures.wrote)))

pub returns-clause-wrote : goal.returns-clause-wrote
returns-clause-wrote g c =
    let none : c.args.lanes - c.loop-from.from ≡ 0 = omega arith in
    c.loop-from.invariant.rest (Ok (tt {0})) _ _ (rw none (c.tell_writes.ensures.none _ _))
