use Rattle.std.proofs.Common.{◌≡◌, ◌-◌, ◌+◌, ◌*◌, ℕ, Ok, Err, arith, sym, subst, ◌∙◌}
use Rattle.std.proofs.lemmas.Result.{err_from_is_err_and}
use Rattle.pim_io.specs.Outside.{Wrote}
use Rattle.pim_batch.specs.inner.ImplyLines.{imply_lines}
use Rattle.pim_batch.proofs.PassLemmas.{lines-cut, pass_left}
use Rattle.pim_batch.proofs.passes.execute.Goals as goal

pub loop-first-preserved : goal.loop-first-preserved
loop-first-preserved g c =
    let p = c.args.program.now in
    let vectors = c.args.vectors.now in
    let first = c.loop-first.first in
    let words = c.loop-first.room.words in
    let rows = c.args.rows in
    let wrote = c.in_ok-pass.ensures in
    let before = c.loop-first.invariant in
    let cut = lines-cut p c.args.fill vectors first words rows c.loop-first-test.true in
    record {
      same = wrote.wrote.1 ∙ before.same;
      rest = λ result taken faults later.
          let behind : Wrote result (g.K.Sink.taken c.pass.new.output) taken (g.K.Sink.faults c.pass.new.output) faults (imply_lines p c.args.fill vectors (64 * (first + words)) (rows - 64 * (first + words))) =
          subst (λ (n : ℕ). Wrote result (g.K.Sink.taken c.pass.new.output) taken (g.K.Sink.faults c.pass.new.output) faults (imply_lines p c.args.fill vectors (64 * (first + n)) (rows - 64 * (first + n)))) (sym before.words) later in
          before.rest result taken faults (rw cut (c.tell_writes.ensures.both _ _ _ _ _ _ result _ _ wrote.wrote behind));
      left = pass_left first rows c.args.room.now.words vectors.words before.left.0 c.loop-first-test.true c.requires.rows before.left.1;
      room = wrote.room;
      words = wrote.words ∙ before.words;
    }

pub returns-in_err-pass-clause-wrote : goal.returns-in_err-pass-clause-wrote
returns-in_err-pass-clause-wrote g c =
    let p = err_from_is_err_and c.from_residual.result c.from_residual.ensures.1 in
    let before = c.loop-first.invariant in
    let cut = lines-cut c.args.program.now c.args.fill c.args.vectors.now c.loop-first.first c.loop-first.room.words c.args.rows c.loop-first-test.true in
    rw p.1 (before.rest (Err p.0) _ _ (rw cut (c.tell_writes.ensures.failed _ _ _ _ p.0 _ _ c.in_err-pass.ensures.wrote)))

pub returns-clause-wrote : goal.returns-clause-wrote
returns-clause-wrote g c =
    let none : c.args.rows - 64 * c.loop-first.first ≡ 0 = omega arith in
    c.loop-first.invariant.rest (Ok (tt {0})) _ _ (rw none (c.tell_writes.ensures.none _ _))
