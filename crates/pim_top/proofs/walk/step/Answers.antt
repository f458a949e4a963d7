use Rattle.std.proofs.Common.{◌≡◌, length, subst}
use Rattle.std.proofs.lemmas.Result.{err_from_is_err_and}
use Rattle.pim_batch.specs.Runners.{Runner, results}
use Rattle.pim_io.specs.Outside.{TookAll, TookFirst}
use Rattle.pim_top.proofs.WalkSteps.{cut-end, cut-full, step-end, step-full, step-more, step-refused}
use Rattle.pim_top.proofs.walk.step.Goals as goal

pub returns-in_err-take_up-clause-refused : goal.returns-in_err-take_up-clause-refused
returns-in_err-take_up-clause-refused g c =
    let p = err_from_is_err_and c.from_residual.result c.from_residual.ensures.1 in
    rw (p.1, p.2)
    (step-refused (g.S.Source.left c.args.input.now) (g.S.Source.left c.take_up.new.input) (g.K.Sink.taken c.args.output.now) (g.E.Executor.runner c.args.executor.now)
    c.args.lines.now (g.E.Executor.rows c.args.executor.now) _ _ c.in_err-take_up.field-0.0 c.in_err-take_up.ensures.kinds c.requires.room c.in_err-take_up.ensures.stops)

pub returns-in_err-flush-clause-refused : goal.returns-in_err-flush-clause-refused
returns-in_err-flush-clause-refused g c =
    let p = err_from_is_err_and c.from_residual-in_err-flush.result c.from_residual-in_err-flush.ensures.1 in
    let runner = g.E.Executor.runner c.args.executor.now in
    let packed = g.E.Executor.rows c.take_up.new.executor in
    let F : Runner → Type 0 = λ r. TookFirst (g.K.Sink.taken c.args.output.now) (g.K.Sink.taken c.flush.new.output) (results r packed) in
    rw (p.1, p.2)
    (cut-end (g.S.Source.left c.args.input.now) (g.S.Source.left c.take_up.new.input) (g.K.Sink.taken c.args.output.now) (g.K.Sink.taken c.flush.new.output) runner
    c.args.lines.now c.take_up.new.lines (g.E.Executor.rows c.args.executor.now) packed
    (rw c.if-not-branch.true at c.in_ok-take_up.ensures.goes) (subst F c.take_up.ensures.same c.in_err-flush.ensures.wrote.0))

pub returns-then-not-branch-clause-goes : goal.returns-then-not-branch-clause-goes
returns-then-not-branch-clause-goes g c =
    let runner = g.E.Executor.runner c.args.executor.now in
    let packed = g.E.Executor.rows c.take_up.new.executor in
    let F : Runner → Type 0 = λ r. TookAll (g.K.Sink.taken c.args.output.now) (g.K.Sink.taken c.flush.new.output) (results r packed) in
    step-end (g.S.Source.left c.args.input.now) (g.S.Source.left c.take_up.new.input) (g.K.Sink.taken c.args.output.now) (g.K.Sink.taken c.flush.new.output) runner
    c.args.lines.now c.take_up.new.lines (g.E.Executor.rows c.args.executor.now) packed
    (rw c.if-not-branch.true at c.in_ok-take_up.ensures.goes) (subst F c.take_up.ensures.same c.in_ok-flush.ensures.wrote.0)

pub returns-then-not-is_full-clause-goes : goal.returns-then-not-is_full-clause-goes
returns-then-not-is_full-clause-goes g c =
    step-more (g.S.Source.left c.args.input.now) (g.S.Source.left c.take_up.new.input) (g.K.Sink.taken c.args.output.now) (g.E.Executor.runner c.args.executor.now)
    c.args.lines.now c.take_up.new.lines (g.E.Executor.rows c.args.executor.now) (g.E.Executor.rows c.take_up.new.executor)
    (rw c.if-not-branch.false at c.in_ok-take_up.ensures.goes)

pub returns-in_err-flush-2-clause-refused : goal.returns-in_err-flush-2-clause-refused
returns-in_err-flush-2-clause-refused g c =
    let p = err_from_is_err_and c.from_residual-in_err-flush-2.result c.from_residual-in_err-flush-2.ensures.1 in
    let runner = g.E.Executor.runner c.args.executor.now in
    let packed = g.E.Executor.rows c.take_up.new.executor in
    let F : Runner → Type 0 = λ r. TookFirst (g.K.Sink.taken c.args.output.now) (g.K.Sink.taken c.flush-2.new.output) (results r packed) in
    rw (p.1, p.2)
    (cut-full (g.S.Source.left c.args.input.now) (g.S.Source.left c.take_up.new.input) (g.K.Sink.taken c.args.output.now) (g.K.Sink.taken c.flush-2.new.output) runner
    c.args.lines.now c.take_up.new.lines (g.E.Executor.rows c.args.executor.now) packed
    (rw c.if-not-branch.false at c.in_ok-take_up.ensures.goes) (subst F c.take_up.ensures.same c.in_err-flush-2.ensures.wrote.0))

pub returns-clause-goes : goal.returns-clause-goes
returns-clause-goes g c =
    let runner = g.E.Executor.runner c.args.executor.now in
    let packed = g.E.Executor.rows c.take_up.new.executor in
    let F : Runner → Type 0 = λ r. TookAll (g.K.Sink.taken c.args.output.now) (g.K.Sink.taken c.flush-2.new.output) (results r packed) in
    let T : Runner → Type 0 = λ r. length packed ≡ r.tile in
    step-full (g.S.Source.left c.args.input.now) (g.S.Source.left c.take_up.new.input) (g.K.Sink.taken c.args.output.now) (g.K.Sink.taken c.flush-2.new.output) runner
    c.args.lines.now c.take_up.new.lines (g.E.Executor.rows c.args.executor.now) packed (g.E.Executor.rows c.flush-2.new.self)
    (rw c.if-not-branch.false at c.in_ok-take_up.ensures.goes) (subst T c.take_up.ensures.same (c.is_full.ensures.full.0 c.if-not-is_full.false))
    c.in_ok-flush-2.ensures.emptied (subst F c.take_up.ensures.same c.in_ok-flush-2.ensures.wrote.0)

pub returns-then-not-branch-clause-output_steady : goal.returns-then-not-branch-clause-output_steady
returns-then-not-branch-clause-output_steady g c = c.in_ok-flush.ensures.wrote.1

pub returns-clause-output_steady : goal.returns-clause-output_steady
returns-clause-output_steady g c = c.in_ok-flush-2.ensures.wrote.1
