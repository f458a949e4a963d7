use Rattle.std.proofs.Common.{Err, inr, subst}
use Rattle.std.proofs.lemmas.Result.{err_from_is_err_and}
use Rattle.pim_isa.specs.declared.target.Fill.{Fill}
use Rattle.pim_top.specs.Streams.{Stream, stream}
use Rattle.pim_top.specs.commands.Debug.{LinesEnd}
use Rattle.pim_top.proofs.commands.debug.Late.{debug-late, lines-ended, lines-unbegun}
use Rattle.pim_top.proofs.commands.debug.obey.Goals as goal

-- the first line was refused
pub returns-in_err-session : goal.returns-in_err-session
returns-in_err-session g c =
    let p = err_from_is_err_and c.from_residual-in_err-session.result c.from_residual-in_err-session.ensures.1 in
    let program = c.in_ok-program.program in
    let i : Stream = stream g.S.Source.left g.S.Source.faults c.args.input.now c.begin.new.input in
    let o : Stream = stream g.K.Sink.taken g.K.Sink.faults c.args.output.now c.args.output.now in
    rw (p.1, p.2)
    (inr (record {
      program = program;
      loaded = c.in_ok-program.ensures.loaded;
      lines = subst (λ (f : Fill). LinesEnd {Y = Unit {0}} program f i o (Err c.in_err-session.field-0.0)) c.fill_of.ensures
          (lines-unbegun program c.fill_of.result (g.S.Source.left c.args.input.now) (g.S.Source.left c.begin.new.input) (g.K.Sink.taken c.args.output.now)
          (g.S.Source.faults c.args.input.now) (g.S.Source.faults c.begin.new.input) (g.K.Sink.faults c.args.output.now) c.in_err-session.field-0.0
          c.in_err-session.ensures.refused c.in_err-session.ensures.kinds);
    }))

-- a session was begun
pub returns : goal.returns
returns g c =
    let program = c.in_ok-program.program in
    let session = c.in_ok-session.session in
    let i : Stream = stream g.S.Source.left g.S.Source.faults c.args.input.now c.obey_lines.new.input in
    let o : Stream = stream g.K.Sink.taken g.K.Sink.faults c.args.output.now c.obey_lines.new.output in
    debug-late c.args.fill _ program c.obey_lines.result c.in_ok-program.ensures.loaded
    (subst (λ (f : Fill). LinesEnd program f i o c.obey_lines.result) c.fill_of.ensures
    (lines-ended program session.program c.fill_of.result
    (g.S.Source.left c.args.input.now) (g.S.Source.left c.begin.new.input) (g.S.Source.left c.obey_lines.new.input)
    (g.K.Sink.taken c.args.output.now) (g.K.Sink.taken c.obey_lines.new.output)
    (g.S.Source.faults c.args.input.now) (g.S.Source.faults c.begin.new.input) (g.S.Source.faults c.obey_lines.new.input)
    (g.K.Sink.faults c.args.output.now) (g.K.Sink.faults c.obey_lines.new.output)
    c.begin.new.lines session c.obey_lines.result
    c.in_ok-session.ensures.program c.in_ok-session.ensures.begun c.in_ok-session.ensures.steady
    c.obey_lines.ensures.done c.obey_lines.ensures.refused c.obey_lines.ensures.input_steady c.obey_lines.ensures.output_steady c.obey_lines.ensures.kinds))
