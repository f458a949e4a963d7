use Rattle.std.proofs.Common.{◌∙◌, refl}
use Rattle.std.proofs.lemmas.Result.{err_from_is_err_and}
use Rattle.pim_top.proofs.commands.debug.Told.{lines-start, step-done, step-off, step-on}
use Rattle.pim_top.proofs.commands.debug.obey_lines.Goals as goal

pub loop-more-init : goal.loop-more-init
loop-more-init g c = record {
  goes = lines-start (g.S.Source.left c.args.input.now) (g.K.Sink.taken c.args.output.now) c.args.session.now.program c.args.lines.now c.args.session.now;
  program = refl;
  longest = refl;
  input_steady = refl;
  output_steady = refl;
}

pub loop-more-preserved : goal.loop-more-preserved
loop-more-preserved g c =
    let i = c.loop-more.invariant in
    record {
      goes = step-on (g.S.Source.left c.args.input.now) (g.S.Source.left c.loop-more.input) (g.S.Source.left c.obey_line.new.input)
          (g.K.Sink.taken c.args.output.now) (g.K.Sink.taken c.loop-more.output) (g.K.Sink.taken c.obey_line.new.output)
          c.args.session.now.program c.loop-more.session.program c.args.lines.now c.loop-more.lines c.obey_line.new.lines
          c.args.session.now c.loop-more.session c.obey_line.new.session c.loop-more.more _ c.loop-more-test.true i.program i.goes c.in_ok-more.ensures.goes;
      program = c.obey_line.ensures.program ∙ i.program;
      longest = c.obey_line.ensures.longest ∙ i.longest;
      input_steady = c.in_ok-more.ensures.input_steady ∙ i.input_steady;
      output_steady = c.in_ok-more.ensures.output_steady ∙ i.output_steady;
    }

pub returns-in_err-more-clause-refused : goal.returns-in_err-more-clause-refused
returns-in_err-more-clause-refused g c =
    let p = err_from_is_err_and c.from_residual.result c.from_residual.ensures.1 in
    let i = c.loop-more.invariant in
    rw (p.1, p.2)
    (step-off (g.S.Source.left c.args.input.now) (g.S.Source.left c.loop-more.input) (g.S.Source.left c.obey_line.new.input)
    (g.K.Sink.taken c.args.output.now) (g.K.Sink.taken c.loop-more.output) (g.K.Sink.taken c.obey_line.new.output)
    c.args.session.now.program c.loop-more.session.program c.args.lines.now c.loop-more.lines
    c.args.session.now c.loop-more.session c.loop-more.more _ c.loop-more-test.true i.program i.goes c.in_err-more.ensures.refused)

pub returns-clause-done : goal.returns-clause-done
returns-clause-done g c =
    step-done (g.S.Source.left c.args.input.now) (g.S.Source.left c.loop-more.input) (g.K.Sink.taken c.args.output.now) (g.K.Sink.taken c.loop-more.output)
    c.args.session.now.program c.args.lines.now c.loop-more.lines c.args.session.now c.loop-more.session c.loop-more.more c.loop-more-test.false c.loop-more.invariant.goes
