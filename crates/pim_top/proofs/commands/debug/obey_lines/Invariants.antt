use Rattle.std.proofs.Common.{◌≡◌, ◌+◌, ◌-◌, cond, Some}
use Rattle.pim_io.specs.Outside.{Told}
use Rattle.pim_vectors.specs.declared.limits.TheConstants.{MAX_LINES}
use Rattle.pim_top.specs.inner.Sessions.{DebugsOn}
use Rattle.pim_top.proofs.commands.debug.Told.{From}
use Rattle.pim_top.proofs.commands.debug.obey_lines.Given as goal

-- where the lines stand, and what the output took; and no count of faults rose
abbrev pub invariant-loop-more : goal.invariant-loop-more
invariant-loop-more g l = record {
  goes : Told (g.S.Source.left l.initial.input) (g.S.Source.left l.input)
      (From l.initial.session.program (g.K.Sink.taken l.initial.output) l.initial.lines l.initial.session
      (λ fill bytes before rest. DebugsOn l.more l.initial.session.program fill bytes rest before (g.K.Sink.taken l.output) l.lines (Some l.session)));
  program : l.session.program ≡ l.initial.session.program;
  longest : l.lines.longest ≡ l.initial.lines.longest;
  input_steady : g.S.Source.faults l.input ≡ g.S.Source.faults l.initial.input;
  output_steady : g.K.Sink.faults l.output ≡ g.K.Sink.faults l.initial.output;
}

abbrev pub decreases-loop-more : goal.decreases-loop-more
decreases-loop-more g l = cond l.more (1 + (MAX_LINES + 1 - l.lines.given)) 0
