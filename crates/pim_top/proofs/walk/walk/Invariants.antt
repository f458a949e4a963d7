use Rattle.std.proofs.Common.{◌≡◌, ◌+◌, ◌-◌, ◌<◌, length, cond}
use Rattle.pim_io.specs.Outside.{Told}
use Rattle.pim_vectors.specs.declared.limits.TheConstants.{MAX_LINES}
use Rattle.pim_top.specs.inner.Standing.{GoesOn}
use Rattle.pim_top.proofs.walk.walk.Given as goal

-- where the walk stands, and what the output took; and no count of faults rose
abbrev pub invariant-loop-more : goal.invariant-loop-more
invariant-loop-more g l = record {
  goes : Told (g.S.Source.left l.initial.input) (g.S.Source.left l.input) (λ bytes rest. GoesOn l.more (g.E.Executor.runner l.initial.executor) bytes rest (g.K.Sink.taken l.initial.output) (g.K.Sink.taken l.output) l.lines (g.E.Executor.rows l.executor));
  room : length (g.E.Executor.rows l.executor) < (g.E.Executor.runner l.initial.executor).tile;
  same : g.E.Executor.runner l.executor ≡ g.E.Executor.runner l.initial.executor;
  longest : l.lines.longest ≡ l.width;
  input_steady : g.S.Source.faults l.input ≡ g.S.Source.faults l.initial.input;
  output_steady : g.K.Sink.faults l.output ≡ g.K.Sink.faults l.initial.output;
}

abbrev pub decreases-loop-more : goal.decreases-loop-more
decreases-loop-more g l = cond l.more (1 + (MAX_LINES + 1 - l.lines.given)) 0
