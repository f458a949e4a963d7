use Rattle.std.proofs.Common.{◌≡◌, ◌≤◌, ◌-◌, ℕ, List, Option, length}
use Rattle.pim_io.specs.Outside.{Wrote}
use Rattle.pim_io.specs.Writes.{Written}
use Rattle.pim_batch.specs.inner.TileLines.{IsStage, row_lines, row_lines_from}
use Rattle.pim_batch.proofs.lines.write_results.Given as goal

-- what writes the lines that are left writes, with what was written, all lines; the stage is that of the next one
abbrev pub invariant-loop-from : goal.invariant-loop-from
invariant-loop-from g l = record {
  same : g.K.Sink.faults l.output ≡ g.K.Sink.faults l.initial.output;
  rest : (result : Written) (taken : Option (List ℕ)) (faults : ℕ) →
      Wrote result (g.K.Sink.taken l.output) taken (g.K.Sink.faults l.output) faults (row_lines_from l.results l.from (l.lanes - l.from)) →
      Wrote result (g.K.Sink.taken l.initial.output) taken (g.K.Sink.faults l.initial.output) faults (row_lines l.results l.lanes);
  within : l.from ≤ l.lanes;
  room : length l.chunk ≡ length l.initial.chunk;
  stage : IsStage l.results l.stage l.from;
  columns : l.stage.columns ≡ l.initial.stage.columns;
}

abbrev pub decreases-loop-from : goal.decreases-loop-from
decreases-loop-from g l = l.lanes - l.from
