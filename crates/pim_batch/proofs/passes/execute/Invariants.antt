use Rattle.std.proofs.Common.{◌≡◌, ◌-◌, ◌+◌, ◌*◌, ℕ, List, Option}
use Rattle.pim_io.specs.Outside.{Wrote}
use Rattle.pim_io.specs.Writes.{Written}
use Rattle.pim_batch.specs.inner.Kept.{IsRoom}
use Rattle.pim_batch.specs.inner.ImplyLines.{imply_lines}
use Rattle.pim_batch.proofs.passes.execute.Given as goal

-- what writes the lines of the rows that are left writes, with what was written, the lines of all; whole passes are left
abbrev pub invariant-loop-first : goal.invariant-loop-first
invariant-loop-first g l = record {
  same : g.K.Sink.faults l.output ≡ g.K.Sink.faults l.initial.output;
  rest : (result : Written) (taken : Option (List ℕ)) (faults : ℕ) →
      Wrote result (g.K.Sink.taken l.output) taken (g.K.Sink.faults l.output) faults (imply_lines l.program l.fill l.vectors (64 * l.first) (l.rows - 64 * l.first)) →
      Wrote result (g.K.Sink.taken l.initial.output) taken (g.K.Sink.faults l.initial.output) faults (imply_lines l.program l.fill l.vectors 0 l.rows);
  left : (passes : ℕ) × (l.vectors.words ≡ l.first + passes * l.words);
  room : IsRoom l.program l.room;
  words : l.room.words ≡ l.words;
}

abbrev pub decreases-loop-first : goal.decreases-loop-first
decreases-loop-first g l = l.rows - 64 * l.first
