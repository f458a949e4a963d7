use Rattle.std.proofs.Common.{◌≡◌, ◌+◌, ◌-◌, ◌*◌, length, take}
use Rattle.pim_batch.specs.inner.TileLines.{IsStage, row_lines_from}
use Rattle.pim_batch.proofs.lines.put_lines.Given as goal

-- the front of the list is the lines of the rows so far, and there is room for those that are left; the stage is that of the next one
abbrev pub invariant-loop-k : goal.invariant-loop-k
invariant-loop-k l = record {
  done : take l.at l.lines ≡ row_lines_from l.results l.from l.k;
  left : length l.lines ≡ l.at + (l.count - l.k) * l.width;
  long : length l.lines ≡ length l.initial.lines;
  stage : IsStage l.results l.stage (l.from + l.k);
  columns : l.stage.columns ≡ l.initial.stage.columns;
}
