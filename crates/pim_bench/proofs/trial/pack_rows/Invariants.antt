use Rattle.std.proofs.Common.{◌≡◌, length}
use Rattle.pim_vectors.specs.Tiles.{SameSizes}
use Rattle.pim_bench.specs.inner.Executed.{Holds, later}
use Rattle.pim_bench.proofs.trial.pack_rows.Given as goal

-- the rows so far stand in the first lanes
abbrev pub invariant-loop-lane : goal.invariant-loop-lane
invariant-loop-lane l = record {
  packed : Holds l.initial.rows l.tile l.lane;
  row : l.rows ≡ later l.lane l.initial.rows;
  sizes : SameSizes l.initial.tile l.tile;
  line : length l.line ≡ length l.initial.line;
  sum : length l.sum ≡ length l.initial.sum;
}
