use Rattle.std.proofs.Common.{◌≡◌, ◌≤◌, ◌+◌, ◌-◌, ◌*◌}
use Rattle.pim_bench.specs.Trials.{wrong_of}
use Rattle.pim_bench.specs.declared.trial.TheConstants.{LANES, ROWS}
use Rattle.pim_bench.proofs.Rows.{wrong_in}
use Rattle.pim_bench.proofs.trial.count_wrong.Given as goal

-- the wrong answers so far and those of the rows that are left are all
abbrev pub invariant-loop-tile : goal.invariant-loop-tile
invariant-loop-tile l = record {
  wrong : l.wrong + wrong_in l.program (ROWS - l._tile * LANES) l.trial.row ≡ wrong_of l.program l.bits;
  few : l.wrong ≤ l._tile * LANES;
  program : l.trial.program ≡ l.program;
}
