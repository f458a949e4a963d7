use Rattle.std.proofs.Common.{◌≡◌, ◌≤◌, ◌+◌, ◌-◌, length}
use Rattle.pim_isa.specs.Programs.{ProgramView}
use Rattle.pim_bench.specs.inner.Executed.{Answers, later}
use Rattle.pim_bench.specs.declared.trial.TheConstants.{LANES}
use Rattle.pim_bench.proofs.Rows.{wrong_in}
use Rattle.pim_bench.proofs.trial.compare_rows.Given as goal

-- the wrong answers so far and those of the rows that are left are all
abbrev pub invariant-loop-lane : goal.invariant-loop-lane
invariant-loop-lane l = record {
  wrong : (p : ProgramView) → Answers p l.initial.rows l.results LANES → l.wrong + wrong_in p (LANES - l.lane) l.rows ≡ wrong_in p LANES l.initial.rows;
  few : l.wrong ≤ l.lane;
  row : l.rows ≡ later l.lane l.initial.rows;
  line : length l.line ≡ length l.initial.line;
  sum : length l.sum ≡ length l.initial.sum;
  answer : length l.answer ≡ length l.initial.answer;
}
