use Rattle.std.proofs.Common.{◌≡◌, ◌≤◌, None, length}
use Rattle.pim_io.specs.Lines.{lines_left}
use Rattle.pim_blif.specs.Statements.{statements_after}
use Rattle.pim_blif.specs.inner.Reading.{room}
use Rattle.pim_blif.proofs.statements.Statements.advance.Given as goal

abbrev pub invariant-loop-line : goal.invariant-loop-line
invariant-loop-line l = record {
  same : statements_after None (lines_left l.self-inside.scan) ≡ statements_after None (lines_left l.initial.self-inside.scan);
  few : room (lines_left l.self-inside.scan) ≤ room (lines_left l.initial.self-inside.scan);
}

abbrev pub decreases-loop-line : goal.decreases-loop-line
decreases-loop-line l = length l.self-inside.scan.rest
