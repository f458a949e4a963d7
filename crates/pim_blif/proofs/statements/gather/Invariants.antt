use Rattle.std.proofs.Common.{◌≡◌, ◌+◌, ◌*◌, ◌≤◌, ◌<◌, [], None, length}
use Rattle.std.specs.Option.{MatchOption}
use Rattle.pim_io.specs.Lines.{lines_left}
use Rattle.pim_blif.specs.Statements.{statements_after}
use Rattle.pim_blif.specs.inner.Reading.{room}
use Rattle.pim_blif.proofs.Joins.{begun_in}
use Rattle.pim_blif.proofs.statements.gather.Given as goal

abbrev pub invariant-loop-line : goal.invariant-loop-line
invariant-loop-line l = record {
  same : statements_after (begun_in l.begun l.words.items) (lines_left l.scan) ≡ statements_after None (lines_left l.initial.scan);
  fresh : MatchOption l.begun (l.words.items ≡ []) (λ _. Unit {0});
  few : 2 * length l.words.items + room (lines_left l.scan) ≤ room (lines_left l.initial.scan);
  shorter : MatchOption l.begun (l.scan ≡ l.initial.scan) (λ _. length l.scan.rest < length l.initial.scan.rest);
}

abbrev pub decreases-loop-line : goal.decreases-loop-line
decreases-loop-line l = length l.scan.rest
