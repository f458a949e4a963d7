use Rattle.std.proofs.Common.{◌≡◌, ◌+◌, ◌*◌, ◌^◌, ◌≤◌, []}
use Rattle.pim_blif.specs.Statements.{statements}
use Rattle.pim_blif.specs.inner.Reading.{room, statements_left}
use Rattle.pim_blif.specs.inner.Readers.{words_used}
use Rattle.pim_blif.specs.inner.Judging.{known_from, known_after}
use Rattle.pim_blif.proofs.file.read_statements.Given as goal

abbrev pub invariant-loop-walk : goal.invariant-loop-walk
invariant-loop-walk l = record {
  exact : known_after l.reader (statements_left l.walk) ≡ known_after (known_from []) (statements l.bytes);
  used : 2 * words_used l.reader + room l.walk.lines ≤ 2 ^ 29 + 1;
}

abbrev pub decreases-loop-walk : goal.decreases-loop-walk
decreases-loop-walk l = room l.walk.lines
