use Rattle.std.proofs.Common.{◌≡◌, length}
use Rattle.pim_io.specs.Lines.{lines_left}
use Rattle.pim_text.specs.Reading.{read_from}
use Rattle.pim_text.specs.inner.Kept.{within_limit, reading}
use Rattle.pim_text.proofs.reading.kept.Given as goal

-- the lines that are left lead from here to what all lines lead to from the start
abbrev pub invariant-loop-line : goal.invariant-loop-line
invariant-loop-line g l =
    read_from g.D.Draft.kind within_limit (reading g.D.Draft.parts l.reader.section l.reader.draft) (lines_left l.scan)
    ≡ read_from g.D.Draft.kind within_limit (reading g.D.Draft.parts l.initial.reader.section l.initial.reader.draft) (lines_left l.initial.scan)

abbrev pub decreases-loop-line : goal.decreases-loop-line
decreases-loop-line g l = length l.scan.rest
