use Rattle.std.proofs.Common.{◌≡◌, ◌+◌, ◌*◌, ◌<◌, ◌≤◌, [], length}
use Rattle.pim_io.specs.Lines.{lines_left}
use Rattle.pim_share.specs.Pieces.{parts_after, pieces, pieces_from, ports_in_all}
use Rattle.pim_share.proofs.pieces.parse_many.Given as goal

-- the pieces that are left lead from here to what all pieces lead to; what was cut off is as long as its programs
abbrev pub invariant-loop-line : goal.invariant-loop-line
invariant-loop-line l =
    (parts_after l.parts.items (pieces_from l.from (lines_left l.scan) l.bytes) ≡ parts_after [] (pieces l.bytes))
    × (l.scan.start + length l.scan.rest ≤ length l.bytes)
    × (l.from ≤ l.scan.start)
    × (37 * length l.parts.items + 8 * ports_in_all l.parts.items ≤ l.from)
    × (0 < l.from → 0 < length l.parts.items)

abbrev pub decreases-loop-line : goal.decreases-loop-line
decreases-loop-line l = length l.scan.rest
