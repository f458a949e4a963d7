use Rattle.std.proofs.Common.{◌≡◌, ◌+◌, ◌≤◌, length}
use Rattle.pim_io.specs.Lines.{lines_left}
use Rattle.pim_top.specs.commands.Share.{turns_in, turns_of}
use Rattle.pim_top.proofs.commands.share.Turns.{with_turns}
use Rattle.pim_top.proofs.commands.share.turns_of.Given as goal

-- the turns so far, and those of the lines that are left, are those of all lines; and no more turns were read than bytes
abbrev pub invariant-loop-line : goal.invariant-loop-line
invariant-loop-line l =
    (with_turns l.turns.items (turns_in (lines_left l.scan)) ≡ turns_of l.input)
    × (length l.turns.items + length l.scan.rest ≤ length l.input)

abbrev pub decreases-loop-line : goal.decreases-loop-line
decreases-loop-line l = length l.scan.rest
