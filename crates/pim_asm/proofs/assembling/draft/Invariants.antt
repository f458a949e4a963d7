use Rattle.std.proofs.Common.{◌≡◌, ◌+◌, ◌≤◌, length}
use Rattle.pim_io.specs.Lines.{lines_left}
use Rattle.pim_asm.specs.Assembly.{read_from}
use Rattle.pim_asm.proofs.assembling.draft.Given as goal

-- the lines that are left lead from here to what all lines lead to from the start, and no more lines were read than bytes
abbrev pub invariant-loop-line : goal.invariant-loop-line
invariant-loop-line l = record {
  told : read_from l.next l.assembler (lines_left l.scan) ≡ read_from l.initial.next l.initial.assembler (lines_left l.initial.scan);
  count : l.next + length l.scan.rest ≤ l.initial.next + length l.initial.scan.rest;
}

abbrev pub decreases-loop-line : goal.decreases-loop-line
decreases-loop-line l = length l.scan.rest
