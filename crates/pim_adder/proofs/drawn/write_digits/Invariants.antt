use Rattle.std.proofs.Common.{◌≡◌, ◌++◌, ◌-◌, take, length}
use Rattle.pim_adder.specs.Drawn.{digits}
use Rattle.pim_adder.proofs.drawn.write_digits.Given as goal

abbrev pub invariant-loop-character : goal.invariant-loop-character
invariant-loop-character l = take l.character-index l.out ++ digits (length l.out - l.character-index) l.rest ≡ digits (length l.initial.out) l.value
