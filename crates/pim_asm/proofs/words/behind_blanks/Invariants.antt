use Rattle.std.proofs.Common.{◌≡◌, drop}
use Rattle.pim_asm.specs.Words.{words}
use Rattle.pim_asm.proofs.words.behind_blanks.Given as goal

-- what is passed are blanks
abbrev pub invariant-loop-i : goal.invariant-loop-i
invariant-loop-i l = words (drop l.i l.text) ≡ words l.text
