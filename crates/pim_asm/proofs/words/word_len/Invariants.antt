use Rattle.std.proofs.Common.{◌≡◌, take, drop}
use Rattle.pim_asm.specs.Words.{words_after, words}
use Rattle.pim_asm.proofs.words.word_len.Given as goal

-- what is passed is the run of the first word
abbrev pub invariant-loop-i : goal.invariant-loop-i
invariant-loop-i l = words l.text ≡ words_after l.quoted (take l.i l.text) (drop l.i l.text)
