use Rattle.std.proofs.Common.{◌≡◌, ◌++◌, length}
use Rattle.pim_io.specs.Words.{words}
use Rattle.pim_blif.proofs.line.add_words.Given as goal

abbrev pub invariant-loop-word : goal.invariant-loop-word
invariant-loop-word l = l.list.items ++ words l.walk ≡ l.initial.list.items ++ words l.initial.walk

abbrev pub decreases-loop-word : goal.decreases-loop-word
decreases-loop-word l = length l.walk
