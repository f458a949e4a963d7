use Rattle.pim_lanes.specs.inner.Rules.{Ruled, nor1_word}
use Rattle.pim_lanes.proofs.kernels.nor1_words.Given as goal

-- the words from the place on so far are done
abbrev pub invariant-loop-k : goal.invariant-loop-k
invariant-loop-k l = Ruled nor1_word l.from l.k l.initial.t l.a l.a l.t
