use Rattle.pim_lanes.specs.inner.Rules.{Ruled, rm3_word}
use Rattle.pim_lanes.proofs.kernels.rm3_words.Given as goal

-- the words from the place on so far are done
abbrev pub invariant-loop-k : goal.invariant-loop-k
invariant-loop-k l = Ruled rm3_word l.from l.k l.initial.z l.p l.q l.z
