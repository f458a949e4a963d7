use Rattle.std.proofs.Common.{◌*◌}
use Rattle.pim_lanes.specs.inner.Rules.{Ruled, nor1_word}
use Rattle.pim_lanes.proofs.kernels.nor1_vectors.Given as goal

-- the words of the vectors so far are done
abbrev pub invariant-loop-i : goal.invariant-loop-i
invariant-loop-i l = Ruled nor1_word 0 (4 * l.i) l.initial.t l.a l.a l.t
