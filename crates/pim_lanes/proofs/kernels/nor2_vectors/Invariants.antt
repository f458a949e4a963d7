use Rattle.std.proofs.Common.{◌*◌}
use Rattle.pim_lanes.specs.inner.Rules.{Ruled, nor2_word}
use Rattle.pim_lanes.proofs.kernels.nor2_vectors.Given as goal

-- the words of the vectors so far are done
abbrev pub invariant-loop-i : goal.invariant-loop-i
invariant-loop-i l = Ruled nor2_word 0 (4 * l.i) l.initial.t l.a l.b l.t
