use Rattle.std.proofs.Common.{◌*◌}
use Rattle.pim_lanes.specs.inner.Rules.{Ruled, rm3_word}
use Rattle.pim_lanes.proofs.kernels.rm3_vectors.Given as goal

-- the words of the vectors so far are done
abbrev pub invariant-loop-i : goal.invariant-loop-i
invariant-loop-i l = Ruled rm3_word 0 (4 * l.i) l.initial.z l.p l.q l.z
