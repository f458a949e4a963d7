use Rattle.pim_lanes.specs.inner.Rules.{nor1_word}
use Rattle.pim_lanes.proofs.RuleLemmas.{ruled_none, vector_next}
use Rattle.pim_lanes.proofs.kernels.nor1_vectors.Goals as goal

pub loop-i-init : goal.loop-i-init
loop-i-init c = ruled_none nor1_word 0 _ _ _

pub loop-i-preserved : goal.loop-i-preserved
loop-i-preserved c = vector_next nor1_word c.loop-i.i _ _ _ _ _ c.loop-i.invariant c.nor1_vector.ensures
