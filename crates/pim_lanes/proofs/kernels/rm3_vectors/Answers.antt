use Rattle.pim_lanes.specs.inner.Rules.{rm3_word}
use Rattle.pim_lanes.proofs.RuleLemmas.{ruled_none, vector_next}
use Rattle.pim_lanes.proofs.kernels.rm3_vectors.Goals as goal

pub loop-i-init : goal.loop-i-init
loop-i-init c = ruled_none rm3_word 0 _ _ _

pub loop-i-preserved : goal.loop-i-preserved
loop-i-preserved c = vector_next rm3_word c.loop-i.i _ _ _ _ _ c.loop-i.invariant c.rm3_vector.ensures
