use Rattle.pim_lanes.proofs.RuleLemmas.{nor1_chunk}
use Rattle.pim_lanes.proofs.kernels.nor1_vector.Goals as goal

pub returns : goal.returns
returns c = nor1_chunk c.args.at c.args.t.now c.args.a.now c.requires.within c.requires.same
