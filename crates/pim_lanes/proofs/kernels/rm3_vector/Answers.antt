use Rattle.pim_lanes.proofs.RuleLemmas.{rm3_chunk}
use Rattle.pim_lanes.proofs.kernels.rm3_vector.Goals as goal

pub returns : goal.returns
returns c = rm3_chunk c.args.at c.args.z.now c.args.p.now c.args.q.now c.requires.within c.requires.same_p c.requires.same_q
