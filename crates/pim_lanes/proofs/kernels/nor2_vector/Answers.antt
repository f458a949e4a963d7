use Rattle.pim_lanes.proofs.RuleLemmas.{nor2_chunk}
use Rattle.pim_lanes.proofs.kernels.nor2_vector.Goals as goal

pub returns : goal.returns
returns c = nor2_chunk c.args.at c.args.t.now c.args.a.now c.args.b.now c.requires.within c.requires.same_a c.requires.same_b
