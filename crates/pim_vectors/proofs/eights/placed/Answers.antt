use Rattle.pim_vectors.proofs.StageLemmas.{placed_bit}
use Rattle.pim_vectors.proofs.eights.placed.Goals as goal

pub returns : goal.returns
returns c = λ r small. placed_bit c.args.byte c.args.eight r c.ranges.byte.fits c.requires small
