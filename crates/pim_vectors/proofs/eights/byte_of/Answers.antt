use Rattle.std.proofs.Common.{◌*◌}
use Rattle.pim_vectors.proofs.StageLemmas.{is_set-part}
use Rattle.pim_vectors.proofs.eights.byte_of.Goals as goal

pub returns : goal.returns
returns c = λ i small. is_set-part c.args.word (8 * c.args.eight) i small
