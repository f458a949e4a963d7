use Rattle.pim_vectors.proofs.BitLemmas.{is_set-shifted}
use Rattle.pim_vectors.proofs.bits.bit.Goals as goal

pub returns : goal.returns
returns c = is_set-shifted c.args.word c.args.place
