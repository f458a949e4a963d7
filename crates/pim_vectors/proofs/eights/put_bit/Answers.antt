use Rattle.std.proofs.Common.{◌/◌, arith}
use Rattle.pim_vectors.proofs.StageLemmas.{byte_within, staged_at-set}
use Rattle.pim_vectors.proofs.eights.put_bit.Goals as goal

pub returns : goal.returns
returns c = λ k r small row.
    staged_at-set c.args.columns c.args.bytes.now c.args.column c.args.index c.with_bit.result c.args.bit c.requires.column
    (byte_within c.args.columns c.args.column (c.args.index / 8) _ c.requires.column (omega arith) c.requires.whole) c.with_bit.ensures k r small
