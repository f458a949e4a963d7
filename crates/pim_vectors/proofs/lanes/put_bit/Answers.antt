use Rattle.pim_vectors.proofs.TileLemmas.{lane_at-set}
use Rattle.pim_vectors.proofs.lanes.put_bit.Goals as goal

pub returns : goal.returns
returns c =
    lane_at-set c.args.words c.args.buffer.now c.args.column c.args.index c.with_bit.result c.args.bit c.requires.lane c.requires.column c.with_bit.ensures
