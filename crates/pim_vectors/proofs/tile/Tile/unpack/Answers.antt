use Rattle.std.proofs.Common.{◌∙◌}
use Rattle.pim_vectors.proofs.TileLemmas.{unpacked}
use Rattle.pim_vectors.proofs.tile.Tile.unpack.Goals as goal

pub returns : goal.returns
returns c =
    c.unpack_lane.ensures
    ∙ unpacked _ c.args.self.now c.deref.result.now _ c.args.index c.self.view_is c.deref.ensures.value c.requires.long c.requires.lane
