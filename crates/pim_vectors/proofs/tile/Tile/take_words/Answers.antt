use Rattle.pim_vectors.proofs.TileLemmas.{taken_lanes}
use Rattle.pim_vectors.proofs.tile.Tile.take_words.Goals as goal

pub returns : goal.returns
returns c =
    taken_lanes _ c.args.self.now c.deref.result.now c.take_words.new.bytes c.args.columns c.args.at c.self.view_is c.deref.ensures.value
    c.requires.columns c.requires.within c.take_words.ensures
