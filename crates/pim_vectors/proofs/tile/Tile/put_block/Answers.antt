use Rattle.std.proofs.Common.{refl, ◌∙◌}
use Rattle.std.proofs.lemmas.List.{with_items_is}
use Rattle.pim_vectors.proofs.TileLemmas.{put_block_rows}
use Rattle.pim_vectors.proofs.tile.Tile.put_block.Goals as goal

pub returns-clause-vectors : goal.returns-clause-vectors
returns-clause-vectors c =
    put_block_rows _ c.args.self.now c.args.stage.now c.deref_mut.result.now c.put_words.new.buffer _ c.bytes.result.now _ c.args.at c.self.view_is
    (with_items_is c.self.inside.buffer c.put_words.new.buffer (c.put_words.auto.buffer ∙ c.deref_mut.ensures.len)) c.deref_mut.ensures.value
    c.bytes.ensures.value refl c.requires.columns c.put_words.ensures.block c.put_words.ensures.others
