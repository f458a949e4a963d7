use Rattle.std.proofs.Common.{◌∙◌}
use Rattle.std.proofs.lemmas.List.{with_items_is}
use Rattle.pim_vectors.proofs.TileLemmas.{put_rows}
use Rattle.pim_vectors.proofs.tile.Tile.put_column.Goals as goal

pub returns-clause-vectors : goal.returns-clause-vectors
returns-clause-vectors c =
    put_rows _ c.args.self.now c.deref_mut.result.now c.put_column.new.buffer _ c.args.k c.args.words.now c.self.view_is
    (with_items_is c.self.inside.buffer c.put_column.new.buffer (c.put_column.auto.buffer ∙ c.deref_mut.ensures.len)) c.deref_mut.ensures.value
    c.requires.column c.put_column.ensures
