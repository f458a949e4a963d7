use Rattle.std.proofs.Common.{◌+◌, ◌*◌, ◌∙◌}
use Rattle.std.proofs.lemmas.List.{with_items_is}
use Rattle.pim_vectors.specs.Tiles.{vector_of}
use Rattle.pim_vectors.proofs.TileLemmas.{length-vector_of}
use Rattle.pim_vectors.proofs.StageLemmas.{taken_row}
use Rattle.pim_vectors.proofs.stage.Stage.take_block.Goals as goal

pub returns-clause-vectors : goal.returns-clause-vectors
returns-clause-vectors c = λ r small.
    taken_row _ c.args.self.now c.take_words.new.bytes _ r (vector_of c.args.from.now (64 * c.args.at + r)) c.self.view_is
    (with_items_is c.self.inside.bytes c.take_words.new.bytes (c.take_words.auto.bytes ∙ c.deref_mut.ensures.len))
    (length-vector_of c.args.from.now (64 * c.args.at + r) ∙ c.requires.columns)
    (λ k k_small. c.take_words.ensures k r k_small small)
