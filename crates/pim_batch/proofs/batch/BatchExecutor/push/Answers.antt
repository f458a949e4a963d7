use Rattle.std.proofs.Common.{◌++◌, ◌∷◌, [], ap, ◌∙◌}
use Rattle.pim_io.specs.Bits.{bits_of}
use Rattle.pim_batch.specs.Batches.{BatchView}
use Rattle.pim_batch.proofs.BatchLemmas.{row_free}
use Rattle.pim_batch.proofs.batch.BatchExecutor.push.Goals as goal

pub push-requires-clause-room : goal.push-requires-clause-room
push-requires-clause-room c = row_free _ c.args.self.now c.self.inside.vectors.tile.words c.self.view_is c.self.invariant.vector_words c.requires.room

pub returns-clause-pushed : goal.returns-clause-pushed
returns-clause-pushed c = c.push.ensures.pushed ∙ ap (λ (b : BatchView). b.vectors ++ bits_of c.args.line.now ∷ []) c.self.view_is
