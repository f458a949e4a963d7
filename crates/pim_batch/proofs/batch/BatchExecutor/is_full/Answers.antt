use Rattle.pim_batch.proofs.BatchLemmas.{is_full, rows_within}
use Rattle.pim_batch.proofs.batch.BatchExecutor.is_full.Goals as goal

pub returns-clause-full : goal.returns-clause-full
returns-clause-full c = is_full _ c.args.self.now c.count.result c.self.inside.most c.self.view_is c.count.ensures.value c.self.invariant.most

pub returns-clause-within : goal.returns-clause-within
returns-clause-within c =
    rows_within _ c.args.self.now c.count.result c.self.inside.vectors.tile.words c.self.view_is c.count.ensures.value c.self.invariant.vector_words c.count.ensures.within
