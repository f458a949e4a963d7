use Rattle.pim_batch.proofs.LineCounts.{never_full}
use Rattle.pim_batch.proofs.imply.rows_of.Goals as goal

pub returns-clause-never_full : goal.returns-clause-never_full
returns-clause-never_full c = never_full c.args.inputs c.min.result c.min.ensures
