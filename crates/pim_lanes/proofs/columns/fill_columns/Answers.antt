use Rattle.pim_lanes.proofs.ColumnLemmas.{low_within, column_before}
use Rattle.pim_lanes.proofs.columns.fill_columns.Goals as goal

pub returns-clause-others : goal.returns-clause-others
returns-clause-others c = λ k small.
    column_before c.args.words k _ c.args.buffer.now _ (low_within c.args.words k c.args.first small) c.requires
