use Rattle.pim_top.proofs.commands.implyrun.Fine.{implyrun-complete}
use Rattle.pim_top.proofs.commands.implyrun.implyrun.Goals as goal

pub returns-clause-complete : goal.returns-clause-complete
returns-clause-complete g c = implyrun-complete c.args.fill _ c.execute_rows.result c.execute_rows.ensures
