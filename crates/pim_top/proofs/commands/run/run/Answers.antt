use Rattle.pim_top.proofs.commands.run.Fine.{run-complete}
use Rattle.pim_top.proofs.commands.run.run.Goals as goal

pub returns-clause-complete : goal.returns-clause-complete
returns-clause-complete g c = run-complete c.args.fill _ c.execute_rows.result c.execute_rows.ensures
