use Rattle.pim_top.proofs.commands.debug.Fine.{debug-complete}
use Rattle.pim_top.proofs.commands.debug.debug.Goals as goal

pub returns-clause-complete : goal.returns-clause-complete
returns-clause-complete g c = debug-complete c.args.fill _ c.obey.result c.obey.ensures
