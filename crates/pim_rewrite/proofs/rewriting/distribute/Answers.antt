use Rattle.pim_rewrite.proofs.Gone.{spread_fewer}
use Rattle.pim_rewrite.proofs.rewriting.distribute.Goals as goal

pub returns-clause-fewer : goal.returns-clause-fewer
returns-clause-fewer c = spread_fewer c.nodes_have_laws.ensures c.args.reading.now c.in_ok-new.new c.nodes.ensures.sound c.requires.case c.in_ok-new.ensures.made
