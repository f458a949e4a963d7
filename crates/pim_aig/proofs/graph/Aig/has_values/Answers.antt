use Rattle.std.proofs.Common.{subst}
use Rattle.pim_aig.specs.Graph.{IsAig}
use Rattle.pim_aig.proofs.NodeValues.{value_laws}
use Rattle.pim_aig.proofs.graph.Aig.has_values.Goals as goal

pub returns : goal.returns
returns c = value_laws c.args.self.now (subst IsAig c.self.view_is c.self.invariant)
