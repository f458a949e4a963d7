use Rattle.std.proofs.Common.{subst}
use Rattle.pim_mig.specs.Graph.{IsMig}
use Rattle.pim_mig.proofs.Values.{majority_laws}
use Rattle.pim_mig.proofs.graph.Mig.has_values.Goals as goal

pub returns : goal.returns
returns c = majority_laws c.args.self.now (subst IsMig c.self.view_is c.self.invariant.0)
