use Rattle.std.proofs.Common.{subst}
use Rattle.pim_net.specs.WellFormed.{IsNet}
use Rattle.pim_net.proofs.ValueLaws.{has_values, has_input_values, has_cover_values}
use Rattle.pim_net.proofs.net.Net.has_values.Goals as goal

pub returns-clause-driven : goal.returns-clause-driven
returns-clause-driven c = has_values c.args.self.now (subst IsNet c.self.view_is c.self.invariant)

pub returns-clause-covers : goal.returns-clause-covers
returns-clause-covers c = has_cover_values c.args.self.now (subst IsNet c.self.view_is c.self.invariant)

pub returns-clause-inputs : goal.returns-clause-inputs
returns-clause-inputs c = has_input_values c.args.self.now (subst IsNet c.self.view_is c.self.invariant)
