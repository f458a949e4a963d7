use Rattle.std.proofs.Common.{subst}
use Rattle.pim_nor.specs.Network.{IsNetwork}
use Rattle.pim_nor.proofs.GateValues.{has_gate_values}
use Rattle.pim_nor.proofs.network.NorNet.has_values.Goals as goal

pub returns : goal.returns
returns c = has_gate_values c.args.self.now (subst IsNetwork c.self.view_is c.self.invariant.0)
