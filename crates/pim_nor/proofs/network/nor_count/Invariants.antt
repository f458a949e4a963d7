use Rattle.std.proofs.Common.{◌≡◌, take}
use Rattle.pim_nor.specs.Network.{nor_count}
use Rattle.pim_nor.proofs.network.nor_count.Given as goal

abbrev pub invariant-loop-gate : goal.invariant-loop-gate
invariant-loop-gate l = l.count ≡ nor_count (take l.gate-index l.gates)
