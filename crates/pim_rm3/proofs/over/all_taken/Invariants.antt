use Rattle.std.proofs.Common.{◌≡◌, map, take}
use Rattle.pim_rm3.specs.Gates.{taken}
use Rattle.pim_rm3.proofs.over.all_taken.Given as goal

abbrev pub invariant-loop-gate : goal.invariant-loop-gate
invariant-loop-gate l = l.over.items ≡ map (taken l.aig) (take l.gate-index l.order)
