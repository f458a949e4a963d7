use Rattle.std.proofs.Common.{◌≡◌, flat_map, take}
use Rattle.pim_rm3.specs.Temporaries.{with_temporary}
use Rattle.pim_rm3.proofs.temporaries.full_order.Given as goal

abbrev pub invariant-loop-literal : goal.invariant-loop-literal
invariant-loop-literal l = l.gates.items ≡ flat_map (with_temporary l.mig) (take l.literal-index l.order)
