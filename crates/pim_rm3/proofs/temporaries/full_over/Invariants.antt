use Rattle.std.proofs.Common.{◌≡◌, flat_map, take}
use Rattle.pim_rm3.specs.Temporaries.{takes_of}
use Rattle.pim_rm3.proofs.temporaries.full_over.Given as goal

abbrev pub invariant-loop-literal : goal.invariant-loop-literal
invariant-loop-literal l = l.over.items ≡ flat_map (takes_of l.mig) (take l.literal-index l.order)
