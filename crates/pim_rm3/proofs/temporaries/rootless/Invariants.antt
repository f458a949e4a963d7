use Rattle.std.proofs.Common.{◌≡◌, [], map}
use Rattle.std.specs.List.{range_with_len}
use Rattle.pim_rm3.specs.Temporaries.{all_reads}
use Rattle.pim_rm3.proofs.temporaries.rootless.Given as goal

abbrev pub invariant-loop-number : goal.invariant-loop-number
invariant-loop-number l = l.graph ≡ record { kids = map (all_reads l.mig) (range_with_len 0 l.number); roots = [] }
