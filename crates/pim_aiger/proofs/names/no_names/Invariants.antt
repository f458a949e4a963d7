use Rattle.std.proofs.Common.{◌≡◌, replicate, None}
use Rattle.pim_aiger.proofs.names.no_names.Given as goal

abbrev pub invariant-loop : goal.invariant-loop
invariant-loop l = l.names.items ≡ replicate l.counter None
