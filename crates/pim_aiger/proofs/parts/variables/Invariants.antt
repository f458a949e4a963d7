use Rattle.std.proofs.Common.{◌≡◌, ◌<◌, length, All}
use Rattle.std.specs.List.{range_with_len}
use Rattle.pim_net.specs.declared.limits.TheConstants.{MAX_SIGNALS}
use Rattle.pim_aiger.proofs.parts.variables.Given as goal

abbrev pub invariant-loop-k : goal.invariant-loop-k
invariant-loop-k l = record {
  range : l.variables.items ≡ range_with_len 1 l.k;
  below : All (λ v. v < MAX_SIGNALS) l.variables.items;
  count : length l.variables.items ≡ l.k;
}
