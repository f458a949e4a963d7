use Rattle.std.proofs.Common.{◌≡◌, ◌+◌, All, length, map}
use Rattle.std.specs.List.{range_with_len}
use Rattle.pim_aig.specs.Graph.{IsOfFirst}
use Rattle.pim_aig.specs.Literals.{plain}
use Rattle.pim_aig.proofs.moving.plain_literals.Given as goal

-- the literals so far are those of the first nodes
abbrev pub invariant-loop-node : goal.invariant-loop-node
invariant-loop-node l = record {
  same : l.lits.items ≡ map plain (range_with_len 0 l.node);
  there : All (IsOfFirst (1 + l.inputs)) l.lits.items;
  count : length l.lits.items ≡ l.node;
}
