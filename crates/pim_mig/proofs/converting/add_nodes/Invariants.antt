use Rattle.std.proofs.Common.{◌≡◌, ◌+◌, ◌≤◌, All, drop, length}
use Rattle.pim_aig.specs.Graph.{IsOfFirst}
use Rattle.pim_mig.specs.Graph.{size}
use Rattle.pim_mig.specs.Majs.{majs_from, making}
use Rattle.pim_mig.proofs.converting.add_nodes.Given as goal

-- the nodes and literals so far, with the ANDs that are left, come to the whole
abbrev pub invariant-loop-and : goal.invariant-loop-and
invariant-loop-and l = record {
  whole : majs_from l.mig.inputs (record { nodes = l.mig.nodes; lits = l.lits.items }) (drop l.and-index l.ands) ≡ making l.aig;
  there : All (IsOfFirst (size l.mig)) l.lits.items;
  count : length l.lits.items ≡ 1 + l.aig.inputs + l.and-index;
  few : length l.mig.nodes ≤ l.and-index;
  inputs : l.mig.inputs ≡ l.aig.inputs;
  others : l.mig ≡ record l.initial.mig { nodes = l.mig.nodes };
}
