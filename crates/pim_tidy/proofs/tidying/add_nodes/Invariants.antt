use Rattle.std.proofs.Common.{◌≡◌, ◌+◌, ◌≤◌, All, drop, length, map}
use Rattle.pim_aig.specs.Graph.{IsOfFirst, nodes}
use Rattle.pim_tidy.specs.Tidied.{tidied_from, tidying}
use Rattle.pim_tidy.specs.inner.Pairs.{pair_of}
use Rattle.pim_tidy.proofs.tidying.add_nodes.Given as goal

-- the nodes and literals so far, with the nodes that are left, come to the whole
abbrev pub invariant-loop-and : goal.invariant-loop-and
invariant-loop-and l = record {
  whole : tidied_from l.tidy.inputs (record { ands = l.tidy.ands; lits = l.lits.items }) (drop l.and-index l.ands) ≡ tidying l.aig;
  keys : l.pairs.keys ≡ map pair_of l.tidy.ands;
  there : All (IsOfFirst (nodes l.tidy)) l.lits.items;
  count : length l.lits.items ≡ 1 + l.aig.inputs + l.and-index;
  few : length l.tidy.ands ≤ l.and-index;
  inputs : l.tidy.inputs ≡ l.aig.inputs;
  others : l.tidy ≡ record l.initial.tidy { ands = l.tidy.ands };
}
