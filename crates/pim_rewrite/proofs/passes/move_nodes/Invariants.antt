use Rattle.std.proofs.Common.{◌≡◌, ◌+◌, ◌-◌, ◌*◌, ◌≤◌, All, drop, length}
use Rattle.pim_aig.specs.Graph.{IsOfFirst}
use Rattle.pim_mig.specs.Graph.{size}
use Rattle.pim_mig.specs.Needs.{is_needed}
use Rattle.pim_rewrite.specs.Passes.{passed_from, passing}
use Rattle.pim_rewrite.specs.inner.Steps.{step_of}
use Rattle.pim_rewrite.proofs.Counting.{counted}
use Rattle.pim_rewrite.proofs.passes.move_nodes.Given as goal

-- what is made so far, with the nodes that are left, comes to the whole
abbrev pub invariant-loop-node : goal.invariant-loop-node
invariant-loop-node l = record {
  whole : passed_from (step_of l.pass l.reading) (is_needed l.reading) (record { nodes = l.made.nodes; lits = l.lits.items }) (1 + l.reading.inputs + l.node-index) (drop l.node-index l.nodes)
      ≡ passing (step_of l.pass l.reading) l.reading;
  there : All (IsOfFirst (size l.made)) l.lits.items;
  few : length l.made.nodes ≤ 2 * counted (is_needed l.reading) (1 + l.reading.inputs) l.node-index - 1;
  count : length l.lits.items ≡ 1 + l.reading.inputs + l.node-index;
  inputs : l.made.inputs ≡ l.reading.inputs;
  others : l.made ≡ record l.initial.made { nodes = l.made.nodes };
}
