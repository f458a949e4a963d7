-- The majority-inverter graph as lists: node 0 is false, nodes 1 to `inputs` are the inputs, and the majority nodes follow.
use Rattle.std.specs.Prelude.{◌≡◌, ◌≢◌, ℕ, ◌+◌, ◌<◌, ◌≤◌, false, List, length, slice_index_or}
use Rattle.pim_aig.specs.Graph.{IsOfFirst}
use Rattle.pim_aig.specs.Literals.{node}
use Rattle.pim_aig.specs.declared.literal.Lit.{Lit}
use Rattle.pim_aig.specs.declared.graph.TheConstants.{MAX_INPUTS, MAX_OUTPUTS}
use Rattle.pim_mig.specs.Nodes.{same_operands}
use Rattle.pim_mig.specs.declared.node.Maj.{Maj}
use Rattle.pim_mig.specs.declared.node.TheConstants.{MAX_NODES}

-- what contracts see of a `Mig`
pub record MigView : Type 0 where
  pub inputs : ℕ
  pub nodes : List Maj
  pub outputs : List Lit

-- how many nodes a graph has, the constant and the inputs counted
abbrev pub size : MigView → ℕ
size g = 1 + g.inputs + length g.nodes

-- the three operands are of three different nodes
pub record IsApart (m : Maj) : Type 0 where
  pub first : node m.x ≢ node m.y
  pub second : node m.x ≢ node m.z
  pub third : node m.y ≢ node m.z

-- the operands of each node are of nodes before it and of three different ones, no two nodes have the same three literals, each
-- output's node is there, and the limits are kept
pub record IsMig (g : MigView) : Type 0 where
  pub inputs_fit : g.inputs ≤ MAX_INPUTS
  pub nodes_fit : length g.nodes ≤ MAX_NODES
  pub outputs_fit : length g.outputs ≤ MAX_OUTPUTS
  pub x_before : (k : ℕ) (d : Maj) → k < length g.nodes → IsOfFirst (1 + g.inputs + k) (slice_index_or g.nodes k d).x
  pub y_before : (k : ℕ) (d : Maj) → k < length g.nodes → IsOfFirst (1 + g.inputs + k) (slice_index_or g.nodes k d).y
  pub z_before : (k : ℕ) (d : Maj) → k < length g.nodes → IsOfFirst (1 + g.inputs + k) (slice_index_or g.nodes k d).z
  pub apart : (k : ℕ) (d : Maj) → k < length g.nodes → IsApart (slice_index_or g.nodes k d)
  pub once : (j k : ℕ) (d : Maj) → j < k → k < length g.nodes → same_operands (slice_index_or g.nodes j d) (slice_index_or g.nodes k d) ≡ false
  pub outputs_there : (k : ℕ) (d : Lit) → k < length g.outputs → IsOfFirst (size g) (slice_index_or g.outputs k d)
