-- The and-inverter graph as lists: node 0 is false, nodes 1 to `inputs` are the inputs, and the AND nodes follow.
use Rattle.std.specs.Prelude.{ℕ, ◌+◌, ◌*◌, ◌<◌, ◌≤◌, List, length, slice_index_or}
use Rattle.pim_aig.specs.declared.literal.Lit.{Lit}
use Rattle.pim_aig.specs.declared.graph.And.{And}
use Rattle.pim_aig.specs.declared.graph.TheConstants.{MAX_ANDS, MAX_INPUTS, MAX_OUTPUTS}

-- what contracts see of an `Aig`
pub record AigView : Type 0 where
  pub inputs : ℕ
  pub ands : List And
  pub outputs : List Lit

-- how many nodes a graph has, the constant and the inputs counted
abbrev pub nodes : AigView → ℕ
nodes g = 1 + g.inputs + length g.ands

-- the literal's node is one of the first n
abbrev pub IsOfFirst : ℕ → Lit → Type 0
IsOfFirst n l = l.0 < 2 * n

-- the operands of each AND node are of nodes before it, each output's node is there, and the limits are kept
pub record IsAig (g : AigView) : Type 0 where
  pub inputs_fit : g.inputs ≤ MAX_INPUTS
  pub ands_fit : length g.ands ≤ MAX_ANDS
  pub outputs_fit : length g.outputs ≤ MAX_OUTPUTS
  pub x_before : (k : ℕ) (d : And) → k < length g.ands → IsOfFirst (1 + g.inputs + k) (slice_index_or g.ands k d).x
  pub y_before : (k : ℕ) (d : And) → k < length g.ands → IsOfFirst (1 + g.inputs + k) (slice_index_or g.ands k d).y
  pub outputs_there : (k : ℕ) (d : Lit) → k < length g.outputs → IsOfFirst (nodes g) (slice_index_or g.outputs k d)
