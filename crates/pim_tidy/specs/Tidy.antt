-- What a tidied graph has none of.
use Rattle.std.specs.Prelude.{◌≡◌, ◌≢◌, ℕ, ◌<◌, false, List, length, slice_index_or}
use Rattle.pim_aig.specs.Graph.{AigView}
use Rattle.pim_aig.specs.Literals.{node}
use Rattle.pim_aig.specs.declared.graph.And.{And}
use Rattle.pim_tidy.specs.Tidied.{same_operands}

-- the node reads two different nodes, neither of which is the constant
pub record IsPlainPair (a : And) : Type 0 where
  pub first : 0 < node a.x
  pub second : 0 < node a.y
  pub apart : node a.x ≢ node a.y

-- each node is so, and no two of them read the same literals
pub record AreTidy (ands : List And) : Type 0 where
  pub each : (k : ℕ) (d : And) → k < length ands → IsPlainPair (slice_index_or ands k d)
  pub once : (j k : ℕ) (d : And) → j < k → k < length ands → same_operands (slice_index_or ands j d) (slice_index_or ands k d) ≡ false

-- the same of a graph
abbrev pub IsTidy : AigView → Type 0
IsTidy g = AreTidy g.ands
