-- The normal form of a majority graph.
use Rattle.std.specs.Prelude.{◌≡◌, ℕ, ◌+◌, ◌<◌, ◌≤◌, Bool, true, false, List, length, map, None, slice_index_or}
use Rattle.pim_mig.specs.Graph.{IsApart, MigView}
use Rattle.pim_mig.specs.Needs.{is_needed}
use Rattle.pim_mig.specs.Nodes.{same_operands}
use Rattle.pim_mig.specs.Values.{mval}
use Rattle.pim_mig.specs.declared.node.Maj.{Maj}
use Rattle.pim_rewrite.specs.Cases.{case_of}
use Rattle.pim_rewrite.specs.Passes.{inversions}

-- at each assignment of the inputs the outputs of the new graph have the values of the old one's
abbrev pub HasValues : MigView → MigView → Type 0
HasValues old new = (bits : List Bool) → length bits ≡ old.inputs → map (mval new bits) new.outputs ≡ map (mval old bits) old.outputs

-- each node has at most one complemented operand that is no constant
abbrev pub AreUpright : List Maj → Type 0
AreUpright nodes = (k : ℕ) (d : Maj) → k < length nodes → inversions (slice_index_or nodes k d) ≤ 1

-- no node has two literals of one node, no two nodes have the same three literals, each has at most one complemented operand that is
-- no constant, and no needed node has a case
pub record IsNormal (g : MigView) : Type 0 where
  pub apart : (k : ℕ) (d : Maj) → k < length g.nodes → IsApart (slice_index_or g.nodes k d)
  pub once : (j k : ℕ) (d : Maj) → j < k → k < length g.nodes → same_operands (slice_index_or g.nodes j d) (slice_index_or g.nodes k d) ≡ false
  pub upright : AreUpright g.nodes
  pub settled : (k : ℕ) (d : Maj) → k < length g.nodes → is_needed g (1 + g.inputs + k) ≡ true → case_of g (slice_index_or g.nodes k d) ≡ None
