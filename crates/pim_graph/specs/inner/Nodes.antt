-- Inner. How a graph is kept.
use Rattle.std.specs.Prelude.{◌≡◌, ℕ, ◌<◌, ◌≤◌, false, List, length, map, take, slice_index_or}
use Rattle.pim_graph.specs.Graphs.{GraphView, IsGraph, has}
use Rattle.pim_graph.specs.declared.graph.Node.{Node}

-- what a node reads
abbrev pub children_of : Node → List ℕ
children_of n = take n.count n.list

-- the graph of some nodes and roots
abbrev pub view_of : List Node → List ℕ → GraphView
view_of nodes roots = record { kids = map children_of nodes; roots = roots }

-- the node reads these, and is no root
pub record IsNodeOf (children : List ℕ) (n : Node) : Type 0 where
  pub reads : children_of n ≡ children
  pub fits : n.count ≤ 4
  pub no_root : n.is_root ≡ false

-- the nodes are a graph's, and each knows whether it is a root
pub record IsWhole (nodes : List Node) (roots : List ℕ) : Type 0 where
  pub sound : IsGraph (view_of nodes roots)
  pub counts_fit : (k : ℕ) (d : Node) → k < length nodes → (slice_index_or nodes k d).count ≤ 4
  pub marked : (k : ℕ) (d : Node) → k < length nodes → (slice_index_or nodes k d).is_root ≡ has roots k
