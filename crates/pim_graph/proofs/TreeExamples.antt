-- Small graphs that are trees, and some that are none, by computation.
use Rattle.std.specs.Prelude.{◌≡◌, [], ◌∷◌, Some, None, refl}
use Rattle.pim_graph.specs.Graphs.{GraphView}
use Rattle.pim_graph.specs.Orders.{order}
use Rattle.pim_graph.specs.Peaks.{peak}
use Rattle.pim_graph.specs.Trees.{tree_of}

one_gate : tree_of (record { kids = [] ∷ []; roots = 0 ∷ [] }) ≡ Some 1
one_gate = refl

-- a gate of two leaves
two_leaves : tree_of (record { kids = [] ∷ [] ∷ (0 ∷ 1 ∷ []) ∷ []; roots = 2 ∷ [] }) ≡ Some 3
two_leaves = refl

-- a gate of two such gates: the second takes its three cells while the first holds one
abbrev pair : GraphView
pair = record { kids = [] ∷ [] ∷ (0 ∷ 1 ∷ []) ∷ [] ∷ [] ∷ (3 ∷ 4 ∷ []) ∷ (2 ∷ 5 ∷ []) ∷ []; roots = 6 ∷ [] }

pair_usage : tree_of pair ≡ Some 4
pair_usage = refl

pair_peak : peak pair (order pair) ≡ 4
pair_peak = refl

-- the same gates in an order that begins both before it ends one
pair_mixed : peak pair (0 ∷ 3 ∷ 1 ∷ 4 ∷ 2 ∷ 5 ∷ 6 ∷ []) ≡ 5
pair_mixed = refl

-- gate 1 is read by two gates
shared_gate : tree_of (record { kids = [] ∷ [] ∷ (0 ∷ 1 ∷ []) ∷ (1 ∷ 2 ∷ []) ∷ []; roots = 3 ∷ [] }) ≡ None
shared_gate = refl

-- one gate reads another twice
read_twice : tree_of (record { kids = [] ∷ (0 ∷ 0 ∷ []) ∷ []; roots = 1 ∷ [] }) ≡ None
read_twice = refl

-- gate 0 is read by none
unread_gate : tree_of (record { kids = [] ∷ [] ∷ (1 ∷ []) ∷ []; roots = 2 ∷ [] }) ≡ None
unread_gate = refl

-- the root doesn't reach the gates behind it
gate_behind : tree_of (record { kids = [] ∷ (0 ∷ []) ∷ []; roots = 0 ∷ [] }) ≡ None
gate_behind = refl

two_roots : tree_of (record { kids = [] ∷ (0 ∷ []) ∷ []; roots = 1 ∷ 0 ∷ [] }) ≡ None
two_roots = refl

no_root : tree_of (record { kids = [] ∷ []; roots = [] }) ≡ None
no_root = refl

no_gate : tree_of (record { kids = []; roots = [] }) ≡ None
no_gate = refl
