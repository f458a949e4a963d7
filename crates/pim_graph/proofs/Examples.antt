-- Small graphs, with their usages, orders and peaks by computation.
use Rattle.std.specs.Prelude.{◌≡◌, ℕ, true, false, List, [], ◌∷◌, Some, None, refl, map}
use Rattle.pim_graph.specs.Allotments.{cells_along}
use Rattle.pim_graph.specs.Graphs.{GraphView}
use Rattle.pim_graph.specs.Orders.{order, IsReached}
use Rattle.pim_graph.specs.Orders.IsReached.{as_root, as_child}
use Rattle.pim_graph.specs.Peaks.{needed, peak}
use Rattle.pim_graph.specs.Readers.{reads, still_needed}
use Rattle.pim_graph.specs.Usages.{falling, usages}

-- the leaves 0 and 1, gate 2 of both, and gate 3 of 1 and 2
abbrev shared : List ℕ → GraphView
shared roots = record { kids = [] ∷ [] ∷ (0 ∷ 1 ∷ []) ∷ (1 ∷ 2 ∷ []) ∷ []; roots = roots }

-- gate 3 visits gate 2 first, whose usage is greater
shared_usages : usages (shared (3 ∷ [])) ≡ 1 ∷ 1 ∷ 3 ∷ 3 ∷ []
shared_usages = refl

shared_order : order (shared (3 ∷ [])) ≡ 0 ∷ 1 ∷ 2 ∷ 3 ∷ []
shared_order = refl

shared_peak : peak (shared (3 ∷ [])) (0 ∷ 1 ∷ 2 ∷ 3 ∷ []) ≡ 3
shared_peak = refl

-- in these four places the gates 2 and 3 take over the cells of the gates 0 and 2: two cells are in use at once; without that it
-- is three
shared_cells : cells_along (shared (3 ∷ [])) (0 ∷ 1 ∷ 2 ∷ 3 ∷ []) (None ∷ None ∷ Some 0 ∷ Some 2 ∷ []) ≡ 2
shared_cells = refl

shared_own_cells : cells_along (shared (3 ∷ [])) (0 ∷ 1 ∷ 2 ∷ 3 ∷ []) [] ≡ 3
shared_own_cells = refl

-- a gate that no root reaches is left out
part_order : order (shared (1 ∷ [])) ≡ 1 ∷ []
part_order = refl

-- a root that another root reads is emitted once, and is held to the end
inner_root_order : order (shared (0 ∷ 3 ∷ 2 ∷ [])) ≡ 0 ∷ 1 ∷ 2 ∷ 3 ∷ []
inner_root_order = refl

inner_root_peak : peak (shared (0 ∷ 3 ∷ 2 ∷ [])) (0 ∷ 1 ∷ 2 ∷ 3 ∷ []) ≡ 4
inner_root_peak = refl

-- roots of one usage keep their order, and so do children
tied_roots : order (record { kids = [] ∷ [] ∷ [] ∷ []; roots = 2 ∷ 0 ∷ 1 ∷ [] }) ≡ 2 ∷ 0 ∷ 1 ∷ []
tied_roots = refl

tied_children : order (record { kids = [] ∷ [] ∷ [] ∷ (2 ∷ 0 ∷ 1 ∷ []) ∷ []; roots = 3 ∷ [] }) ≡ 2 ∷ 0 ∷ 1 ∷ 3 ∷ []
tied_children = refl

-- the greater usages come first, those of one usage in their order
ties_in_falling : falling (λ x. x) (2 ∷ 5 ∷ 2 ∷ 7 ∷ 5 ∷ []) ≡ 7 ∷ 5 ∷ 5 ∷ 2 ∷ 2 ∷ []
ties_in_falling = refl

-- a gate that reads one gate twice counts it as two children, and that gate is emitted and held once
abbrev twice : GraphView
twice = record { kids = [] ∷ (0 ∷ 0 ∷ []) ∷ []; roots = 1 ∷ [] }

twice_usages : usages twice ≡ 1 ∷ 3 ∷ []
twice_usages = refl

twice_order : order twice ≡ 0 ∷ 1 ∷ []
twice_order = refl

twice_peak : peak twice (0 ∷ 1 ∷ []) ≡ 2
twice_peak = refl

-- a gate that reads gate 2 three times, whose usage of 3 is raised by 2 at the third
abbrev raised : GraphView
raised = record { kids = [] ∷ [] ∷ (0 ∷ 1 ∷ []) ∷ (2 ∷ 2 ∷ 2 ∷ []) ∷ []; roots = 2 ∷ 3 ∷ [] }

raised_usages : usages raised ≡ 1 ∷ 1 ∷ 3 ∷ 5 ∷ []
raised_usages = refl

raised_order : order raised ≡ 0 ∷ 1 ∷ 2 ∷ 3 ∷ []
raised_order = refl

raised_peak : peak raised (0 ∷ 1 ∷ 2 ∷ 3 ∷ []) ≡ 3
raised_peak = refl

-- a root of a greater usage is visited before a root that was named first
greater_root_first : order (record { kids = [] ∷ [] ∷ [] ∷ (1 ∷ 2 ∷ []) ∷ []; roots = 0 ∷ 3 ∷ [] }) ≡ 1 ∷ 2 ∷ 3 ∷ 0 ∷ []
greater_root_first = refl

-- nothing is held where nothing is computed
empty_peak : peak raised [] ≡ 0
empty_peak = refl

-- the root 3 reaches gate 0 by way of gate 2
reached_leaf : IsReached (shared (3 ∷ [])) 0
reached_leaf = as_child {reader = 2} (as_child {reader = 3} (as_root refl) refl) refl

-- behind gate 1 the gates 2 and 3 read it; behind gate 2 only gate 3 does, and gate 0 is needed no longer
needed_behind : needed (shared (3 ∷ [])) (2 ∷ 3 ∷ []) 1 ≡ true
needed_behind = refl

not_needed_behind : needed (shared (3 ∷ [])) (3 ∷ []) 0 ≡ false
not_needed_behind = refl

-- a root is needed behind all gates
root_needed_behind : needed (shared (3 ∷ [])) [] 3 ≡ true
root_needed_behind = refl

-- the reads that are still to come, before the first gate and behind gate 2
reads_of_all : map (reads (shared (3 ∷ [])) (0 ∷ 1 ∷ 2 ∷ 3 ∷ [])) (0 ∷ 1 ∷ 2 ∷ 3 ∷ []) ≡ 1 ∷ 2 ∷ 1 ∷ 0 ∷ []
reads_of_all = refl

reads_of_rest : map (reads (shared (3 ∷ [])) (3 ∷ [])) (0 ∷ 1 ∷ 2 ∷ 3 ∷ []) ≡ 0 ∷ 1 ∷ 1 ∷ 0 ∷ []
reads_of_rest = refl

still_needed_by_counts : map (still_needed (shared (3 ∷ [])) (0 ∷ 1 ∷ 1 ∷ 0 ∷ [])) (0 ∷ 1 ∷ 2 ∷ 3 ∷ []) ≡ false ∷ true ∷ true ∷ true ∷ []
still_needed_by_counts = refl
