-- Which graphs of gates are trees, and the lists that hold all gates of a graph in an order that can be computed.
use Rattle.std.specs.Prelude.{ℕ, zero, suc, ◌+◌, ◌<◌, ◌==◌, ◌&&◌, ◌||◌, ◌≡◌, Bool, true, false, if◌then◌else◌, List, [], ◌∷◌, length, slice_index, Option, Some, None}
use Rattle.std.specs.List.{list_any}
use Rattle.pim_graph.specs.Graphs.{GraphView, has, kids_of}
use Rattle.pim_graph.specs.Peaks.{IsPlaced}
use Rattle.pim_graph.specs.Readers.{occurrences}
use Rattle.pim_graph.specs.Usages.{usages}

-- how often gates that read these read one
abbrev pub reads_in : List (List ℕ) → ℕ → ℕ
reads_in [] x = 0
reads_in (kids ∷ others) x = occurrences kids x + reads_in others x

-- how often the gates of a graph read one; a gate that reads it twice counts twice
abbrev pub all_reads : GraphView → ℕ → ℕ
all_reads g x = reads_in g.kids x

-- the first gate is the other, or reads one that reaches it in fewer steps
abbrev pub reaches : GraphView → ℕ → ℕ → ℕ → Bool
reaches g zero x y = false
reaches g (suc steps) x y = (x == y) || list_any (λ c. reaches g steps c y) (kids_of g x)

-- the test holds of each number below this one
abbrev pub all_below : (ℕ → Bool) → ℕ → Bool
all_below test zero = true
all_below test (suc n) = all_below test n && test n

-- every other gate is read once, and this one reaches every gate
abbrev pub is_tree_at : GraphView → ℕ → Bool
is_tree_at g root =
    all_below (λ x. (x == root) || (all_reads g x == 1)) (length g.kids)
    && all_below (λ x. reaches g (length g.kids) root x) (length g.kids)

-- the usage of the root, where the graph with these roots is a tree: it has one root
abbrev pub tree_with : GraphView → List ℕ → Option ℕ
tree_with g [] = None
tree_with g (root ∷ []) = if is_tree_at g root then Some (slice_index (usages g) root) else None
tree_with g (root ∷ second ∷ others) = None

-- the usage of a tree's root; a graph that is no tree has none
abbrev pub tree_of : GraphView → Option ℕ
tree_of g = tree_with g g.roots

-- the list has each gate once, and children before their gates
pub record IsOrdering (g : GraphView) (order : List ℕ) : Type 0 where
  pub placed : IsPlaced g order
  pub whole : (x : ℕ) → x < length g.kids → has order x ≡ true
