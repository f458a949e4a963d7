-- `Some` is answered of trees alone: with the peak of their order, which no order is below.
use Rattle.std.proofs.Common.{◌≡◌, ℕ, ◌+◌, ◌≤◌, Bool, true, false, cond, List, [], ◌∷◌, length, Option, Some, None, refl, sym, ◌∙◌, subst, slice_index}
use Rattle.std.specs.Prelude.{IfSome}
use Rattle.pim_graph.specs.Graphs.{GraphView, IsGraph}
use Rattle.pim_graph.specs.Orders.{order}
use Rattle.pim_graph.specs.Peaks.{peak}
use Rattle.pim_graph.specs.Trees.{is_tree_at, tree_with, tree_of, IsOrdering}
use Rattle.pim_graph.specs.Usages.{usages}
use Rattle.pim_graph.proofs.LowerBound.{least}
use Rattle.pim_graph.proofs.Sweeps.{best}
use Rattle.pim_graph.proofs.TreeShapes.{IsReadOnce, root_there, tree_is}

-- the graph is a tree with this usage of its root
record IsTree (g : GraphView) (usage : ℕ) : Type 0 where
  root : ℕ
  roots : g.roots ≡ root ∷ []
  last : root + 1 ≡ length g.kids
  once : IsReadOnce g root
  is : slice_index (usages g) root ≡ usage

some_is : (m n : ℕ) → Some m ≡ Some n → m ≡ n
some_is m n e = cc

shape_with : (g : GraphView) → IsGraph g → (xs : List ℕ) (usage : ℕ) → g.roots ≡ xs → tree_with g xs ≡ Some usage → IsTree g usage
shape_with g sound [] usage roots e = absurd cc
shape_with g sound (r ∷ s ∷ xs) usage roots e = absurd cc
shape_with g sound (r ∷ []) usage roots e = by_test (is_tree_at g r) refl e
  where
    by_test : (t : Bool) → is_tree_at g r ≡ t → cond t (Some (slice_index (usages g) r)) None ≡ Some usage → IsTree g usage
    by_test false is e = absurd cc
    by_test true is e =
        let shape = (tree_is g sound r (root_there g r sound roots)).0 is in
        record { root = r; roots = roots; last = shape.0; once = shape.1; is = some_is (slice_index (usages g) r) usage e }

shape_of : (g : GraphView) → IsGraph g → (usage : ℕ) → Some usage ≡ tree_of g → IsTree g usage
shape_of g sound usage e = shape_with g sound g.roots usage refl (sym e)

pub answer_is_best : (g : GraphView) → IsGraph g → (answer : Option ℕ) → answer ≡ tree_of g → IfSome answer (λ usage. usage ≡ peak g (order g))
answer_is_best g sound None e = tt
answer_is_best g sound (Some usage) e =
    let tree = shape_of g sound usage e in
    sym tree.is ∙ sym (best g sound tree.root tree.roots tree.last tree.once)

pub answer_is_least : (g : GraphView) → IsGraph g → (answer : Option ℕ) → answer ≡ tree_of g → IfSome answer (λ usage. (o : List ℕ) → IsOrdering g o → usage ≤ peak g o)
answer_is_least g sound None e = tt
answer_is_least g sound (Some usage) e = λ o is.
    let tree = shape_of g sound usage e in
    subst (λ (u : ℕ). u ≤ peak g o) tree.is (least g sound tree.root tree.roots tree.last tree.once o is)
