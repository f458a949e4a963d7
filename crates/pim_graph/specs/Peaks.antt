-- How many values an order holds at once.
use Rattle.std.specs.Prelude.{◌≡◌, ℕ, ◌+◌, ◌<◌, max, Bool, true, false, ◌||◌, List, [], ◌∷◌, ◌++◌, All, count_by, length, slice_index, take}
use Rattle.pim_graph.specs.Graphs.{GraphView, has, kids_of}

-- the gate is read by one of these
abbrev pub read_by : GraphView → List ℕ → ℕ → Bool
read_by g [] x = false
read_by g (y ∷ ys) x = has (kids_of g y) x || read_by g ys x

-- the gate is a root, or one of these reads it
abbrev pub needed : GraphView → List ℕ → ℕ → Bool
needed g readers x = read_by g readers x || has g.roots x

-- the greatest number of gates that are held at a place of the rest of an order: the gate at the place, and each earlier
-- one that is a root or is read by the gate at that place or a later one
abbrev pub peak_from : GraphView → List ℕ → List ℕ → ℕ
peak_from g earlier [] = 0
peak_from g earlier (x ∷ later) =
    max (count_by (needed g (x ∷ later)) earlier + 1) (peak_from g (earlier ++ x ∷ []) later)

-- the peak of an order, 0 for the empty one
abbrev pub peak : GraphView → List ℕ → ℕ
peak g order = peak_from g [] order

-- the list holds gates of the graph alone, no gate twice, and the children of each gate before it
pub record IsPlaced (g : GraphView) (order : List ℕ) : Type 0 where
  pub there : All (λ x. x < length g.kids) order
  pub once : (p : ℕ) → p < length order → has (take p order) (slice_index order p) ≡ false
  pub after : (p : ℕ) → p < length order → All (λ c. has (take p order) c ≡ true) (kids_of g (slice_index order p))
