-- How often gates are read.
use Rattle.std.specs.Prelude.{◌≡◌, ℕ, ◌+◌, ◌<◌, ◌==◌, nat_lt, ◌||◌, if◌then◌else◌, Bool, List, [], ◌∷◌, length, slice_index}
use Rattle.pim_graph.specs.Graphs.{GraphView, has, kids_of}

-- how often a number stands in a list
abbrev pub occurrences : List ℕ → ℕ → ℕ
occurrences [] x = 0
occurrences (y ∷ ys) x = (if y == x then 1 else 0) + occurrences ys x

-- how often these gates read one
abbrev pub reads : GraphView → List ℕ → ℕ → ℕ
reads g [] x = 0
reads g (y ∷ ys) x = occurrences (kids_of g y) x + reads g ys x

-- there is a number for each gate: how often these gates read it
pub record CountsReads (g : GraphView) (readers left : List ℕ) : Type 0 where
  pub len : length left ≡ length g.kids
  pub counts : (x : ℕ) → x < length g.kids → slice_index left x ≡ reads g readers x

-- the gate is a root, or has reads that are still to come
abbrev pub still_needed : GraphView → List ℕ → ℕ → Bool
still_needed g left x = nat_lt 0 (slice_index left x) || has g.roots x
