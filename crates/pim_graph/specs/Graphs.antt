-- Graphs of gates as lists.
use Rattle.std.specs.Prelude.{ℕ, ◌<◌, ◌≤◌, ◌^◌, ◌==◌, ◌||◌, Bool, false, List, [], ◌∷◌, All, length, slice_index_or}

-- what contracts see of a `Graph`: what each gate reads, and the roots
pub record GraphView : Type 0 where
  pub kids : List (List ℕ)
  pub roots : List ℕ

-- the number is in the list
abbrev pub has : List ℕ → ℕ → Bool
has [] x = false
has (y ∷ ys) x = (y == x) || has ys x

-- what a gate reads, in its order
abbrev pub kids_of : GraphView → ℕ → List ℕ
kids_of g gate = slice_index_or g.kids gate []

-- each gate reads at most four gates before it, the roots are there, and there are fewer than 2^28 gates
pub record IsGraph (g : GraphView) : Type 0 where
  pub gates_fit : length g.kids < 2 ^ 28
  pub few : (gate : ℕ) → gate < length g.kids → length (kids_of g gate) ≤ 4
  pub before : (gate : ℕ) → gate < length g.kids → All (λ c. c < gate) (kids_of g gate)
  pub roots_there : All (λ r. r < length g.kids) g.roots
