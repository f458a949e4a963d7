-- Inner. A graph that is lowered, and how many operands its gates may have.
use Rattle.std.specs.Prelude.{◌≡◌, ℕ, ◌==◌, slice_index, List, [], ◌∷◌}
use Rattle.pim_aig.specs.Graph.{AigView}
use Rattle.pim_nor.specs.Leaves.{is_single}
use Rattle.pim_nor.specs.declared.lowering.Width.{Width}
use Rattle.pim_aig.specs.declared.literal.Lit.{Lit}
use Rattle.pim_nor.specs.declared.leaves.Leaves.{Leaves}
use Rattle.pim_nor.specs.declared.leaves.Leaves.TheVariants.{Two, Three, Four}

-- what contracts see of a `Plan`
pub record PlanView : Type 0 where
  pub graph : AigView
  pub width : Width

-- a node is single exactly where its count is 1
abbrev pub TellsSingle : AigView → List ℕ → Type 0
TellsSingle g counts = (n : ℕ) → (slice_index counts n == 1) ≡ is_single g n

-- the literals of some leaves
abbrev pub leaf_literals : Leaves → List Lit
leaf_literals (Two x y) = x ∷ y ∷ []
leaf_literals (Three x y z) = x ∷ y ∷ z ∷ []
leaf_literals (Four x y z w) = x ∷ y ∷ z ∷ w ∷ []
