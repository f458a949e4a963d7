-- The order in which equations are evaluated.
use Rattle.std.specs.Prelude.{◌≡◌, ◌<◌, ◌≤◌, ◌+◌, ◌⊎◌, ℕ, List, length, unwrap_or, slice_index, IsPermutation}
use Rattle.std.specs.List.{range_with_len}
use Rattle.pim_net.specs.Drivers.{sigs}
use Rattle.pim_net.specs.Depths.{depth}
use Rattle.pim_net.specs.declared.parts.Equation.{Equation}

-- the depth of the equation of a number; in a draft without a fault each has one
abbrev pub equation_level : List ℕ → List Equation → ℕ → ℕ
equation_level inputs equations k = unwrap_or (depth inputs equations (slice_index (sigs equations) k)) 0

-- equation j comes no later than equation k: it is less deep, or it is as deep and doesn't stand after it
abbrev pub ComesBefore : List ℕ → List Equation → ℕ → ℕ → Type 0
ComesBefore inputs equations j k =
    (equation_level inputs equations j < equation_level inputs equations k)
    ⊎ ((equation_level inputs equations j ≡ equation_level inputs equations k) × (j ≤ k))

-- all equation numbers, each once, by depth and then in order
pub record IsByDepth (inputs : List ℕ) (equations : List Equation) (topo : List ℕ) : Type 0 where
  pub once : IsPermutation (range_with_len 0 (length equations)) topo
  pub rising : (i : ℕ) → i + 1 < length topo → ComesBefore inputs equations (slice_index topo i) (slice_index topo (i + 1))
