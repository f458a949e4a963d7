-- What makes a draft a netlist, and what every netlist meets.
use Rattle.std.specs.Prelude.{◌≡◌, ◌≢◌, ◌<◌, ◌⊎◌, ℕ, List, [], Option, None, Some, All, AllPairs, Contains, IsSome, length, slice_get, slice_index}
use Rattle.pim_net.specs.Netlist.{NetView, IsDraft, draft_of}
use Rattle.pim_net.specs.Drivers.{driven, read, sigs}
use Rattle.pim_net.specs.Depths.{depth}
use Rattle.pim_net.specs.Order.{IsByDepth}
use Rattle.pim_net.specs.declared.parts.Equation.{Equation}
use Rattle.pim_net.specs.declared.parts.OutRef.{OutRef}

-- no signal has two drivers, every signal that is read has one, and every equation has a depth
pub record IsWellFormed (inputs : List ℕ) (equations : List Equation) (outputs : List OutRef) : Type 0 where
  pub once : AllPairs ◌≢◌ (driven inputs equations)
  pub driven : All (Contains (driven inputs equations)) (read equations outputs)
  pub deep : All (λ e. IsSome (depth inputs equations e.sig)) equations

-- the columns of an equation
abbrev pub columns : Option Equation → List ℕ
columns None = []
columns (Some e) = e.cover.ins

-- the columns of the equation at place i of an order
abbrev pub columns_at : List Equation → List ℕ → ℕ → List ℕ
columns_at equations topo i = columns (slice_get equations (slice_index topo i))

-- a signal is an input, or that of an equation before place i of an order
abbrev pub IsReady : List ℕ → List Equation → List ℕ → ℕ → ℕ → Type 0
IsReady inputs equations topo i c =
    Contains inputs c ⊎ ((j : ℕ) × (j < i) × (slice_index (sigs equations) (slice_index topo j) ≡ c))

-- an order has the columns of each equation before it
abbrev pub IsReadyOrder : List ℕ → List Equation → List ℕ → Type 0
IsReadyOrder inputs equations topo =
    (i : ℕ) → i < length topo → All (IsReady inputs equations topo i) (columns_at equations topo i)

-- what every netlist meets: the bounds of its draft, a well-formed draft, all equations by depth and then in order, and so
-- the columns of each equation before it
pub record IsNet (n : NetView) : Type 0 where
  pub bounded : IsDraft (draft_of n)
  pub well_formed : IsWellFormed n.inputs n.equations n.outputs
  pub by_depth : IsByDepth n.inputs n.equations n.topo
  pub ready : IsReadyOrder n.inputs n.equations n.topo
