-- Which of the candidate programs for MAGIC is taken.
use Rattle.std.specs.Prelude.{◌≡◌, ℕ, ◌+◌, ◌-◌, ◌≤◌, ◌⊎◌, List, [], ◌∷◌, All, min, length}
use Rattle.pim_isa.specs.Primed.{IsPrimed}
use Rattle.pim_isa.specs.Programs.{ProgramView}
use Rattle.pim_net.specs.Netlist.{NetView}
use Rattle.pim_nor.specs.Network.{NorView}
use Rattle.pim_simpler.specs.Batching.{Batched}
use Rattle.pim_simpler.specs.Needs.{needed_of}
use Rattle.pim_compile.specs.Computes.{Computes}
use Rattle.pim_compile.specs.Networks.{FollowsNetwork, networks}
use Rattle.pim_compile.specs.declared.compiling.Level.{Level}

-- a program of this network: it computes the netlist, executes the gates in their order, initialises cells together, and has as many
-- cells as the budget allows, at most one for each input and gate
pub record IsCandidate (n : NetView) (budget : ℕ) (w : NorView) (p : ProgramView) : Type 0 where
  pub computes : Computes p n
  pub primed : IsPrimed p.instrs
  pub follows : FollowsNetwork p w
  pub batched : Batched p
  pub cells : p.cells ≡ length n.inputs + min (budget - length n.inputs) (length w.gates)

-- a program of the network takes so many cycles or more
pub record TakesAtLeast (IsOf : NorView → ProgramView → Type 0) (w : NorView) (cycles : ℕ) : Type 0 where
  pub other : ProgramView
  pub is : IsOf w other
  pub no_fewer : cycles ≤ length other.instrs

-- that is so where the network fits the budget
abbrev pub FitsInNoFewer : (NorView → ProgramView → Type 0) → ℕ → ℕ → NorView → Type 0
FitsInNoFewer IsOf budget cycles w = needed_of w ≤ budget → TakesAtLeast IsOf w cycles

-- the program is of one of these networks, those before it take more cycles and those behind it no fewer: of networks that do not
-- fit the budget nothing is said
abbrev pub IsFirst : (NorView → ProgramView → Type 0) → ℕ → List NorView → ProgramView → Type 0
IsFirst IsOf budget [] p = ⊥
IsFirst IsOf budget (w ∷ ws) p =
    (IsOf w p × All (FitsInNoFewer IsOf budget (length p.instrs)) ws)
    ⊎ (FitsInNoFewer IsOf budget (length p.instrs + 1) w × IsFirst IsOf budget ws p)

-- of the networks that the level tries and that fit the budget, the program is the first with the fewest cycles
abbrev pub IsChosen : Level → NetView → ℕ → ProgramView → Type 0
IsChosen level n budget p = IsFirst (IsCandidate n budget) budget (networks level n) p
