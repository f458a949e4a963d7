-- Inner. What is known of a candidate: the program of one graph or network, or why there is none.
use Rattle.std.specs.Prelude.{◌≡◌, ℕ, ◌+◌, ◌-◌, ◌<◌, ◌≤◌, if◌then◌else◌, List, All, length, map, min, nat_lt, Option, Some, None}
use Rattle.pim_aig.specs.Graph.{AigView}
use Rattle.pim_aig.specs.Values.{aval}
use Rattle.pim_aig.specs.declared.fault.FlatFault.{FlatFault}
use Rattle.pim_aig.specs.declared.fault.FlatFault.TheVariants as flat
use Rattle.pim_isa.specs.PortLists.{labels_of}
use Rattle.pim_isa.specs.Primed.{IsPrimed}
use Rattle.pim_isa.specs.Programs.{PortsView, ProgramView}
use Rattle.pim_isa.specs.Realizes.{Realizes}
use Rattle.pim_isa.specs.Writes.{nor_places}
use Rattle.pim_isa.specs.declared.target.Target.{Target}
use Rattle.pim_isa.specs.declared.target.Target.TheVariants.{Magic}
use Rattle.pim_nor.specs.Network.{NorView, nor_count}
use Rattle.pim_nor.specs.Values.{out_values}
use Rattle.pim_simpler.specs.Batching.{Batched}
use Rattle.pim_simpler.specs.Needs.{needed_of}
use Rattle.pim_compile.specs.Choices.{IsFirst}
use Rattle.pim_compile.specs.Cycles.{IsQuickBy}
use Rattle.pim_compile.specs.Networks.{FollowsNetwork, most_nors, networks_at}
use Rattle.pim_compile.specs.declared.compiling.Level.{Level}
use Rattle.pim_compile.specs.declared.refusal.Refusal.{Refusal as Refused}
use Rattle.pim_compile.specs.declared.refusal.Refusal.TheVariants as refused

-- the refusal of a netlist that can't be flattened
abbrev pub refusal_of : FlatFault → Refused
refusal_of flat.TooLarge = refused.TooLarge
refusal_of flat.NoMemory = refused.NoMemory

-- the program computes a graph for a target within the budget, for ports with these labels
pub record IsProgramOf (g : AigView) (ports : PortsView) (target : Target) (budget : ℕ) (p : ProgramView) : Type 0 where
  pub realizes : Realizes p ports.inputs (λ bits. map (aval g bits) g.outputs)
  pub labels : labels_of p.outputs ≡ ports.outputs
  pub is_target : p.target ≡ target
  pub cells : p.cells ≤ budget
  pub primed : IsPrimed p.instrs

-- the MAGIC program of a network, with so many NORs at most, which computes a graph
pub record IsOfNetwork (g : AigView) (ports : PortsView) (most budget : ℕ) (w : NorView) (p : ProgramView) : Type 0 where
  pub program : IsProgramOf g ports Magic budget p
  pub follows : FollowsNetwork p w
  pub batched : Batched p
  pub wide : p.cells ≡ g.inputs + min (budget - g.inputs) (length w.gates)
  pub few_nors : length (nor_places p.instrs) ≤ most
  pub enough : needed_of w ≤ budget
  pub quick : IsQuickBy budget p w

-- a budget with a cell for each input and each gate is enough for the network
abbrev pub IsRoomy : ℕ → NorView → Type 0
IsRoomy budget w = w.inputs + length w.gates ≤ budget → needed_of w ≤ budget

-- the network does not fit the budget
pub record IsTooWide (budget : ℕ) (w : NorView) : Type 0 where
  pub below : budget < needed_of w
  pub roomy : IsRoomy budget w

-- the MAGIC program of a network
pub record IsPlaced (w : NorView) (ports : PortsView) (budget : ℕ) (p : ProgramView) : Type 0 where
  pub realizes : Realizes p ports.inputs (out_values w)
  pub labels : labels_of p.outputs ≡ ports.outputs
  pub is_target : p.target ≡ Magic
  pub cells : p.cells ≡ w.inputs + min (budget - w.inputs) (length w.gates)
  pub primed : IsPrimed p.instrs
  pub follows : FollowsNetwork p w
  pub batched : Batched p
  pub nors : length (nor_places p.instrs) ≡ nor_count w.gates
  pub enough : needed_of w ≤ budget
  pub quick : IsQuickBy budget p w

-- the same, or none where the network does not fit the budget
abbrev pub IsScheduleOf : NorView → PortsView → ℕ → Option ProgramView → Type 0
IsScheduleOf w ports budget None = IsTooWide budget w
IsScheduleOf w ports budget (Some p) = IsPlaced w ports budget p

-- of the programs of these networks the first with the fewest cycles, or none where no network fits the budget
abbrev pub IsBest : (NorView → ProgramView → Type 0) → ℕ → List NorView → Option ProgramView → Type 0
IsBest IsOf budget ws None = All (IsTooWide budget) ws
IsBest IsOf budget ws (Some p) = IsFirst IsOf budget ws p × All (IsRoomy budget) ws

-- the same of a graph's networks
abbrev pub IsBestOf : AigView → PortsView → ℕ → ℕ → List NorView → Option ProgramView → Type 0
IsBestOf g ports most budget ws r = IsBest (IsOfNetwork g ports most budget) budget ws r

-- the MAGIC program of a graph at a level
abbrev pub IsMagic : Level → AigView → PortsView → ℕ → ProgramView → Type 0
IsMagic effort g ports budget p = IsBestOf g ports (most_nors g) budget (networks_at effort g) (Some p)

-- so many cells are told, which is the need, at most this bound, and more than the budget
pub record IsShortBy (needed most budget told : ℕ) : Type 0 where
  pub is : told ≡ needed
  pub below : budget < told
  pub few : told ≤ most

-- what a refusal of a graph says
abbrev pub IsScarce : ℕ → ℕ → ℕ → Refused → Type 0
IsScarce needed most budget (refused.TooFewCells told) = IsShortBy needed most budget told
IsScarce needed most budget refused.TooLarge = ⊥
IsScarce needed most budget refused.NoMemory = Unit {0}

-- the one of two programs that has fewer cycles, the first where they have as many
abbrev pub shorter_of : ProgramView → ProgramView → ProgramView
shorter_of p q = if nat_lt (length q.instrs) (length p.instrs) then q else p

-- the same where either may be missing
abbrev pub shorter : Option ProgramView → Option ProgramView → Option ProgramView
shorter None second = second
shorter (Some p) None = Some p
shorter (Some p) (Some q) = Some (shorter_of p q)
