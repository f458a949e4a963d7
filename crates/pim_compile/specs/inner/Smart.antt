-- Inner. What is known of the schedules of a graph for PLiM.
use Rattle.std.specs.Prelude.{◌≡◌, ℕ, ◌<◌, ◌≤◌, if◌then◌else◌, List, All, length, nat_le, Option, Some, None}
use Rattle.pim_aig.specs.Graph.{AigView}
use Rattle.pim_isa.specs.Programs.{PortsView, ProgramView}
use Rattle.pim_isa.specs.declared.target.Target.TheVariants.{Plim}
use Rattle.pim_mig.specs.Graph.{MigView}
use Rattle.pim_rm3.specs.Costs.{needed_of, rm3_cost}
use Rattle.pim_rm3.specs.Steps.{enough_of, smart_cost}
use Rattle.pim_compile.specs.Cycles.{IsSmartBy, TakesAt, graphs_at}
use Rattle.pim_compile.specs.declared.compiling.Level.{Level}
use Rattle.pim_compile.specs.declared.compiling.Level.TheVariants as level
use Rattle.pim_compile.specs.inner.Candidates.{IsProgramOf}

-- the PLiM program of a graph at a level
pub record IsPlim (effort : Level) (g : AigView) (ports : PortsView) (budget : ℕ) (p : ProgramView) : Type 0 where
  pub program : IsProgramOf g ports Plim budget p
  pub cycles : TakesAt effort g budget p

-- the schedule of a graph as it is
pub record IsBase (g : AigView) (ports : PortsView) (budget : ℕ) (p : ProgramView) : Type 0 where
  pub program : IsProgramOf g ports Plim budget p
  pub cycles : length p.instrs ≡ rm3_cost g

-- the same, or none where the budget is below the need
abbrev pub IsBaseOf : AigView → PortsView → ℕ → Option ProgramView → Type 0
IsBaseOf g ports budget None = budget < needed_of g
IsBaseOf g ports budget (Some p) = IsBase g ports budget p

-- the smart schedule of the majority graph takes more cycles than the graph's own gates, or may not fit
abbrev pub IsPassedOver : AigView → ℕ → MigView → Type 0
IsPassedOver g budget m = enough_of m ≤ budget → rm3_cost g < smart_cost m

-- a program that computes the graph in no more cycles than its own gates take, nor than the smart schedules of these majority graphs
pub record IsSmart (g : AigView) (ports : PortsView) (budget : ℕ) (ms : List MigView) (p : ProgramView) : Type 0 where
  pub program : IsProgramOf g ports Plim budget p
  pub few : length p.instrs ≤ rm3_cost g
  pub smart : All (IsSmartBy budget p) ms

-- the same, or none where each of these is passed over
abbrev pub IsSmartest : AigView → PortsView → ℕ → List MigView → Option ProgramView → Type 0
IsSmartest g ports budget ms None = All (IsPassedOver g budget) ms
IsSmartest g ports budget ms (Some p) = IsSmart g ports budget ms p

-- what a level makes of a graph: nothing at level 0
abbrev pub IsSmartestAt : Level → AigView → PortsView → ℕ → Option ProgramView → Type 0
IsSmartestAt level.Zero g ports budget r = r ≡ None
IsSmartestAt level.One g ports budget r = IsSmartest g ports budget (graphs_at level.One g) r
IsSmartestAt level.Two g ports budget r = IsSmartest g ports budget (graphs_at level.Two g) r

-- the program, if it takes no more than so many cycles
abbrev pub if_short : ℕ → ProgramView → Option ProgramView
if_short most p = if nat_le (length p.instrs) most then Some p else None
