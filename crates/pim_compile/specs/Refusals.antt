-- Which netlists are refused, and for what budgets.
use Rattle.std.specs.Prelude.{◌≡◌, ℕ, ◌<◌, ◌≤◌}
use Rattle.pim_aig.specs.Flat.{ands}
use Rattle.pim_aig.specs.declared.graph.TheConstants.{MAX_ANDS}
use Rattle.pim_isa.specs.declared.target.Target.{Target}
use Rattle.pim_isa.specs.declared.target.Target.TheVariants.{Magic, Plim}
use Rattle.pim_net.specs.Netlist.{NetView}
use Rattle.pim_compile.specs.Networks.{need, coarse_need}
use Rattle.pim_compile.specs.declared.compiling.Level.{Level}
use Rattle.pim_compile.specs.declared.compiling.Level.TheVariants as level
use Rattle.pim_compile.specs.declared.refusal.Refusal.{Refusal}
use Rattle.pim_compile.specs.declared.refusal.Refusal.TheVariants.{TooFewCells, TooLarge, NoMemory}

-- what a budget that was enough says of the need: for MAGIC at level 0 it is at least that; a PLiM program, or one of a tidied graph,
-- may take fewer cells
abbrev pub IsEnough : Target → Level → NetView → ℕ → Type 0
IsEnough Magic level.Zero n budget = need n Magic ≤ budget
IsEnough Magic level.One n budget = Unit {0}
IsEnough Magic level.Two n budget = Unit {0}
IsEnough Plim effort n budget = Unit {0}

-- the flat graph keeps the limit of AND nodes, and the budget is enough
pub record IsAccepted (n : NetView) (target : Target) (effort : Level) (budget : ℕ) : Type 0 where
  pub few : ands n ≤ MAX_ANDS
  pub enough : IsEnough target effort n budget

-- the flat graph keeps the limit of AND nodes, so many cells are needed, and the budget is below them
pub record IsShort (n : NetView) (target : Target) (budget needed : ℕ) : Type 0 where
  pub few : ands n ≤ MAX_ANDS
  pub is : needed ≡ need n target
  pub below : budget < needed

-- too large comes only where the flat graph has more AND nodes than the limit, and too few cells only where the budget is
-- below the need, which it names; out of memory says nothing
abbrev pub IsRefusal : NetView → Target → ℕ → Refusal → Type 0
IsRefusal n target budget (TooFewCells needed) = IsShort n target budget needed
IsRefusal n target budget TooLarge = MAX_ANDS < ands n
IsRefusal n target budget NoMemory = Unit {0}

-- too few cells comes only where the budget is below the coarse need
abbrev pub IsCoarse : NetView → Target → ℕ → Refusal → Type 0
IsCoarse n target budget (TooFewCells needed) = budget < coarse_need n target
IsCoarse n target budget TooLarge = Unit {0}
IsCoarse n target budget NoMemory = Unit {0}
