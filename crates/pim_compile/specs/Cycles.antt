-- How many cycles a level allows.
use Rattle.std.specs.Prelude.{◌≡◌, ℕ, ◌+◌, ◌≤◌, List, [], ◌∷◌, All, length}
use Rattle.pim_aig.specs.Flat.{flat}
use Rattle.pim_aig.specs.Graph.{AigView}
use Rattle.pim_isa.specs.Programs.{ProgramView}
use Rattle.pim_mig.specs.Graph.{MigView}
use Rattle.pim_mig.specs.Majs.{majs}
use Rattle.pim_net.specs.Netlist.{NetView}
use Rattle.pim_nor.specs.Lowered.{nors}
use Rattle.pim_nor.specs.Network.{NorView, nor_count}
use Rattle.pim_nor.specs.declared.lowering.Width.TheVariants as width
use Rattle.pim_rewrite.specs.Rewritten.{rewritten}
use Rattle.pim_rm3.specs.Costs.{rm3_cost}
use Rattle.pim_rm3.specs.Steps.{enough_of, smart_cost}
use Rattle.pim_tidy.specs.Tidied.{tidied}
use Rattle.pim_compile.specs.Networks.{most_nors}
use Rattle.pim_compile.specs.declared.compiling.Level.{Level}
use Rattle.pim_compile.specs.declared.compiling.Level.TheVariants as level

-- where the budget has a cell for each input and each gate of the network, the program takes no more cycles than one for each NOR
-- and one
abbrev pub IsQuickBy : ℕ → ProgramView → NorView → Type 0
IsQuickBy budget p w = w.inputs + length w.gates ≤ budget → length p.instrs ≤ nor_count w.gates + 1

-- that is so for the network of the graph's tidied form with gates of up to two operands, if it has no more NORs than the graph's own
abbrev pub IsQuickTidy : AigView → ℕ → ProgramView → Type 0
IsQuickTidy g budget p = nor_count (nors (tidied g) width.Two).gates ≤ most_nors g → IsQuickBy budget p (nors (tidied g) width.Two)

-- that is so for the level's network of up to two operands: at level 0 that of the flat graph
abbrev pub IsQuick : Level → NetView → ℕ → ProgramView → Type 0
IsQuick level.Zero n budget p = IsQuickBy budget p (nors (flat n) width.Two)
IsQuick level.One n budget p = IsQuickTidy (flat n) budget p
IsQuick level.Two n budget p = IsQuickTidy (flat n) budget p

-- where the budget is surely enough for the smart schedule of a majority graph, the program takes no more cycles than that
abbrev pub IsSmartBy : ℕ → ProgramView → MigView → Type 0
IsSmartBy budget p m = enough_of m ≤ budget → length p.instrs ≤ smart_cost m

-- the majority graphs that a level makes of a graph: from level 1 on that of its tidied form, and at level 2 before it the same
-- graph rewritten
abbrev pub graphs_at : Level → AigView → List MigView
graphs_at level.Zero g = []
graphs_at level.One g = majs (tidied g) ∷ []
graphs_at level.Two g = rewritten (majs (tidied g)) ∷ majs (tidied g) ∷ []

-- no more cycles than those of the graph's own gates, nor than the smart schedules of the level's majority graphs take
pub record TakesFew (effort : Level) (g : AigView) (budget : ℕ) (p : ProgramView) : Type 0 where
  pub few : length p.instrs ≤ rm3_cost g
  pub smart : All (IsSmartBy budget p) (graphs_at effort g)

-- the cycles that a level allows for a graph: at level 0 exactly those of its own gates
abbrev pub TakesAt : Level → AigView → ℕ → ProgramView → Type 0
TakesAt level.Zero g budget p = length p.instrs ≡ rm3_cost g
TakesAt level.One g budget p = TakesFew level.One g budget p
TakesAt level.Two g budget p = TakesFew level.Two g budget p

-- the program takes the cycles that a level allows for PLiM
abbrev pub TakesCycles : Level → NetView → ℕ → ProgramView → Type 0
TakesCycles effort n budget p = TakesAt effort (flat n) budget p
