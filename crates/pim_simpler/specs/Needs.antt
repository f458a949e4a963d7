-- How many cells a network needs, and what a refusal says.
use Rattle.std.specs.Prelude.{◌≡◌, ℕ, ◌+◌, ◌<◌, ◌≤◌, List}
use Rattle.pim_graph.specs.Orders.{order}
use Rattle.pim_graph.specs.Peaks.{peak}
use Rattle.pim_nor.specs.GateGraphs.{graph_of}
use Rattle.pim_nor.specs.Network.{NorView}
use Rattle.pim_simpler.specs.declared.refusal.Refusal.{Refusal}
use Rattle.pim_simpler.specs.declared.refusal.Refusal.TheVariants.{TooFewCells, NoMemory}

-- the order in which the gates of a network are executed
abbrev pub order_of : NorView → List ℕ
order_of n = order (graph_of n)

-- the cells that a network needs: those of its inputs, and as many as its order holds at once
abbrev pub needed_of : NorView → ℕ
needed_of n = n.inputs + peak (graph_of n) (order_of n)

-- a refusal for too few cells names the number that is needed, and comes only where the budget is below it
abbrev pub IsRefusalFor : ℕ → ℕ → Refusal → Type 0
IsRefusalFor needed budget (TooFewCells told) = (told ≡ needed) × (budget < needed)
IsRefusalFor needed budget NoMemory = Unit {0}

-- a refusal for too few cells asks for so many at most
abbrev pub AsksAtMost : ℕ → Refusal → Type 0
AsksAtMost most (TooFewCells told) = told ≤ most
AsksAtMost most NoMemory = Unit {0}
