-- How many cycles the gates of a graph take, and how many cells.
use Rattle.std.specs.Prelude.{ℕ, ◌+◌, ◌/◌, ◌%◌, ◌==◌, ◌||◌, Bool, Option, Some, None, count_by, length, map, sum_by}
use Rattle.pim_aig.specs.Graph.{AigView}
use Rattle.pim_graph.specs.Allotments.{cells_along}
use Rattle.pim_graph.specs.Peaks.{peak}
use Rattle.pim_rm3.specs.declared.gate.Gate.{Gate}
use Rattle.pim_rm3.specs.declared.gate.Gate.TheVariants as gate
use Rattle.pim_rm3.specs.Gates.{gate_graph, gate_of, gates, taken}

-- a constant takes one cycle, a complement two, and an AND one where it takes a cell over, else three
abbrev pub cost_of : Option ℕ → Gate → ℕ
cost_of over (gate.Constant b) = 1
cost_of over gate.Input = 0
cost_of over (gate.Not m) = 2
cost_of None (gate.And x y) = 3
cost_of (Some c) (gate.And x y) = 1

-- the cycles of all gates that the outputs reach
abbrev pub rm3_cost : AigView → ℕ
rm3_cost g = sum_by (λ l. cost_of (taken g l) (gate_of g l)) (gates g)

-- the cells of the inputs, and as many as the order of the gates holds values at once
abbrev pub needed_of : AigView → ℕ
needed_of g = g.inputs + peak (gate_graph g) (gates g)

-- the cells of the schedule: those of the inputs, and as many as are in use at once, where some take another's over
abbrev pub cells_of : AigView → ℕ
cells_of g = g.inputs + cells_along (gate_graph g) (gates g) (map (taken g) (gates g))

-- the literal is a complement or a constant, and so takes a gate of its own where it is an output
abbrev pub is_made : ℕ → Bool
is_made l = (l % 2 == 1) || (l / 2 == 0)

-- how many distinct outputs are so
abbrev pub made_outputs : AigView → ℕ
made_outputs g = count_by is_made (gate_graph g).roots

-- the graph needs so many cells at most: one for each input, each AND node, and each distinct output that is a complement or a
-- constant
abbrev pub coarse_of : AigView → ℕ
coarse_of g = g.inputs + length g.ands + made_outputs g
