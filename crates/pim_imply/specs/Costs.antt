-- How many cycles the gates of a graph take, and how many cells.
use Rattle.std.specs.Prelude.{ℕ, ◌+◌, length, sum_by}
use Rattle.pim_aig.specs.Graph.{AigView}
use Rattle.pim_graph.specs.Peaks.{peak}
use Rattle.pim_imply.specs.Gates.{gates, imply_graph, operands, turned}

-- one cycle for each gate that the outputs reach, and one for each of its operands
abbrev pub impcost : AigView → ℕ
impcost g = sum_by (λ gate. 1 + length (operands g (turned gate))) (gates g)

-- the cells of the inputs, and as many as the order of the gates holds values at once
abbrev pub needed_of : AigView → ℕ
needed_of g = g.inputs + peak (imply_graph g) (gates g)
