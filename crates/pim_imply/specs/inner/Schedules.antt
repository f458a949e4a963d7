-- Inner: the instructions that compute a gate into its cell, whatever that cell held before.
use Rattle.std.specs.Prelude.{ℕ, ◌-◌, ◌/◌, if◌then◌else◌, List, [], ◌∷◌, flat_map, map, slice_index}
use Rattle.pim_aig.specs.Graph.{AigView}
use Rattle.pim_aig.specs.declared.literal.Lit.{Lit}
use Rattle.pim_graph.specs.Allotments.{AllotmentView}
use Rattle.pim_isa.specs.PortLists.{input_ports}
use Rattle.pim_isa.specs.Programs.{PortsView}
use Rattle.pim_isa.specs.declared.port.Port.{Port}
use Rattle.pim_imply.specs.declared.instr.ImplyInstr.{ImplyInstr}
use Rattle.pim_imply.specs.declared.instr.ImplyInstr.TheVariants.{False, Imp}
use Rattle.pim_imply.specs.Gates.{gates, is_input, operands, turned}
use Rattle.pim_imply.specs.Programs.{ImplyView}

-- the cell that holds a literal, where the gates have these cells: input k stands in cell k
abbrev pub cell_of : AigView → List ℕ → ℕ → ℕ
cell_of g cells l = if is_input g l then l / 2 - 1 else slice_index cells (turned l)

-- makes the cell z whether not all of these cells hold true
abbrev pub nand_instrs : ℕ → List ℕ → List ImplyInstr
nand_instrs z sources = False z ∷ map (λ c. Imp c z) sources

-- the instructions of a gate, on its cell
abbrev pub gate_instrs : AigView → List ℕ → ℕ → List ImplyInstr
gate_instrs g cells gate = nand_instrs (slice_index cells gate) (map (cell_of g cells) (operands g (turned gate)))

-- the instructions of all gates in their order
abbrev pub schedule : AigView → List ℕ → List ImplyInstr
schedule g cells = flat_map (gate_instrs g cells) (gates g)

-- a port for each output, in the cell where it lies
abbrev pub output_ports : AigView → List ℕ → List Lit → List (List ℕ) → List Port
output_ports g cells [] labels = []
output_ports g cells (o ∷ os) [] = []
output_ports g cells (o ∷ os) (label ∷ labels) =
    record { cell = cell_of g cells o.0; label = label } ∷ output_ports g cells os labels

-- the whole program, where the gates have the cells of an allotment
abbrev pub program_of : AigView → PortsView → AllotmentView → ImplyView
program_of g ports a = record {
  cells = a.width;
  inputs = input_ports 0 ports.inputs;
  outputs = output_ports g a.cells g.outputs ports.outputs;
  instrs = schedule g a.cells;
}
