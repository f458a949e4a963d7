-- The instructions that compute a gate into its cell, whatever that cell held before.
use Rattle.std.specs.Prelude.{ℕ, ◌-◌, ◌*◌, ◌/◌, ◌%◌, ◌==◌, ◌&&◌, nat_le, nat_lt, Bool, if◌then◌else◌, List, [], ◌∷◌, ◌++◌, flat_map, slice_index, Option, Some, None}
use Rattle.pim_aig.specs.Graph.{AigView}
use Rattle.pim_aig.specs.declared.literal.Lit.{Lit}
use Rattle.pim_isa.specs.declared.instr.Operand.{Operand}
use Rattle.pim_isa.specs.declared.instr.Operand.TheVariants as operand
use Rattle.pim_isa.specs.declared.instr.Instr.{Instr}
use Rattle.pim_isa.specs.declared.instr.Instr.TheVariants.{Rm3}
use Rattle.pim_graph.specs.Allotments.{AllotmentView}
use Rattle.pim_isa.specs.PortLists.{input_ports}
use Rattle.pim_isa.specs.Programs.{PortsView, ProgramView}
use Rattle.pim_isa.specs.declared.port.Port.{Port}
use Rattle.pim_isa.specs.declared.target.Target.TheVariants.{Plim}
use Rattle.pim_rm3.specs.declared.gate.Gate.{Gate}
use Rattle.pim_rm3.specs.declared.gate.Gate.TheVariants as gate
use Rattle.pim_rm3.specs.Gates.{gate_of, gates, is_input, taken}

-- the cell that holds the node of a literal, where the gates have these cells: input k stands in cell k
abbrev pub cell_of : ℕ → List ℕ → Lit → ℕ
cell_of inputs cells e = if nat_le (e.0 / 2) inputs then e.0 / 2 - 1 else slice_index cells (2 * (e.0 / 2))

-- the literal is the complement of a node other than the constant one
abbrev pub is_inverted : Lit → Bool
is_inverted e = e.0 % 2 == 1 && nat_lt 0 (e.0 / 2)

-- a plain literal as an operand; both literals of node 0 are constants
abbrev pub operand_of : ℕ → List ℕ → Lit → Operand
operand_of inputs cells e =
    if e.0 / 2 == 0 then (if e.0 == 0 then operand.Zero else operand.One) else operand.Cell (cell_of inputs cells e)

-- an operand on its own cell: what the cell holds stays where the literal is plain, and becomes false where it is not
abbrev pub settled : ℕ → List ℕ → ℕ → Lit → Lit
settled inputs cells z e =
    if nat_lt 0 (e.0 / 2) && (cell_of inputs cells e == z) then (record { 0 = if e.0 % 2 == 1 then 0 else 1 }) else e

-- makes the cell the AND of what it holds and the literal
abbrev pub narrow_by : ℕ → List ℕ → ℕ → Lit → Instr
narrow_by inputs cells z e =
    if is_inverted e then Rm3 operand.Zero (operand.Cell (cell_of inputs cells e)) z else Rm3 (operand_of inputs cells e) operand.One z

-- the same where the literal's cell may be that cell itself
abbrev pub narrow : ℕ → List ℕ → ℕ → Lit → Instr
narrow inputs cells z e = narrow_by inputs cells z (settled inputs cells z e)

-- makes the cell a constant
abbrev pub set_to : Bool → ℕ → Instr
set_to b z = if b then Rm3 operand.One operand.Zero z else Rm3 operand.Zero operand.One z

-- makes the cell the literal
abbrev pub load : ℕ → List ℕ → ℕ → Lit → List Instr
load inputs cells z e =
    if is_inverted e
    then Rm3 operand.One operand.Zero z ∷ Rm3 operand.Zero (operand.Cell (cell_of inputs cells e)) z ∷ []
    else Rm3 operand.Zero operand.One z ∷ Rm3 (operand_of inputs cells e) operand.Zero z ∷ []

-- the instructions of the gate of a literal, on its cell. An AND that takes an operand's cell over narrows it by the other
-- operand; any other one loads the first operand and narrows that by the second
abbrev pub gate_instrs : AigView → List ℕ → ℕ → Option ℕ → ℕ → Gate → List Instr
gate_instrs g cells z over literal (gate.Constant b) = set_to b z ∷ []
gate_instrs g cells z over literal gate.Input = []
gate_instrs g cells z over literal (gate.Not m) = load g.inputs cells z (record { 0 = literal })
gate_instrs g cells z None literal (gate.And x y) = load g.inputs cells z x ++ narrow g.inputs cells z y ∷ []
gate_instrs g cells z (Some over) literal (gate.And x y) = narrow g.inputs cells z (if x.0 == over then y else x) ∷ []

-- the same of a gate of the graph
abbrev pub instrs_at : AigView → List ℕ → ℕ → List Instr
instrs_at g cells l = gate_instrs g cells (slice_index cells l) (taken g l) l (gate_of g l)

-- the instructions of all gates in their order
abbrev pub schedule : AigView → List ℕ → List Instr
schedule g cells = flat_map (instrs_at g cells) (gates g)

-- where an output lies: an input in its cell, and any other literal in that of its gate
abbrev pub output_cell : ℕ → List ℕ → Lit → ℕ
output_cell inputs cells o =
    if is_input inputs o then o.0 / 2 - 1 else slice_index cells o.0

-- a port for each output, in the cell where it lies
abbrev pub output_ports : ℕ → List ℕ → List Lit → List (List ℕ) → List Port
output_ports inputs cells [] labels = []
output_ports inputs cells (o ∷ os) [] = []
output_ports inputs cells (o ∷ os) (label ∷ labels) =
    record { cell = output_cell inputs cells o; label = label } ∷ output_ports inputs cells os labels

-- the whole program, where the gates have the cells of an allotment
abbrev pub program_of : AigView → PortsView → AllotmentView → ProgramView
program_of g ports a = record {
  target = Plim;
  cells = a.width;
  inputs = input_ports 0 ports.inputs;
  outputs = output_ports g.inputs a.cells g.outputs ports.outputs;
  instrs = schedule g a.cells;
}
