-- The graph of a MAGIC program's NORs, whatever it was compiled from.
use Rattle.std.specs.Prelude.{ℕ, if◌then◌else◌, List, [], ◌∷◌, ◌++◌, length, slice_get, take, Option, Some, None}
use Rattle.pim_graph.specs.Graphs.{GraphView, has}
use Rattle.pim_io.specs.Options.{◌>>=◌}
use Rattle.pim_isa.specs.declared.instr.Instr.{Instr}
use Rattle.pim_isa.specs.declared.instr.Instr.TheVariants.{Init, Nor, Rm3}
use Rattle.pim_isa.specs.Programs.{ProgramView}
use Rattle.pim_isa.specs.Sound.{cells_of}
use Rattle.pim_isa.specs.Touches.{operands}
use Rattle.pim_isa.specs.Writes.{is_nor, last_write, nor_places}

-- the gate that the instruction at this place is, if it is a NOR: its number is how many NORs stand before it
abbrev pub gate_at : List Instr → ℕ → Option ℕ
gate_at is k = slice_get is k >>= λ i. if is_nor i then Some (length (nor_places (take k is))) else None

-- the gate that wrote the cell last, if the last of the instructions that write it is a NOR
abbrev pub last_gate : List Instr → ℕ → Option ℕ
last_gate is c = last_write is c >>= gate_at is

-- a list of gates with one more, if it isn't there
abbrev pub with_gate : List ℕ → Option ℕ → List ℕ
with_gate gates None = gates
with_gate gates (Some gate) = if has gates gate then gates else gates ++ gate ∷ []

-- the gates that wrote the cells last, in the cells' order and each once, behind these
abbrev pub gates_in : List Instr → List ℕ → List ℕ → List ℕ
gates_in is gates [] = gates
gates_in is gates (c ∷ cs) = gates_in is (with_gate gates (last_gate is c)) cs

-- the one gate that a NOR is, by what it reads: the gates that wrote its operands last, of the instructions before it; others are none
abbrev pub kids_at : List Instr → Instr → List (List ℕ)
kids_at before (Init cells) = []
kids_at before (Nor t ins) = gates_in before [] (operands ins) ∷ []
kids_at before (Rm3 p q z) = []

-- the gates of instructions, in order, where others stand before them
abbrev pub kids_from : List Instr → List Instr → List (List ℕ)
kids_from before [] = []
kids_from before (i ∷ is) = kids_at before i ++ kids_from (before ++ i ∷ []) is

-- a gate for each NOR, in order; the roots are the gates that wrote the outputs' cells last
abbrev pub nor_graph_of : ProgramView → GraphView
nor_graph_of p = record { kids = kids_from [] p.instrs; roots = gates_in p.instrs [] (cells_of p.outputs) }
