-- Worked examples of the definitions, by computation: the exclusive or in five cells, and cells that are taken over.
use Rattle.std.proofs.Common.{◌≡◌, ℕ, true, false, List, [], ◌∷◌, map, Some, None, refl}
use Rattle.pim_aig.specs.Graph.{AigView}
use Rattle.pim_aig.specs.declared.graph.And.{And}
use Rattle.pim_aig.specs.declared.literal.Lit.{Lit}
use Rattle.pim_isa.specs.Programs.{PortsView}
use Rattle.pim_isa.specs.Steps.{exec}
use Rattle.pim_isa.specs.declared.port.Port.{Port}
use Rattle.pim_isa.specs.declared.target.Target.TheVariants.{Plim}
use Rattle.pim_isa.specs.declared.instr.Operand.TheVariants.{Zero, One, Cell}
use Rattle.pim_isa.specs.declared.instr.Instr.{Instr}
use Rattle.pim_isa.specs.declared.instr.Instr.TheVariants.{Rm3}
use Rattle.pim_rm3.specs.Costs.{coarse_of, made_outputs, needed_of, rm3_cost}
use Rattle.pim_rm3.specs.Gates.{gates, taken}
use Rattle.pim_rm3.specs.Schedules.{program_of, schedule}

abbrev lit : ℕ → Lit
lit l = record { 0 = l }

abbrev meet : ℕ → ℕ → And
meet x y = record { x = lit x; y = lit y }

-- ---- the exclusive or of two inputs: three ANDs, none of which is read plain, and the complement of the last
abbrev xor : AigView
xor = record { inputs = 2; ands = meet 2 5 ∷ meet 3 4 ∷ meet 7 9 ∷ []; outputs = lit 11 ∷ [] }

xor_gates : gates xor ≡ 6 ∷ 8 ∷ 10 ∷ 11 ∷ []
xor_gates = refl

xor_takes_none : map (taken xor) (gates xor) ≡ None ∷ None ∷ None ∷ None ∷ []
xor_takes_none = refl

xor_cost : rm3_cost xor ≡ 11
xor_cost = refl

-- the third AND is held beside the two that it reads
xor_needs : needed_of xor ≡ 5
xor_needs = refl

xor_coarse : coarse_of xor ≡ 6
xor_coarse = refl

-- the first AND's cell is taken again for the complement
abbrev xor_cells : List ℕ
xor_cells = 0 ∷ 0 ∷ 0 ∷ 0 ∷ 0 ∷ 0 ∷ 2 ∷ 0 ∷ 3 ∷ 0 ∷ 4 ∷ 2 ∷ []

abbrev xor_instrs : List Instr
xor_instrs =
    Rm3 Zero One 2 ∷ Rm3 (Cell 0) Zero 2 ∷ Rm3 Zero (Cell 1) 2
    ∷ Rm3 One Zero 3 ∷ Rm3 Zero (Cell 0) 3 ∷ Rm3 (Cell 1) One 3
    ∷ Rm3 One Zero 4 ∷ Rm3 Zero (Cell 2) 4 ∷ Rm3 Zero (Cell 3) 4
    ∷ Rm3 One Zero 2 ∷ Rm3 Zero (Cell 4) 2 ∷ []

abbrev port : ℕ → ℕ → Port
port c letter = record { cell = c; label = letter ∷ [] }

abbrev xor_ports : PortsView
xor_ports = record { inputs = (97 ∷ []) ∷ (98 ∷ []) ∷ []; outputs = (102 ∷ []) ∷ [] }

xor_program : program_of xor xor_ports (record { cells = xor_cells; width = 5 })
    ≡ record { target = Plim; cells = 5; inputs = port 0 97 ∷ port 1 98 ∷ []; outputs = port 2 102 ∷ []; instrs = xor_instrs }
xor_program = refl

-- it gives the exclusive or, from cells that hold ones and from cells that hold zeros
xor_of_ones : exec xor_instrs (true ∷ false ∷ true ∷ true ∷ true ∷ []) ≡ true ∷ false ∷ true ∷ false ∷ false ∷ []
xor_of_ones = refl

xor_of_zeros : exec xor_instrs (true ∷ true ∷ false ∷ false ∷ false ∷ []) ≡ true ∷ true ∷ false ∷ false ∷ true ∷ []
xor_of_zeros = refl

-- ---- cells that are taken over: the AND of three inputs, where other outputs read what lies between
abbrev three : List Lit → AigView
three outputs = record { inputs = 3; ands = meet 2 4 ∷ meet 8 6 ∷ []; outputs = outputs }

-- the first AND is read once: its cell is narrowed further
once_taken : taken (three (lit 10 ∷ [])) 10 ≡ Some 8
once_taken = refl

once_cost : rm3_cost (three (lit 10 ∷ [])) ≡ 4
once_cost = refl

once_instrs : schedule (three (lit 10 ∷ [])) (0 ∷ 0 ∷ 0 ∷ 0 ∷ 0 ∷ 0 ∷ 0 ∷ 0 ∷ 3 ∷ 0 ∷ 3 ∷ 0 ∷ [])
    ≡ Rm3 Zero One 3 ∷ Rm3 (Cell 0) Zero 3 ∷ Rm3 (Cell 1) One 3 ∷ Rm3 (Cell 2) One 3 ∷ []
once_instrs = refl

-- it is an output itself
output_stays : taken (three (lit 8 ∷ lit 10 ∷ [])) 10 ≡ None
output_stays = refl

output_cost : rm3_cost (three (lit 8 ∷ lit 10 ∷ [])) ≡ 6
output_cost = refl

-- its complement is an output, which reads it too
inverted_stays : taken (three (lit 9 ∷ lit 10 ∷ [])) 10 ≡ None
inverted_stays = refl

inverted_cost : rm3_cost (three (lit 9 ∷ lit 10 ∷ [])) ≡ 8
inverted_cost = refl

inverted_made : made_outputs (three (lit 9 ∷ lit 10 ∷ lit 9 ∷ [])) ≡ 1
inverted_made = refl

-- two ANDs read it
two_readers : taken (record { inputs = 3; ands = meet 2 4 ∷ meet 8 6 ∷ meet 8 10 ∷ []; outputs = lit 12 ∷ [] }) 10 ≡ None
two_readers = refl

-- ---- a node that its one reader reads twice, and again with its complement
abbrev twice : AigView
twice = record { inputs = 2; ands = meet 2 4 ∷ meet 6 6 ∷ meet 8 9 ∷ []; outputs = lit 10 ∷ [] }

twice_taken : map (taken twice) (gates twice) ≡ None ∷ Some 6 ∷ Some 8 ∷ []
twice_taken = refl

-- what the cell holds stays, and then becomes false
twice_instrs : schedule twice (0 ∷ 0 ∷ 0 ∷ 0 ∷ 0 ∷ 0 ∷ 2 ∷ 0 ∷ 2 ∷ 0 ∷ 2 ∷ 0 ∷ [])
    ≡ Rm3 Zero One 2 ∷ Rm3 (Cell 0) Zero 2 ∷ Rm3 (Cell 1) One 2 ∷ Rm3 One One 2 ∷ Rm3 Zero One 2 ∷ []
twice_instrs = refl

-- ---- constants and inputs as outputs: a constant is a gate, an input is none
abbrev wires : AigView
wires = record { inputs = 1; ands = []; outputs = lit 1 ∷ lit 2 ∷ lit 0 ∷ lit 1 ∷ [] }

wires_gates : gates wires ≡ 1 ∷ 0 ∷ []
wires_gates = refl

wires_instrs : schedule wires (2 ∷ 1 ∷ 0 ∷ 0 ∷ []) ≡ Rm3 One Zero 1 ∷ Rm3 Zero One 2 ∷ []
wires_instrs = refl

wires_need : needed_of wires ≡ 3
wires_need = refl

wires_coarse : coarse_of wires ≡ 3
wires_coarse = refl
