-- Small graphs, with their networks at both widths by computation.
use Rattle.std.specs.Prelude.{◌≡◌, ℕ, true, List, [], ◌∷◌, refl}
use Rattle.std.proofs.Common.{inl, inr, arith}
use Rattle.pim_aig.specs.Graph.{AigView}
use Rattle.pim_aig.specs.declared.literal.Lit.{Lit}
use Rattle.pim_aig.specs.declared.graph.And.{And}
use Rattle.pim_graph.specs.Graphs.{GraphView}
use Rattle.pim_graph.specs.Orders.{order, IsReached}
use Rattle.pim_graph.specs.Orders.IsReached.{as_root, as_child}
use Rattle.pim_graph.specs.Peaks.{peak}
use Rattle.pim_nor.specs.GateGraphs.{graph_of}
use Rattle.pim_nor.specs.Leaves.{is_single, leaves}
use Rattle.pim_nor.specs.Lowered.{nors}
use Rattle.pim_nor.specs.Network.{NorView, IsRead, nor_count}
use Rattle.pim_nor.specs.declared.lowering.Width.{Width}
use Rattle.pim_nor.specs.declared.lowering.Width.TheVariants.{Two, Four}
use Rattle.pim_nor.specs.declared.network.Gate.{Gate}
use Rattle.pim_nor.specs.declared.network.Gate.TheVariants.{One, Not, Nor, Nor3, Nor4}
use Rattle.pim_nor.specs.declared.network.Pin.TheVariants.{Input, Gate as Place}

abbrev lit : ℕ → Lit
lit n = record { 0 = n }

abbrev and : ℕ → ℕ → And
and x y = record { x = lit x; y = lit y }

-- false and true as outputs: the cell that is left at one, and its NOT
constants : (w : Width) → nors (record { inputs = 0; ands = []; outputs = lit 0 ∷ lit 1 ∷ [] }) w ≡ record { inputs = 0; gates = One ∷ Not (Place 0) ∷ []; outs = Place 1 ∷ Place 0 ∷ [] }
constants w = refl

-- true alone: no gate but the constant one, which counts as no NOR
true_alone : nors (record { inputs = 0; ands = []; outputs = lit 1 ∷ [] }) Two ≡ record { inputs = 0; gates = One ∷ []; outs = Place 0 ∷ [] }
true_alone = refl

no_nor : nor_count (One ∷ []) ≡ 0
no_nor = refl

-- an input as an output is no gate, and its complement is a NOT
inputs_out : (w : Width) → nors (record { inputs = 2; ands = []; outputs = lit 2 ∷ lit 5 ∷ [] }) w ≡ record { inputs = 2; gates = Not (Input 1) ∷ []; outs = Input 0 ∷ Place 0 ∷ [] }
inputs_out w = refl

-- the AND of a literal with itself reads it once
same_twice : nors (record { inputs = 1; ands = and 2 2 ∷ []; outputs = lit 4 ∷ [] }) Two ≡ record { inputs = 1; gates = Not (Input 0) ∷ Not (Place 0) ∷ []; outs = Place 1 ∷ [] }
unfolding leaves
same_twice = refl

-- the AND of a literal with its complement reads both
both_signs : nors (record { inputs = 1; ands = and 2 3 ∷ []; outputs = lit 4 ∷ [] }) Four ≡ record { inputs = 1; gates = Not (Input 0) ∷ Nor (Place 0) (Input 0) ∷ []; outs = Place 1 ∷ [] }
unfolding leaves
both_signs = refl

-- node 3 is the AND of the inputs, and node 4 that of node 3 and the first input
abbrev repeated : AigView
repeated = record { inputs = 2; ands = and 2 4 ∷ and 6 2 ∷ []; outputs = lit 8 ∷ [] }

-- node 3 gives way to its operands, and the first input, which then stands twice, is read once
repeated_leaf : leaves repeated Four 4 ≡ lit 2 ∷ lit 4 ∷ []
unfolding leaves
repeated_leaf = refl

repeated_four : nors repeated Four ≡ record { inputs = 2; gates = Not (Input 1) ∷ Not (Input 0) ∷ Nor (Place 1) (Place 0) ∷ []; outs = Place 2 ∷ [] }
unfolding leaves
repeated_four = refl

repeated_two : nors repeated Two ≡ record { inputs = 2; gates = Not (Input 1) ∷ Not (Input 0) ∷ Nor (Place 1) (Place 0) ∷ Not (Place 2) ∷ Nor (Place 3) (Place 1) ∷ []; outs = Place 4 ∷ [] }
unfolding leaves
repeated_two = refl

-- a node that two nodes read doesn't give way, nor one that an output is of
shared_node : leaves (record { inputs = 2; ands = and 2 4 ∷ and 6 2 ∷ and 6 4 ∷ []; outputs = lit 8 ∷ lit 10 ∷ [] }) Four 4 ≡ lit 6 ∷ lit 2 ∷ []
unfolding leaves
shared_node = refl

output_node : leaves (record { inputs = 2; ands = and 2 4 ∷ and 6 2 ∷ []; outputs = lit 7 ∷ lit 8 ∷ [] }) Four 4 ≡ lit 6 ∷ lit 2 ∷ []
unfolding leaves
output_node = refl

-- nor one that a node reads twice, nor a complement
read_twice : leaves (record { inputs = 2; ands = and 2 4 ∷ and 6 6 ∷ []; outputs = lit 8 ∷ [] }) Four 4 ≡ lit 6 ∷ []
unfolding leaves
read_twice = refl

complemented : leaves (record { inputs = 2; ands = and 2 4 ∷ and 7 2 ∷ []; outputs = lit 8 ∷ [] }) Four 4 ≡ lit 7 ∷ lit 2 ∷ []
unfolding leaves
complemented = refl

singles : is_single repeated 3 ≡ true
singles = refl

-- what was put in may give way next, and a list of four is full: node 7 is the AND of two, nodes 6 and 8 of two each
abbrev tree : AigView
tree = record { inputs = 5; ands = and 2 4 ∷ and 12 6 ∷ and 8 10 ∷ and 14 16 ∷ []; outputs = lit 18 ∷ [] }

first_first : leaves tree Four 9 ≡ lit 2 ∷ lit 4 ∷ lit 6 ∷ lit 16 ∷ []
unfolding leaves
first_first = refl

-- the later operand gives way in its place
in_its_place : leaves (record { inputs = 3; ands = and 2 4 ∷ and 6 8 ∷ []; outputs = lit 10 ∷ [] }) Four 5 ≡ lit 6 ∷ lit 2 ∷ lit 4 ∷ []
unfolding leaves
in_its_place = refl

-- a chain of four ANDs of five inputs
abbrev chain_of_four : AigView
chain_of_four = record { inputs = 5; ands = and 2 4 ∷ and 12 6 ∷ and 14 8 ∷ and 16 10 ∷ []; outputs = lit 18 ∷ [] }

chain_four : (nors chain_of_four Four).gates ≡ Not (Input 4) ∷ Not (Input 3) ∷ Not (Input 2) ∷ Not (Input 1) ∷ Not (Input 0) ∷ Nor (Place 4) (Place 3) ∷ Not (Place 5) ∷ Nor4 (Place 6) (Place 2) (Place 1) (Place 0) ∷ []
unfolding leaves
chain_four = refl

chain_two : nor_count (nors chain_of_four Two).gates ≡ 12
unfolding leaves
chain_two = refl

-- a chain of six ANDs of seven inputs
abbrev chain_of_six : AigView
chain_of_six = record { inputs = 7; ands = and 2 4 ∷ and 16 6 ∷ and 18 8 ∷ and 20 10 ∷ and 22 12 ∷ and 24 14 ∷ []; outputs = lit 26 ∷ [] }

chain_six : (nors chain_of_six Four).gates ≡ Not (Input 6) ∷ Not (Input 5) ∷ Not (Input 4) ∷ Not (Input 3) ∷ Not (Input 2) ∷ Not (Input 1) ∷ Not (Input 0) ∷ Nor4 (Place 6) (Place 5) (Place 4) (Place 3) ∷ Not (Place 7) ∷ Nor4 (Place 8) (Place 2) (Place 1) (Place 0) ∷ []
unfolding leaves
chain_six = refl

-- the exclusive or of two inputs, the same at both widths
abbrev exclusive_or : AigView
exclusive_or = record { inputs = 2; ands = and 2 5 ∷ and 3 4 ∷ and 7 9 ∷ []; outputs = lit 11 ∷ [] }

abbrev exclusive_or_nors : NorView
exclusive_or_nors = record { inputs = 2; gates = Not (Input 1) ∷ Not (Input 0) ∷ Nor (Place 1) (Input 1) ∷ Nor (Input 0) (Place 0) ∷ Nor (Place 2) (Place 3) ∷ Not (Place 4) ∷ []; outs = Place 5 ∷ [] }

exclusive_or_two : nors exclusive_or Two ≡ exclusive_or_nors
unfolding leaves
exclusive_or_two = refl

exclusive_or_four : nors exclusive_or Four ≡ exclusive_or_nors
unfolding leaves
exclusive_or_four = refl

exclusive_or_graph : graph_of exclusive_or_nors ≡ record { kids = [] ∷ [] ∷ (1 ∷ []) ∷ (0 ∷ []) ∷ (2 ∷ 3 ∷ []) ∷ (4 ∷ []) ∷ []; roots = 5 ∷ [] }
exclusive_or_graph = refl

-- with three values at once it takes five cells
exclusive_or_order : order (graph_of exclusive_or_nors) ≡ 1 ∷ 2 ∷ 0 ∷ 3 ∷ 4 ∷ 5 ∷ []
exclusive_or_order = refl

exclusive_or_peak : peak (graph_of exclusive_or_nors) (1 ∷ 2 ∷ 0 ∷ 3 ∷ 4 ∷ 5 ∷ []) ≡ 3
exclusive_or_peak = refl

-- a gate that is read twice is one child, an output's input is no root, and a root that repeats is one
abbrev doubled : NorView
doubled = record { inputs = 1; gates = Not (Input 0) ∷ Nor3 (Place 0) (Input 0) (Place 0) ∷ []; outs = Place 1 ∷ Input 0 ∷ Place 0 ∷ Place 1 ∷ [] }

doubled_graph : graph_of doubled ≡ record { kids = [] ∷ (0 ∷ []) ∷ []; roots = 1 ∷ 0 ∷ [] }
doubled_graph = refl

-- gate 1 is an output's, and gate 0 is read by gate 1 and by an output
output_read : IsRead doubled 1
output_read = inl (0, omega arith, refl)

gate_read : IsRead doubled 0
gate_read = inr (1, omega arith, (0, omega arith, refl))

-- the roots reach gate 0 by way of gate 1
doubled_reached : IsReached (graph_of doubled) 0
doubled_reached = as_child {reader = 1} (as_root refl) refl

-- a full adder: the sum, and then the carry
abbrev full_adder : AigView
full_adder = record {
  inputs = 3;
  ands = and 2 5 ∷ and 8 7 ∷ and 3 4 ∷ and 12 7 ∷ and 3 5 ∷ and 16 6 ∷ and 2 4 ∷ and 20 6 ∷ and 11 15 ∷ and 24 19 ∷ and 26 23 ∷ and 2 4 ∷ and 2 6 ∷ and 4 6 ∷ and 31 33 ∷ and 36 35 ∷ [];
  outputs = lit 29 ∷ lit 39 ∷ [];
}

adder_two : nor_count (nors full_adder Two).gates ≡ 28
unfolding leaves
adder_two = refl

abbrev adder_gates : List Gate
adder_gates =
    Not (Input 2) ∷ Not (Input 1) ∷ Not (Input 0) ∷ Nor3 (Place 2) (Input 1) (Input 2) ∷ Nor3 (Input 0) (Place 1) (Input 2) ∷ Nor3 (Input 0) (Input 1) (Place 0) ∷ Nor3 (Place 2) (Place 1) (Place 0) ∷ Nor4 (Place 3) (Place 4) (Place 5) (Place 6) ∷ Not (Place 7) ∷ Nor (Place 2) (Place 1) ∷ Nor (Place 2) (Place 0) ∷ Nor (Place 1) (Place 0) ∷ Nor3 (Place 9) (Place 10) (Place 11) ∷ Not (Place 12) ∷ []

adder_four : nors full_adder Four ≡ record { inputs = 3; gates = adder_gates; outs = Place 8 ∷ Place 13 ∷ [] }
unfolding leaves
adder_four = refl

abbrev adder_graph : GraphView
adder_graph = graph_of (record { inputs = 3; gates = adder_gates; outs = Place 8 ∷ Place 13 ∷ [] })

-- with eight values at once it takes eleven cells at width four, and nine with six values at once at width two
adder_order : order adder_graph ≡ 2 ∷ 1 ∷ 0 ∷ 6 ∷ 3 ∷ 4 ∷ 5 ∷ 7 ∷ 8 ∷ 9 ∷ 10 ∷ 11 ∷ 12 ∷ 13 ∷ []
adder_order = refl

adder_peak : peak adder_graph (2 ∷ 1 ∷ 0 ∷ 6 ∷ 3 ∷ 4 ∷ 5 ∷ 7 ∷ 8 ∷ 9 ∷ 10 ∷ 11 ∷ 12 ∷ 13 ∷ []) ≡ 8
adder_peak = refl

adder_peak_two : peak (graph_of (nors full_adder Two)) (order (graph_of (nors full_adder Two))) ≡ 6
unfolding leaves
adder_peak_two = refl
