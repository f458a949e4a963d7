-- Small netlists, with their flat graphs and values by computation.
use Rattle.std.specs.Prelude.{◌≡◌, ℕ, Bool, true, false, List, [], ◌∷◌, map, refl}
use Rattle.pim_net.specs.Netlist.{NetView}
use Rattle.pim_net.specs.declared.cover.Bit3.{Bit3}
use Rattle.pim_net.specs.declared.cover.Bit3.TheVariants.{Zero, One, Any}
use Rattle.pim_net.specs.declared.parts.Equation.{Equation}
use Rattle.pim_net.specs.declared.parts.OutRef.{OutRef}
use Rattle.pim_aig.specs.Flat.{ands, flat}
use Rattle.pim_aig.specs.Values.{aval}
use Rattle.pim_aig.specs.declared.literal.Lit.{Lit}
use Rattle.pim_aig.specs.declared.graph.And.{And}

-- a netlist without labels
abbrev net : List ℕ → List Equation → List OutRef → List ℕ → NetView
net inputs equations outputs topo = record {
  inputs = inputs;
  input_labels = [];
  equations = equations;
  outputs = outputs;
  output_labels = [];
  topo = topo;
}

abbrev equation : ℕ → List ℕ → List (List Bit3) → Bool → Equation
equation s ins rows phase = record { sig = s; cover = record { ins = ins; rows = rows; phase = phase } }

abbrev out : ℕ → OutRef
out s = record { sig = s; neg = false }

abbrev lit : ℕ → Lit
lit n = record { 0 = n }

abbrev and : ℕ → ℕ → And
and x y = record { x = lit x; y = lit y }

-- an exclusive or: a node for each row, and one that joins the rows' complements
abbrev exclusive_or : NetView
exclusive_or =
    net (0 ∷ 1 ∷ []) (equation 2 (0 ∷ 1 ∷ []) ((One ∷ Zero ∷ []) ∷ (Zero ∷ One ∷ []) ∷ []) true ∷ []) (out 2 ∷ []) (0 ∷ [])

exclusive_or-flat : flat exclusive_or ≡ record { inputs = 2; ands = and 2 5 ∷ and 3 4 ∷ and 7 9 ∷ []; outputs = lit 11 ∷ [] }
exclusive_or-flat = refl

exclusive_or-ands : ands exclusive_or ≡ 3
exclusive_or-ands = refl

exclusive_or-differ : map (aval (flat exclusive_or) (true ∷ false ∷ [])) (flat exclusive_or).outputs ≡ true ∷ []
exclusive_or-differ = refl

exclusive_or-same : map (aval (flat exclusive_or) (true ∷ true ∷ [])) (flat exclusive_or).outputs ≡ false ∷ []
exclusive_or-same = refl

-- an off-set cover of three columns, one of which each row leaves out
abbrev off_set : NetView
off_set =
    net (0 ∷ 1 ∷ 2 ∷ []) (equation 3 (0 ∷ 1 ∷ 2 ∷ []) ((One ∷ Any ∷ Zero ∷ []) ∷ (Any ∷ One ∷ One ∷ []) ∷ []) false ∷ []) (out 3 ∷ []) (0 ∷ [])

off_set-flat : flat off_set ≡ record { inputs = 3; ands = and 2 7 ∷ and 4 6 ∷ and 9 11 ∷ []; outputs = lit 12 ∷ [] }
off_set-flat = refl

off_set-value : map (aval (flat off_set) (false ∷ true ∷ false ∷ [])) (flat off_set).outputs ≡ true ∷ []
off_set-value = refl

-- constants: a cover without rows is false, and one whose row asks nothing is true; neither makes a node
constants-flat : flat (net [] (equation 0 [] [] true ∷ equation 1 [] ([] ∷ []) true ∷ []) (out 0 ∷ out 1 ∷ []) (0 ∷ 1 ∷ [])) ≡ record { inputs = 0; ands = []; outputs = lit 0 ∷ lit 1 ∷ [] }
constants-flat = refl

-- a row that asks nothing of its columns holds everywhere
nothing_asked : flat (net (0 ∷ []) (equation 1 (0 ∷ []) ((Any ∷ []) ∷ []) true ∷ []) (out 1 ∷ []) (0 ∷ [])) ≡ record { inputs = 1; ands = []; outputs = lit 1 ∷ [] }
nothing_asked = refl

-- a buffer and an inverter make no node, and an output may be an input
buffers-flat : flat (net (0 ∷ []) (equation 1 (0 ∷ []) ((One ∷ []) ∷ []) true ∷ equation 2 (0 ∷ []) ((Zero ∷ []) ∷ []) true ∷ []) (out 0 ∷ out 1 ∷ out 2 ∷ record { sig = 2; neg = true } ∷ []) (0 ∷ 1 ∷ [])) ≡ record { inputs = 1; ands = []; outputs = lit 2 ∷ lit 2 ∷ lit 3 ∷ lit 2 ∷ [] }
buffers-flat = refl

-- equations come by depth: the second one, which the first one reads, makes its node first
by_depth-flat : flat (net (0 ∷ 1 ∷ []) (equation 2 (3 ∷ 0 ∷ []) ((One ∷ One ∷ []) ∷ []) true ∷ equation 3 (0 ∷ 1 ∷ []) ((Zero ∷ One ∷ []) ∷ []) true ∷ []) (out 2 ∷ []) (1 ∷ 0 ∷ [])) ≡ record { inputs = 2; ands = and 3 4 ∷ and 6 2 ∷ []; outputs = lit 8 ∷ [] }
by_depth-flat = refl

-- a column that stands twice: the node of a literal with itself, and that with its complement, which is never true
abbrev repeated : List Bit3 → NetView
repeated row = net (0 ∷ []) (equation 1 (0 ∷ 0 ∷ []) (row ∷ []) true ∷ []) (out 1 ∷ []) (0 ∷ [])

with_itself : flat (repeated (One ∷ One ∷ [])) ≡ record { inputs = 1; ands = and 2 2 ∷ []; outputs = lit 4 ∷ [] }
with_itself = refl

with_complement : map (aval (flat (repeated (One ∷ Zero ∷ []))) (true ∷ [])) (flat (repeated (One ∷ Zero ∷ []))).outputs ≡ false ∷ []
with_complement = refl

-- three columns make two nodes, from left to right
three-flat : flat (net (0 ∷ 1 ∷ 2 ∷ []) (equation 3 (0 ∷ 1 ∷ 2 ∷ []) ((One ∷ One ∷ Zero ∷ []) ∷ []) true ∷ []) (out 3 ∷ []) (0 ∷ [])) ≡ record { inputs = 3; ands = and 2 4 ∷ and 8 7 ∷ []; outputs = lit 10 ∷ [] }
three-flat = refl
