-- What an and-inverter graph computes.
use Rattle.std.specs.Prelude.{◌/◌, ◌%◌, ◌==◌, ◌&&◌, if◌then◌else◌, Bool, false, not, List, [], ◌∷◌, ◌++◌, slice_index_or}
use Rattle.pim_aig.specs.Graph.{AigView}
use Rattle.pim_aig.specs.declared.literal.Lit.{Lit}
use Rattle.pim_aig.specs.declared.graph.And.{And}

-- the value of a literal, where the nodes have these values
abbrev pub literal_value : List Bool → Lit → Bool
literal_value values l =
    if l.0 % 2 == 1 then not (slice_index_or values (l.0 / 2) false) else slice_index_or values (l.0 / 2) false

-- the values of more nodes, each the AND of its operands' values
abbrev pub values_from : List Bool → List And → List Bool
values_from values [] = values
values_from values (a ∷ rest) =
    values_from (values ++ (literal_value values a.x && literal_value values a.y) ∷ []) rest

-- the values of all nodes, where the inputs have these bits: node 0 is false
abbrev pub node_values : AigView → List Bool → List Bool
node_values g bits = values_from (false ∷ bits) g.ands

-- the value of a literal, where the inputs have these bits
abbrev pub aval : AigView → List Bool → Lit → Bool
aval g bits l = literal_value (node_values g bits) l
