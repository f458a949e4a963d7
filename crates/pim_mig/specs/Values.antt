-- What a majority graph computes.
use Rattle.std.specs.Prelude.{◌&&◌, ◌||◌, Bool, false, List, [], ◌∷◌, ◌++◌}
use Rattle.pim_aig.specs.Values.{literal_value}
use Rattle.pim_aig.specs.declared.literal.Lit.{Lit}
use Rattle.pim_mig.specs.Graph.{MigView}
use Rattle.pim_mig.specs.declared.node.Maj.{Maj}

-- true where two of the three are
abbrev pub majority : Bool → Bool → Bool → Bool
majority a b c = (a && b) || ((a && c) || (b && c))

-- the values of more nodes, each the majority of its operands' values
abbrev pub values_from : List Bool → List Maj → List Bool
values_from values [] = values
values_from values (m ∷ rest) =
    values_from (values ++ majority (literal_value values m.x) (literal_value values m.y) (literal_value values m.z) ∷ []) rest

-- the values of all nodes, where the inputs have these bits: node 0 is false
abbrev pub node_values : MigView → List Bool → List Bool
node_values g bits = values_from (false ∷ bits) g.nodes

-- the value of a literal, where the inputs have these bits
abbrev pub mval : MigView → List Bool → Lit → Bool
mval g bits l = literal_value (node_values g bits) l
