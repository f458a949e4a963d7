-- The tidied graph: constants are folded, and nodes that read the same are one.
use Rattle.std.specs.Prelude.{ℕ, suc, ◌+◌, ◌==◌, ◌&&◌, ◌||◌, Bool, if◌then◌else◌, List, [], ◌∷◌, ◌++◌, length, map, Option, Some, None}
use Rattle.pim_aig.specs.Graph.{AigView}
use Rattle.pim_aig.specs.Literals.{complement, plain}
use Rattle.pim_aig.specs.Moving.{kept, moved}
use Rattle.pim_aig.specs.declared.graph.And.{And}
use Rattle.pim_aig.specs.declared.literal.Lit.{Lit}

-- the two nodes read the same two literals, in either order
abbrev pub same_operands : And → And → Bool
same_operands a b = ((a.x.0 == b.x.0) && (a.y.0 == b.y.0)) || ((a.x.0 == b.y.0) && (a.y.0 == b.x.0))

-- the place of the first node that reads the same two literals, and the length where there is none
abbrev pub place_of : List And → And → ℕ
place_of [] a = 0
place_of (b ∷ bs) a = if same_operands b a then 0 else suc (place_of bs a)

-- the literal that the AND of two literals is without a node, if there is one: false where one of them is false or they are
-- complements, the other one where one is true, and either where they are the same
abbrev pub folded : Lit → Lit → Option Lit
folded x y =
    if (x.0 == 0) || (y.0 == 0) then Some (record { 0 = 0 })
    else (if x.0 == 1 then Some y
    else (if y.0 == 1 then Some x
    else (if x.0 == y.0 then Some x
    else (if (complement x).0 == y.0 then Some (record { 0 = 0 })
    else None))))

-- the nodes so far, and the literal of one more
pub record Joined : Type 0 where
  pub ands : List And
  pub lit : Lit

-- the AND of two literals among the nodes of a graph with so many inputs: the literal that it folds to, the node that reads the
-- same, or a new one
abbrev pub joined_by : Option Lit → ℕ → List And → And → Joined
joined_by (Some l) inputs ands a = record { ands = ands; lit = l }
joined_by None inputs ands a = record {
  ands = if place_of ands a == length ands then ands ++ a ∷ [] else ands;
  lit = plain (1 + inputs + place_of ands a);
}

abbrev pub joined : ℕ → List And → And → Joined
joined inputs ands a = joined_by (folded a.x a.y) inputs ands a

-- the new nodes, and the new literal of each old node so far
pub record Tidying : Type 0 where
  pub ands : List And
  pub lits : List Lit

-- the same node with its operands in the new graph
abbrev pub moved_and : List Lit → And → And
moved_and lits a = record { x = moved lits a.x; y = moved lits a.y }

-- after one old node more
abbrev pub after : ℕ → Tidying → And → Tidying
after inputs st a =
    let j = joined inputs st.ands (moved_and st.lits a) in
    record { ands = j.ands; lits = st.lits ++ j.lit ∷ [] }

-- after these old nodes, one after another
abbrev pub tidied_from : ℕ → Tidying → List And → Tidying
tidied_from inputs st [] = st
tidied_from inputs st (a ∷ rest) = tidied_from inputs (after inputs st a) rest

-- before the first one: the constant and the inputs are as they were
abbrev pub begun : ℕ → Tidying
begun inputs = record { ands = []; lits = kept inputs }

-- after all nodes of a graph
abbrev pub tidying : AigView → Tidying
tidying g = tidied_from g.inputs (begun g.inputs) g.ands

-- the whole graph
abbrev pub tidied : AigView → AigView
tidied g = record {
  inputs = g.inputs;
  ands = (tidying g).ands;
  outputs = map (moved (tidying g).lits) g.outputs;
}
