-- The majority graph of an and-inverter graph: each AND is the majority of its operands and false.
use Rattle.std.specs.Prelude.{ℕ, List, [], ◌∷◌, ◌++◌, map}
use Rattle.pim_aig.specs.Graph.{AigView}
use Rattle.pim_aig.specs.Moving.{kept, moved}
use Rattle.pim_aig.specs.declared.graph.And.{And}
use Rattle.pim_aig.specs.declared.literal.Lit.{Lit}
use Rattle.pim_mig.specs.Graph.{MigView}
use Rattle.pim_mig.specs.Nodes.{made}
use Rattle.pim_mig.specs.declared.node.Maj.{Maj}

-- the nodes of a new graph, and the literal there of each old node so far
pub record Making : Type 0 where
  pub nodes : List Maj
  pub lits : List Lit

-- before the first node: the constant and the inputs are as they were
abbrev pub begun : ℕ → Making
begun inputs = record { nodes = []; lits = kept inputs }

-- an AND as a majority
abbrev pub maj_of : List Lit → And → Maj
maj_of lits a = record { x = moved lits a.x; y = moved lits a.y; z = record { 0 = 0 } }

-- after one AND more
abbrev pub after : ℕ → Making → And → Making
after inputs st a =
    let m = made inputs st.nodes (maj_of st.lits a) in
    record { nodes = m.nodes; lits = st.lits ++ m.lit ∷ [] }

-- after these ANDs, one after another
abbrev pub majs_from : ℕ → Making → List And → Making
majs_from inputs st [] = st
majs_from inputs st (a ∷ rest) = majs_from inputs (after inputs st a) rest

-- after all ANDs of a graph
abbrev pub making : AigView → Making
making g = majs_from g.inputs (begun g.inputs) g.ands

-- the whole graph
abbrev pub majs : AigView → MigView
majs g = record {
  inputs = g.inputs;
  nodes = (making g).nodes;
  outputs = map (moved (making g).lits) g.outputs;
}
