-- Passes over a majority graph: each makes a new graph, and goes through the needed nodes of the old one in order.
use Rattle.std.specs.Prelude.{ℕ, suc, ◌+◌, ◌%◌, ◌==◌, ◌&&◌, Bool, true, false, if◌then◌else◌, List, [], ◌∷◌, ◌++◌, map, nat_lt}
use Rattle.pim_aig.specs.Literals.{complement}
use Rattle.pim_aig.specs.declared.literal.Lit.{Lit}
use Rattle.pim_mig.specs.Graph.{MigView}
use Rattle.pim_mig.specs.Majs.{begun, Making}
use Rattle.pim_aig.specs.Moving.{moved}
use Rattle.pim_mig.specs.Needs.{is_needed}
use Rattle.pim_mig.specs.Nodes.{made, Made}
use Rattle.pim_mig.specs.declared.node.Maj.{Maj}

-- a node with its operands in the new graph
abbrev pub moved_node : List Lit → Maj → Maj
moved_node lits m = record { x = moved lits m.x; y = moved lits m.y; z = moved lits m.z }

-- what a pass makes of a needed node, from what it has made so far
abbrev pub Step : Type 0
Step = Making → Maj → Made

-- what becomes of a node: one that is not needed has no literal, for which false stands
abbrev pub stepped : Bool → Step → Making → Maj → Made
stepped true step st m = step st m
stepped false step st m = record { nodes = st.nodes; lit = record { 0 = 0 } }

-- after one old node more
abbrev pub after : Step → Bool → Making → Maj → Making
after step needed st m =
    let d = stepped needed step st m in
    record { nodes = d.nodes; lits = st.lits ++ d.lit ∷ [] }

-- after these old nodes, of which the first has number n
abbrev pub passed_from : Step → (ℕ → Bool) → Making → ℕ → List Maj → Making
passed_from step needed st n [] = st
passed_from step needed st n (m ∷ rest) = passed_from step needed (after step (needed n) st m) (suc n) rest

-- after all nodes of a graph
abbrev pub passing : Step → MigView → Making
passing step g = passed_from step (is_needed g) (begun g.inputs) (1 + g.inputs) g.nodes

-- the graph that a pass makes
abbrev pub passed : Step → MigView → MigView
passed step g = record {
  inputs = g.inputs;
  nodes = (passing step g).nodes;
  outputs = map (moved (passing step g).lits) g.outputs;
}

-- ---- the copy
-- the node of the moved operands
abbrev pub plainly : ℕ → Step
plainly inputs st m = made inputs st.nodes (moved_node st.lits m)

-- the needed nodes alone
abbrev pub copy : MigView → MigView
copy g = passed (plainly g.inputs) g

-- ---- the flip pass
-- whether a literal is a complement and no constant, as a number
abbrev pub inverted : Lit → ℕ
inverted l = if nat_lt 1 l.0 && (l.0 % 2 == 1) then 1 else 0

-- how many operands are complemented, constants not counted
abbrev pub inversions : Maj → ℕ
inversions m = inverted m.x + inverted m.y + inverted m.z

-- the node of the complements
abbrev pub opposite : Maj → Maj
opposite m = record { x = complement m.x; y = complement m.y; z = complement m.z }

-- the complement of a literal that is made
abbrev pub turned : Made → Made
turned d = record { nodes = d.nodes; lit = complement d.lit }

-- where at least two operands are complemented, the complement of the node of the three complements, and else the node of the three
abbrev pub flipped_by : Bool → ℕ → List Maj → Maj → Made
flipped_by true inputs nodes m = turned (made inputs nodes (opposite m))
flipped_by false inputs nodes m = made inputs nodes m

abbrev pub flipped : ℕ → Step
flipped inputs st m = flipped_by (nat_lt 1 (inversions (moved_node st.lits m))) inputs st.nodes (moved_node st.lits m)

-- the graph in which at most one operand of each node is complemented, constants not counted
abbrev pub flip : MigView → MigView
flip g = passed (flipped g.inputs) g
