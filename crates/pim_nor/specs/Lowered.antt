-- The network of an and-inverter graph: the gates that its outputs reach.
use Rattle.std.specs.Prelude.{ℕ, Bool, false, List, map, replicate}
use Rattle.pim_aig.specs.Graph.{AigView}
use Rattle.pim_aig.specs.declared.literal.Lit.{Lit}
use Rattle.pim_nor.specs.Leaves.{leaves}
use Rattle.pim_nor.specs.Named.{slots, source, gate_at}
use Rattle.pim_nor.specs.Network.{NorView}
use Rattle.pim_nor.specs.Reached.{mark_all, reached, numbered, numbered_gate, kept}
use Rattle.pim_nor.specs.declared.lowering.Width.{Width}
use Rattle.pim_nor.specs.declared.network.Pin.{Pin}

-- what the outputs read, among all gates
abbrev pub roots : AigView → List Pin
roots g = map (source g.inputs) g.outputs

-- which gates the outputs reach, where the AND nodes have these leaves
abbrev pub marks_of : AigView → (ℕ → List Lit) → List Bool
marks_of g leaves =
    reached (gate_at g leaves) (slots g) (mark_all (replicate (slots g) false) (roots g))

-- the network of these marks: the marked gates, each numbered by how many of them stand before it
abbrev pub network_at : AigView → (ℕ → List Lit) → List Bool → NorView
network_at g leaves marks = record {
  inputs = g.inputs;
  gates = kept (λ s. numbered_gate marks (gate_at g leaves s)) 0 marks;
  outs = map (numbered marks) (roots g);
}

-- the network where the AND nodes have these leaves: the gates that the outputs reach
abbrev pub network_of : AigView → (ℕ → List Lit) → NorView
network_of g leaves = network_at g leaves (marks_of g leaves)

-- the network of a graph, with gates of at most so many operands
abbrev pub nors : AigView → Width → NorView
nors g width = network_of g (leaves g width)
