-- The graph of a network's gates.
use Rattle.std.specs.Prelude.{ℕ, ◌++◌, if◌then◌else◌, List, [], ◌∷◌, fold, map}
use Rattle.pim_graph.specs.Graphs.{GraphView, has}
use Rattle.pim_nor.specs.declared.network.Pin.{Pin}
use Rattle.pim_nor.specs.declared.network.Pin.TheVariants.{Input, Gate as Place}
use Rattle.pim_nor.specs.declared.network.Gate.{Gate}
use Rattle.pim_nor.specs.Network.{NorView, pins}

-- the gates with that of a pin at the end, unless it is there already; an input is no gate
abbrev pub with_gate : List ℕ → Pin → List ℕ
with_gate gates (Input j) = gates
with_gate gates (Place i) = if has gates i then gates else gates ++ i ∷ []

-- the gates of some pins in order, each once
abbrev pub gates_among : List Pin → List ℕ
gates_among ps = fold with_gate [] ps

-- the gates that a gate reads, in the order of its operands
abbrev pub gates_read : Gate → List ℕ
gates_read gate = gates_among (pins gate)

-- the graph of a network: a gate's children are the gates that it reads, and the roots are the gates of the outputs
abbrev pub graph_of : NorView → GraphView
graph_of n = record { kids = map gates_read n.gates; roots = gates_among n.outs }
