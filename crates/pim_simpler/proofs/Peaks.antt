-- The cells that a network needs are those of its inputs and gates at most.
use Rattle.std.proofs.Common.{◌≡◌, ◌∙◌, ℕ, ◌+◌, ◌<◌, ◌≤◌, ◌^◌, List, length, ap, arith}
use Rattle.pim_graph.specs.Graphs.{GraphView}
use Rattle.pim_graph.specs.Orders.{order}
use Rattle.pim_nor.specs.GateGraphs.{graph_of}
use Rattle.pim_nor.specs.Network.{NorView, IsNetwork}

pub peak_within : (n : NorView) (g : GraphView) (gates items : List ℕ) (most : ℕ) → g ≡ graph_of n → items ≡ gates → gates ≡ order g → most ≤ length items →
    length (order (graph_of n)) ≡ length n.gates → most ≤ length n.gates
peak_within n g gates items most graph listed is within full =
    let same : length items ≡ length n.gates = ap (λ (xs : List ℕ). length xs) (listed ∙ (is ∙ ap order graph)) ∙ full in
    omega arith

pub need_fits : (n : NorView) (inputs most : ℕ) → IsNetwork n → inputs ≡ n.inputs → most ≤ length n.gates → inputs + most < 2 ^ 32
need_fits n inputs most sound same within =
    let few : n.inputs ≤ 1048576 = sound.inputs_fit in
    let gates : length n.gates ≤ 3145730 = sound.gates_fit in
    omega arith
