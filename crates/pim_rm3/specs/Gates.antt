-- The gates of an and-inverter graph. A gate is the literal whose value it computes, by its number.
use Rattle.std.specs.Prelude.{ℕ, ◌-◌, ◌*◌, ◌/◌, ◌%◌, ◌==◌, ◌&&◌, nat_le, nat_lt, Bool, if◌then◌else◌, List, [], ◌∷◌, ◌++◌, fold, map, slice_index_or, Option, Some, None}
use Rattle.std.specs.List.{range_with_len}
use Rattle.pim_aig.specs.Graph.{AigView, nodes}
use Rattle.pim_aig.specs.declared.graph.And.{And}
use Rattle.pim_aig.specs.declared.literal.Lit.{Lit}
use Rattle.pim_graph.specs.Graphs.{GraphView, has}
use Rattle.pim_graph.specs.Orders.{order}
use Rattle.pim_rm3.specs.Taking.{can_be_taken}
use Rattle.pim_rm3.specs.declared.gate.Gate.{Gate}
use Rattle.pim_rm3.specs.declared.gate.Gate.TheVariants as gate

-- the gate of an AND node
abbrev pub and_gate : And → Gate
and_gate a = gate.And a.x a.y

-- what the literal of a number is as a gate
abbrev pub gate_of : AigView → ℕ → Gate
gate_of g l =
    if l / 2 == 0 then gate.Constant (l == 1)
    else (if l % 2 == 1 then gate.Not (record { 0 = l - 1 })
    else (if nat_le (l / 2) g.inputs then gate.Input
    else and_gate (slice_index_or g.ands (l / 2 - 1 - g.inputs) (record { x = record { 0 = 0 }; y = record { 0 = 0 } }))))

-- the gates with the AND node of a literal at the end, unless it is there already; an input and a constant are read nowhere
abbrev pub with_and : AigView → List ℕ → Lit → List ℕ
with_and g gates e =
    if nat_lt g.inputs (e.0 / 2)
    then (if has gates (2 * (e.0 / 2)) then gates else gates ++ 2 * (e.0 / 2) ∷ [])
    else gates

-- the AND nodes that a gate reads, in the order of its operands, each once
abbrev pub ands_read : AigView → Gate → List ℕ
ands_read g (gate.Constant b) = []
ands_read g gate.Input = []
ands_read g (gate.Not m) = with_and g [] m
ands_read g (gate.And x y) = with_and g (with_and g [] x) y

-- the literal is the plain one of an input
abbrev pub is_input : ℕ → Lit → Bool
is_input inputs o = o.0 % 2 == 0 && nat_lt 0 (o.0 / 2) && nat_le (o.0 / 2) inputs

-- the roots with the gate of one output more, each once; an input that is an output takes no gate
abbrev pub with_root : ℕ → List ℕ → Lit → List ℕ
with_root inputs roots o =
    if is_input inputs o then roots else (if has roots o.0 then roots else roots ++ o.0 ∷ [])

-- the graph of all literals as gates, with those of the outputs as its roots
abbrev pub gate_graph : AigView → GraphView
gate_graph g = record {
  kids = map (λ l. ands_read g (gate_of g l)) (range_with_len 0 (2 * nodes g));
  roots = fold (with_root g.inputs) [] g.outputs;
}

-- the gates that the outputs reach, in the order in which they are computed
abbrev pub gates : AigView → List ℕ
gates g = order (gate_graph g)

-- the operand whose cell an AND takes over: its first one whose cell can be taken over
abbrev pub taken_of : AigView → Gate → Option ℕ
taken_of g (gate.Constant b) = None
taken_of g gate.Input = None
taken_of g (gate.Not m) = None
taken_of g (gate.And x y) =
    if can_be_taken g.inputs (gate_graph g) x.0 then Some x.0
    else (if can_be_taken g.inputs (gate_graph g) y.0 then Some y.0 else None)

-- the same of the gate of a number
abbrev pub taken : AigView → ℕ → Option ℕ
taken g l = taken_of g (gate_of g l)
