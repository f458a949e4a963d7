-- The gates of an and-inverter graph for the IMPLY machine. A gate computes a literal, as the complement of all of its operands
-- being true: a NAND of an AND's operands, a NOT, or with no operand the constant zero.
use Rattle.std.specs.Prelude.{ℕ, ◌+◌, ◌-◌, ◌*◌, ◌/◌, ◌%◌, ◌==◌, ◌&&◌, nat_le, nat_lt, Bool, if◌then◌else◌, List, [], ◌∷◌, ◌++◌, fold, map, slice_index_or}
use Rattle.std.specs.List.{range_with_len}
use Rattle.pim_aig.specs.Graph.{AigView, nodes}
use Rattle.pim_aig.specs.declared.graph.And.{And}
use Rattle.pim_aig.specs.declared.literal.Lit.{Lit}
use Rattle.pim_graph.specs.Graphs.{GraphView, has}
use Rattle.pim_graph.specs.Orders.{order}

-- the number of a literal's gate, and the literal of a gate's number: a node's complement stands before its plain literal, but
-- for the constants
abbrev pub turned : ℕ → ℕ
turned l = if l / 2 == 0 then l else (if l % 2 == 0 then l + 1 else l - 1)

-- the operands of a NAND, once where they are the same
abbrev pub nand_operands : And → List ℕ
nand_operands a = if a.x.0 == a.y.0 then a.x.0 ∷ [] else a.x.0 ∷ a.y.0 ∷ []

-- the literal is the plain one of an input, which stands in a cell from the start
abbrev pub is_input : AigView → ℕ → Bool
is_input g l = l % 2 == 0 && nat_lt 0 (l / 2) && nat_le (l / 2) g.inputs

-- the literals that the gate of a literal reads
abbrev pub operands : AigView → ℕ → List ℕ
operands g l =
    if l / 2 == 0 then (if l == 0 then [] else 0 ∷ [])
    else (if l % 2 == 0 then (if nat_le (l / 2) g.inputs then [] else (l + 1) ∷ [])
    else (if nat_le (l / 2) g.inputs then (l - 1) ∷ []
    else nand_operands (slice_index_or g.ands (l / 2 - 1 - g.inputs) (record { x = record { 0 = 0 }; y = record { 0 = 0 } }))))

-- the gates of the literals that take one
abbrev pub gates_of : AigView → List ℕ → List ℕ
gates_of g [] = []
gates_of g (l ∷ ls) = if is_input g l then gates_of g ls else turned l ∷ gates_of g ls

-- the roots with the gate of one output more, each once; an input that is an output takes no gate
abbrev pub with_root : AigView → List ℕ → Lit → List ℕ
with_root g roots o =
    if is_input g o.0 then roots else (if has roots (turned o.0) then roots else roots ++ turned o.0 ∷ [])

-- the graph of all literals as gates, with those of the outputs as its roots
abbrev pub imply_graph : AigView → GraphView
imply_graph g = record {
  kids = map (λ gate. gates_of g (operands g (turned gate))) (range_with_len 0 (2 * nodes g));
  roots = fold (with_root g) [] g.outputs;
}

-- the gates that the outputs reach, in the order in which they are computed
abbrev pub gates : AigView → List ℕ
gates g = order (imply_graph g)
