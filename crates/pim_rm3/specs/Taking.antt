-- Which gates' cells can be taken over.
use Rattle.std.specs.Prelude.{ℕ, ◌/◌, ◌%◌, ◌==◌, ◌&&◌, nat_lt, not, Bool}
use Rattle.pim_graph.specs.Graphs.{GraphView, has}
use Rattle.pim_graph.specs.Orders.{order}
use Rattle.pim_graph.specs.Readers.{reads}

-- of a graph of literals with so many inputs: the literal is the plain one of a node above the inputs that is no root and that is
-- read once, so that its reader can take its cell over
abbrev pub can_be_taken : ℕ → GraphView → ℕ → Bool
can_be_taken inputs graph l =
    l % 2 == 0 && nat_lt inputs (l / 2) && not (has graph.roots l) && (reads graph (order graph) l == 1)
