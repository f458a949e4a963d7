-- Which nodes of a majority graph are needed, and how often they are read.
use Rattle.std.specs.Prelude.{ℕ, suc, ◌+◌, ◌==◌, ◌&&◌, Bool, if◌then◌else◌, List, [], ◌∷◌, length, map, nat_lt}
use Rattle.std.specs.List.{count_by, range_with_len}
use Rattle.pim_aig.specs.Literals.{node}
use Rattle.pim_mig.specs.Graph.{MigView}
use Rattle.pim_mig.specs.declared.node.Maj.{Maj}

-- how often a number stands in a list
abbrev pub times : ℕ → List ℕ → ℕ
times n [] = 0
times n (i ∷ is) = (if i == n then 1 else 0) + times n is

-- the nodes that needed ones read, each as often as it is read, of the nodes from number n on where the outputs are of these
-- nodes: a node is needed where an output is of it or a needed one reads it
abbrev pub reads_from : List ℕ → ℕ → List Maj → List ℕ
reads_from outs n [] = []
reads_from outs n (m ∷ rest) =
    let later = reads_from outs (suc n) rest in
    if nat_lt 0 (times n outs + times n later) then node m.x ∷ node m.y ∷ node m.z ∷ later else later

-- the same of a whole graph
abbrev pub all_reads : MigView → List ℕ
all_reads g = reads_from (map node g.outputs) (1 + g.inputs) g.nodes

-- how often needed nodes have the node as an operand
abbrev pub reads : MigView → ℕ → ℕ
reads g n = times n (all_reads g)

-- how many outputs are of the node, plain or complemented
abbrev pub named : MigView → ℕ → ℕ
named g n = times n (map node g.outputs)

-- an output reaches the node
abbrev pub is_needed : MigView → ℕ → Bool
is_needed g n = nat_lt 0 (named g n + reads g n)

-- a majority node that a needed node reads, once, that no other reads, and that no output is of
abbrev pub is_single : MigView → ℕ → Bool
is_single g n = nat_lt g.inputs n && ((reads g n == 1) && (named g n == 0))

-- how many majority nodes are needed
abbrev pub needed_count : MigView → ℕ
needed_count g = count_by (is_needed g) (range_with_len (1 + g.inputs) (length g.nodes))
