-- How a majority of three literals becomes a literal of a graph.
use Rattle.std.specs.Prelude.{ℕ, suc, ◌+◌, ◌==◌, ◌&&◌, ◌||◌, Bool, if◌then◌else◌, List, [], ◌∷◌, ◌++◌, length, min, max, Option, Some, None}
use Rattle.pim_aig.specs.Literals.{complement, plain}
use Rattle.pim_aig.specs.declared.literal.Lit.{Lit}
use Rattle.pim_mig.specs.declared.node.Maj.{Maj}

-- of the three literals the least, the one in the middle and the greatest, by their numbers
abbrev pub least : Maj → ℕ
least m = min (min m.x.0 m.y.0) m.z.0

abbrev pub middle : Maj → ℕ
middle m = max (min m.x.0 m.y.0) (min (max m.x.0 m.y.0) m.z.0)

abbrev pub greatest : Maj → ℕ
greatest m = max (max m.x.0 m.y.0) m.z.0

-- the two nodes read the same three literals, in any order
abbrev pub same_operands : Maj → Maj → Bool
same_operands a b = (least a == least b) && ((middle a == middle b) && (greatest a == greatest b))

-- the place of the first node that reads the same three literals, and the length where there is none
abbrev pub place_of : List Maj → Maj → ℕ
place_of [] m = 0
place_of (n ∷ ns) m = if same_operands n m then 0 else suc (place_of ns m)

-- the literal that the majority of three literals is without a node, if there is one: where two of them are the same, that one, and
-- where two are complements, the third
abbrev pub simplified : Maj → Option Lit
simplified m =
    if (m.x.0 == m.y.0) || (m.x.0 == m.z.0) then Some m.x
    else (if m.y.0 == m.z.0 then Some m.y
    else (if (complement m.x).0 == m.y.0 then Some m.z
    else (if (complement m.x).0 == m.z.0 then Some m.y
    else (if (complement m.y).0 == m.z.0 then Some m.x
    else None))))

-- the nodes so far, and the literal of one more
pub record Made : Type 0 where
  pub nodes : List Maj
  pub lit : Lit

abbrev pub made_by : Option Lit → ℕ → List Maj → Maj → Made
made_by (Some l) inputs nodes m = record { nodes = nodes; lit = l }
made_by None inputs nodes m = record {
  nodes = if place_of nodes m == length nodes then nodes ++ m ∷ [] else nodes;
  lit = plain (1 + inputs + place_of nodes m);
}

-- the majority of three literals among the nodes of a graph with so many inputs: the literal that it is without a node, the node
-- that reads the same, or a new one
abbrev pub made : ℕ → List Maj → Maj → Made
made inputs nodes m = made_by (simplified m) inputs nodes m
