-- The gates that an and-inverter graph can need. A gate is named by the literal that it has the value of: the plain
-- literal of a node for the node's value, the other for its complement. An input's own value is no gate.
use Rattle.std.specs.Prelude.{ℕ, ◌+◌, ◌-◌, ◌*◌, ◌/◌, ◌%◌, ◌==◌, ◌||◌, nat_lt, if◌then◌else◌, List, [], ◌∷◌, map, length}
use Rattle.pim_aig.specs.Graph.{AigView}
use Rattle.pim_aig.specs.Literals.{complement, node}
use Rattle.pim_aig.specs.declared.literal.Lit.{Lit}
use Rattle.pim_nor.specs.declared.network.Pin.{Pin}
use Rattle.pim_nor.specs.declared.network.Pin.TheVariants.{Input, Gate as Place}
use Rattle.pim_nor.specs.declared.network.Gate.{Gate}
use Rattle.pim_nor.specs.declared.network.Gate.TheVariants.{One, Not, Nor, Nor3, Nor4}

-- how many gates there can be: two for the constant, one for each input and two for each AND node
abbrev pub slots : AigView → ℕ
slots g = 2 + g.inputs + 2 * length g.ands

-- the literal that a slot's gate has the value of. The constant one comes first and its complement next, then the
-- complements of the inputs, the last input's first, then each AND node's value and complement: so each gate stands
-- after those that it reads
abbrev pub literal_at : ℕ → ℕ → Lit
literal_at inputs slot =
    if nat_lt slot 2 then record { 0 = 1 - slot }
    else (if nat_lt slot (2 + inputs) then record { 0 = 2 * (2 + inputs - slot) + 1 }
    else record { 0 = slot + inputs })

-- the input or the slot that has a literal's value
abbrev pub source : ℕ → Lit → Pin
source inputs l =
    if nat_lt l.0 2 then Place (1 - l.0)
    else (if nat_lt inputs (l.0 / 2) then Place (l.0 - inputs)
    else (if l.0 % 2 == 1 then Place (2 + inputs - l.0 / 2) else Input (l.0 / 2 - 1)))

-- the NOR of these operands
abbrev pub nor_of : List Pin → Gate
nor_of [] = One
nor_of (a ∷ []) = Not a
nor_of (a ∷ b ∷ []) = Nor a b
nor_of (a ∷ b ∷ c ∷ []) = Nor3 a b c
nor_of (a ∷ b ∷ c ∷ d ∷ rest) = Nor4 a b c d

-- the gate of an AND node's value: the NOR of its leaves' complements
abbrev pub nor_of_leaves : ℕ → List Lit → Gate
nor_of_leaves inputs leaves = nor_of (map (λ leaf. source inputs (complement leaf)) leaves)

-- what the gate of a literal is, where the AND nodes have these leaves: nothing is read by the constant one, a complement
-- is the NOT of what it complements, and an AND node's value is the NOR of its leaves' complements
abbrev pub gate_of : AigView → (ℕ → List Lit) → Lit → Gate
gate_of g leaves l =
    if l.0 == 1 then One
    else (if (l.0 == 0) || (l.0 % 2 == 1) then Not (source g.inputs (complement l))
    else nor_of_leaves g.inputs (leaves (node l)))

-- the gate of a slot
abbrev pub gate_at : AigView → (ℕ → List Lit) → ℕ → Gate
gate_at g leaves slot = gate_of g leaves (literal_at g.inputs slot)
