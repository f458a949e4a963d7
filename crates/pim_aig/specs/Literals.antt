-- Literals: twice the number of a node, and one more where the node's value is complemented.
use Rattle.std.specs.Prelude.{ℕ, ◌+◌, ◌-◌, ◌*◌, ◌/◌, ◌%◌, ◌==◌, if◌then◌else◌}
use Rattle.pim_aig.specs.declared.literal.Lit.{Lit}

-- the node of a literal
abbrev pub node : Lit → ℕ
node l = l.0 / 2

-- the plain literal of a node
abbrev pub plain : ℕ → Lit
plain n = record { 0 = 2 * n }

-- the same node with the other sign
abbrev pub complement : Lit → Lit
complement l = record { 0 = if l.0 % 2 == 0 then l.0 + 1 else l.0 - 1 }
