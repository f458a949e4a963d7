-- The roles of a majority node's operands in the one instruction that computes it, and what they cost.
use Rattle.std.specs.Prelude.{ℕ, ◌+◌, ◌/◌, ◌%◌, ◌==◌, ◌&&◌, nat_lt, Bool, if◌then◌else◌, List, [], ◌∷◌, fold, Option, Some, None}
use Rattle.pim_aig.specs.declared.literal.Lit.{Lit}
use Rattle.pim_mig.specs.declared.node.Maj.{Maj}
use Rattle.pim_rm3.specs.Schedules.{is_inverted}
use Rattle.pim_rm3.specs.declared.role.Role.{Role}

-- the literal is the plain one of a node other than the constant one
abbrev pub is_plain : Lit → Bool
is_plain e = e.0 % 2 == 0 && nat_lt 0 (e.0 / 2)

-- the cycles that make the first operand: a complement has to be made in a temporary
abbrev pub first_cost : Lit → ℕ
first_cost e = if is_inverted e then 2 else 0

-- the cycles that make the second one, which the instruction complements
abbrev pub second_cost : Lit → ℕ
second_cost e = if is_plain e then 2 else 0

-- the cycles that bring the third one into the target: none where its cell is taken over
abbrev pub third_cost : Bool → Lit → ℕ
third_cost over e = if e.0 / 2 == 0 then 1 else (if over then 0 else 2)

-- the cycles that come before the instruction itself
abbrev pub role_cost : Role → ℕ
role_cost r = first_cost r.p + second_cost r.q + third_cost r.over r.z

-- these three in these roles, where the third one's cell can be taken over or not
abbrev pub role : Lit → Lit → Lit → Bool → Role
role p q z over = record { p = p; q = q; z = z; over = over }

-- the second of two roles where it costs less
abbrev pub cheaper : Role → Role → Role
cheaper r s = if nat_lt (role_cost s) (role_cost r) then s else r

-- all the roles of three operands in their order; it is said of each operand whether its cell can be taken over
abbrev pub roles : Maj → Bool → Bool → Bool → List Role
roles m x y z =
    role m.x m.y m.z z ∷ role m.x m.z m.y y ∷ role m.y m.x m.z z
    ∷ role m.y m.z m.x x ∷ role m.z m.x m.y y ∷ role m.z m.y m.x x ∷ []

-- of a list the first one that costs least, and this one where the list has none
abbrev pub least_of : Role → List Role → Role
least_of r [] = r
least_of r (s ∷ rest) = fold cheaper s rest

-- the first of all the roles that costs least
abbrev pub least_role : Maj → Bool → Bool → Bool → Role
least_role m x y z = least_of (role m.x m.y m.z z) (roles m x y z)

-- the literal for which the roles want a temporary: a first operand that is complemented, or a second one that is plain
abbrev pub temporary : Role → Option Lit
temporary r = if is_inverted r.p then Some r.p else (if is_plain r.q then Some r.q else None)
