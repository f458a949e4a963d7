-- The leaves of an AND node: literals whose conjunction is the node's value.
use Rattle.std.specs.Prelude.{ℕ, ◌+◌, ◌-◌, ◌%◌, ◌==◌, ◌&&◌, nat_lt, not, if◌then◌else◌, Bool, List, [], ◌∷◌, ◌++◌, slice_index_or}
use Rattle.std.specs.List.{list_any}
use Rattle.pim_aig.specs.Graph.{AigView}
use Rattle.pim_aig.specs.Literals.{node, plain}
use Rattle.pim_aig.specs.declared.literal.Lit.{Lit}
use Rattle.pim_aig.specs.declared.graph.And.{And}
use Rattle.pim_nor.specs.declared.lowering.Width.{Width}
use Rattle.pim_nor.specs.declared.lowering.Width.TheVariants.{Two, Four}

-- 1 where the literal is of the node, else 0
abbrev pub literal_reads : Lit → ℕ → ℕ
literal_reads l n = if node l == n then 1 else 0

-- how often a node is an operand of these AND nodes
abbrev pub operand_reads : List And → ℕ → ℕ
operand_reads [] n = 0
operand_reads (a ∷ rest) n = literal_reads a.x n + literal_reads a.y n + operand_reads rest n

-- one of these literals is of the node
abbrev pub is_among : List Lit → ℕ → Bool
is_among ls n = list_any (λ l. node l == n) ls

-- a node is single where it is an operand of AND nodes exactly once in all and no output's literal is of it
abbrev pub is_single : AigView → ℕ → Bool
is_single g n = (operand_reads g.ands n == 1) && not (is_among g.outputs n)

-- the AND node of a number
abbrev pub and_at : AigView → ℕ → And
and_at g n = slice_index_or g.ands (n - 1 - g.inputs) (record { x = plain 0; y = plain 0 })

-- the literal is the plain literal of a single AND node
abbrev pub gives_way : AigView → Lit → Bool
gives_way g l = (l.0 % 2 == 0) && (nat_lt g.inputs (node l) && is_single g (node l))

-- the literals with the first plain literal of a single AND node replaced, in its place, by that node's operands
abbrev pub widened : AigView → List Lit → List Lit
widened g [] = []
widened g (l ∷ ls) =
    if gives_way g l then (and_at g (node l)).x ∷ (and_at g (node l)).y ∷ ls else l ∷ widened g ls

-- the literals that repeat none of the earlier ones and none before them in the list
abbrev pub distinct_after : List Lit → List Lit → List Lit
distinct_after earlier [] = []
distinct_after earlier (l ∷ ls) =
    if list_any (λ m. m.0 == l.0) earlier then distinct_after (earlier ++ l ∷ []) ls
    else l ∷ distinct_after (earlier ++ l ∷ []) ls

-- the literals without those that repeat an earlier one
abbrev pub distinct : List Lit → List Lit
distinct ls = distinct_after [] ls

-- the operands of an AND node
abbrev pub operands : AigView → ℕ → List Lit
operands g n = (and_at g n).x ∷ (and_at g n).y ∷ []

-- the leaves of the AND node of a number: at width two its operands, and at width four its operands widened twice, so
-- that they are at most four; what repeats an earlier literal is dropped at the end
unfoldable pub leaves : AigView → Width → ℕ → List Lit
leaves g Two n = distinct (operands g n)
leaves g Four n = distinct (widened g (widened g (operands g n)))
