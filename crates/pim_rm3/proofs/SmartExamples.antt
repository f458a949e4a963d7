-- Worked examples of the smart schedule, by computation: the exclusive or in four cells, and a majority of three inputs with a temporary.
use Rattle.std.proofs.Common.{◌≡◌, ℕ, true, false, List, [], ◌∷◌, map, Some, None, refl}
use Rattle.pim_aig.specs.declared.literal.Lit.{Lit}
use Rattle.pim_isa.specs.Steps.{exec}
use Rattle.pim_isa.specs.declared.instr.Operand.TheVariants.{Zero, One, Cell}
use Rattle.pim_isa.specs.declared.instr.Instr.{Instr}
use Rattle.pim_isa.specs.declared.instr.Instr.TheVariants.{Rm3}
use Rattle.pim_mig.specs.Graph.{MigView}
use Rattle.pim_mig.specs.declared.node.Maj.{Maj}
use Rattle.pim_rm3.specs.Roles.{least_role, role, role_cost, roles}
use Rattle.pim_rm3.specs.SmartSchedules.{smart_schedule}
use Rattle.pim_rm3.specs.Steps.{enough_of, mig_gates, mig_graph, smart_cost, step_of}
use Rattle.pim_rm3.specs.Taking.{can_be_taken}
use Rattle.pim_rm3.specs.Temporaries.{full_order, full_over}
use Rattle.pim_rm3.specs.declared.step.Step.TheVariants as step

abbrev lit : ℕ → Lit
lit l = record { 0 = l }

abbrev vote : ℕ → ℕ → ℕ → Maj
vote x y z = record { x = lit x; y = lit y; z = lit z }

-- ---- the exclusive or of two inputs
abbrev xor : MigView
xor = record { inputs = 2; nodes = vote 2 5 0 ∷ vote 3 4 0 ∷ vote 6 8 1 ∷ []; outputs = lit 10 ∷ [] }

xor_gates : mig_gates xor ≡ 6 ∷ 8 ∷ 10 ∷ []
xor_gates = refl

-- the last node could take either cell over; the constant is its second operand, and the first such role takes the second node's
xor_role : step_of xor 10 ≡ step.Vote (role (lit 6) (lit 1) (lit 8) true)
xor_role = refl

xor_order : full_order xor ≡ 13 ∷ 17 ∷ 21 ∷ []
xor_order = refl

xor_over : full_over xor ≡ None ∷ None ∷ Some 17 ∷ []
xor_over = refl

xor_cost : smart_cost xor ≡ 5
xor_cost = refl

xor_enough : enough_of xor ≡ 6
xor_enough = refl

abbrev xor_cells : List ℕ
xor_cells = 0 ∷ 0 ∷ 0 ∷ 0 ∷ 0 ∷ 0 ∷ 0 ∷ 0 ∷ 0 ∷ 0 ∷ 0 ∷ 0 ∷ 0 ∷ 2 ∷ 0 ∷ 0 ∷ 0 ∷ 3 ∷ 0 ∷ 0 ∷ 0 ∷ 3 ∷ 0 ∷ 0 ∷ []

abbrev xor_instrs : List Instr
xor_instrs =
    Rm3 Zero One 2 ∷ Rm3 (Cell 0) (Cell 1) 2 ∷ Rm3 Zero One 3 ∷ Rm3 (Cell 1) (Cell 0) 3 ∷ Rm3 (Cell 2) Zero 3 ∷ []

xor_schedule : smart_schedule xor xor_cells ≡ xor_instrs
xor_schedule = refl

xor_of_ones : exec xor_instrs (true ∷ true ∷ true ∷ true ∷ []) ≡ true ∷ true ∷ false ∷ false ∷ []
xor_of_ones = refl

xor_of_one : exec xor_instrs (true ∷ false ∷ true ∷ true ∷ []) ≡ true ∷ false ∷ true ∷ true ∷ []
xor_of_one = refl

-- ---- a majority of three inputs: each role needs a temporary and a load, so the first is taken
abbrev three : MigView
three = record { inputs = 3; nodes = vote 6 2 4 ∷ []; outputs = lit 8 ∷ [] }

three_costs : map role_cost (roles (vote 6 2 4) false false false) ≡ 4 ∷ 4 ∷ 4 ∷ 4 ∷ 4 ∷ 4 ∷ []
three_costs = refl

three_role : step_of three 8 ≡ step.Vote (role (lit 6) (lit 2) (lit 4) false)
three_role = refl

-- the temporary has number 16, before its gate, which has 17
three_order : full_order three ≡ 16 ∷ 17 ∷ []
three_order = refl

three_enough : enough_of three ≡ 5
three_enough = refl

three_schedule : smart_schedule three (0 ∷ 0 ∷ 0 ∷ 0 ∷ 0 ∷ 0 ∷ 0 ∷ 0 ∷ 0 ∷ 0 ∷ 0 ∷ 0 ∷ 0 ∷ 0 ∷ 0 ∷ 0 ∷ 3 ∷ 4 ∷ 0 ∷ 0 ∷ [])
    ≡ Rm3 One Zero 3 ∷ Rm3 Zero (Cell 0) 3 ∷ Rm3 Zero One 4 ∷ Rm3 (Cell 1) Zero 4 ∷ Rm3 (Cell 2) (Cell 3) 4 ∷ []
three_schedule = refl

-- ---- three complemented operands: the first is made in a temporary, the second is read as it is
all_complemented : least_role (vote 3 5 7) false false false ≡ role (lit 3) (lit 5) (lit 7) false
all_complemented = refl

-- ---- a node whose complement is an output lends no cell
lent : can_be_taken 3 (mig_graph (record { inputs = 3; nodes = vote 2 4 6 ∷ vote 8 2 5 ∷ []; outputs = lit 10 ∷ [] })) 8 ≡ true
lent = refl

not_lent : can_be_taken 3 (mig_graph (record { inputs = 3; nodes = vote 2 4 6 ∷ vote 8 2 5 ∷ []; outputs = lit 10 ∷ lit 9 ∷ [] })) 8 ≡ false
not_lent = refl
