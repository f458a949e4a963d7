-- Worked examples of the definitions, by computation: the AND of two inputs in four cells, and the exclusive or in five.
use Rattle.std.proofs.Common.{◌≡◌, ℕ, true, false, List, [], ◌∷◌, Some, None, codes, refl}
use Rattle.pim_aig.specs.Graph.{AigView}
use Rattle.pim_aig.specs.declared.graph.And.{And}
use Rattle.pim_aig.specs.declared.literal.Lit.{Lit}
use Rattle.pim_isa.specs.declared.target.Fill.TheVariants.{Zeros, Ones}
use Rattle.pim_imply.specs.Costs.{impcost, needed_of}
use Rattle.pim_imply.specs.Gates.{gates, operands}
use Rattle.pim_imply.specs.Machines.{iresult_of, istep}
use Rattle.pim_imply.specs.Programs.{ImplyView}
use Rattle.pim_imply.specs.inner.Schedules.{program_of, schedule}
use Rattle.pim_imply.specs.Validity.{fault_of}
use Rattle.pim_imply.specs.declared.instr.ImplyInstr.{ImplyInstr}
use Rattle.pim_imply.specs.declared.instr.ImplyInstr.TheVariants.{False, Imp}
use Rattle.pim_imply.specs.declared.invalid.ImplyInvalid.TheVariants as invalid

abbrev lit : ℕ → Lit
lit l = record { 0 = l }

abbrev meet : ℕ → ℕ → And
meet x y = record { x = lit x; y = lit y }

-- ---- the machine: what is implied, and what is cleared

imp_of_ones : istep (true ∷ true ∷ []) (Imp 0 1) ≡ true ∷ true ∷ []
imp_of_ones = refl

imp_of_one_and_zero : istep (true ∷ false ∷ []) (Imp 0 1) ≡ true ∷ false ∷ []
imp_of_one_and_zero = refl

imp_of_zero : istep (false ∷ false ∷ []) (Imp 0 1) ≡ false ∷ true ∷ []
imp_of_zero = refl

false_clears : istep (true ∷ true ∷ []) (False 1) ≡ true ∷ false ∷ []
false_clears = refl

-- ---- the AND of two inputs, of which the second is the first operand: its NAND, and a NOT of that

abbrev meeting : AigView
meeting = record { inputs = 2; ands = meet 4 2 ∷ []; outputs = lit 6 ∷ [] }

meeting_gates : gates meeting ≡ 6 ∷ 7 ∷ []
meeting_gates = refl

meeting_cost : impcost meeting ≡ 5
meeting_cost = refl

meeting_needs : needed_of meeting ≡ 4
meeting_needs = refl

abbrev meeting_instrs : List ImplyInstr
meeting_instrs = False 2 ∷ Imp 1 2 ∷ Imp 0 2 ∷ False 3 ∷ Imp 2 3 ∷ []

meeting_schedule : schedule meeting (0 ∷ 0 ∷ 0 ∷ 0 ∷ 0 ∷ 0 ∷ 2 ∷ 3 ∷ []) ≡ meeting_instrs
meeting_schedule = refl

-- ---- the exclusive or: a NOT of each input, three NANDs, and the first cell taken three times

abbrev xor : AigView
xor = record { inputs = 2; ands = meet 2 5 ∷ meet 3 4 ∷ meet 7 9 ∷ []; outputs = lit 11 ∷ [] }

xor_gates : gates xor ≡ 4 ∷ 6 ∷ 2 ∷ 8 ∷ 10 ∷ []
xor_gates = refl

xor_cost : impcost xor ≡ 13
xor_cost = refl

xor_needs : needed_of xor ≡ 5
xor_needs = refl

abbrev xor_program : ImplyView
xor_program = program_of xor (record { inputs = (97 ∷ []) ∷ (98 ∷ []) ∷ []; outputs = (102 ∷ []) ∷ [] })
    (record { cells = 0 ∷ 0 ∷ 2 ∷ 0 ∷ 2 ∷ 0 ∷ 3 ∷ 0 ∷ 4 ∷ 0 ∷ 2 ∷ 0 ∷ []; width = 5 })

xor_instrs : xor_program.instrs ≡
    False 2 ∷ Imp 1 2 ∷ False 3 ∷ Imp 0 3 ∷ Imp 2 3 ∷ False 2 ∷ Imp 0 2 ∷ False 4 ∷ Imp 2 4 ∷ Imp 1 4 ∷ False 2 ∷ Imp 3 2 ∷ Imp 4 2 ∷ []
xor_instrs = refl

xor_has_no_fault : fault_of xor_program ≡ None
xor_has_no_fault = refl

xor_of_zeros : iresult_of xor_program Ones (false ∷ false ∷ []) ≡ false ∷ []
xor_of_zeros = refl

xor_of_the_second : iresult_of xor_program Zeros (false ∷ true ∷ []) ≡ true ∷ []
xor_of_the_second = refl

xor_of_the_first : iresult_of xor_program Ones (true ∷ false ∷ []) ≡ true ∷ []
xor_of_the_first = refl

xor_of_ones : iresult_of xor_program Zeros (true ∷ true ∷ []) ≡ false ∷ []
xor_of_ones = refl

-- ---- constants and equal operands

-- the zero gate alone takes one cycle, and the one a NOT of it
zero_cost : impcost (record { inputs = 0; ands = []; outputs = lit 0 ∷ [] }) ≡ 1
zero_cost = refl

one_cost : impcost (record { inputs = 0; ands = []; outputs = lit 1 ∷ [] }) ≡ 3
one_cost = refl

-- a NAND of one literal has one operand
equal_operands : operands (record { inputs = 1; ands = meet 2 2 ∷ []; outputs = lit 5 ∷ [] }) 5 ≡ 2 ∷ []
equal_operands = refl

-- an input that is an output takes no gate
input_output : gates (record { inputs = 1; ands = []; outputs = lit 2 ∷ [] }) ≡ []
input_output = refl

-- ---- faults

abbrev small : List ImplyInstr → ImplyView
small instrs = record { cells = 2; inputs = record { cell = 0; label = codes "a" } ∷ []; outputs = []; instrs = instrs }

no_such_cell : fault_of (small (False 1 ∷ Imp 0 2 ∷ [])) ≡ Some (invalid.CellRange 1)
no_such_cell = refl

one_cell_twice : fault_of (small (Imp 1 1 ∷ [])) ≡ Some (invalid.SameCell 0)
one_cell_twice = refl
