-- Worked examples of the definitions, by computation.
use Rattle.std.proofs.Common.{◌≡◌, ℕ, Bool, true, false, List, [], ◌∷◌, Some, None, refl}
use Rattle.std.specs.Prelude.{IsTrue}
use Rattle.pim_isa.specs.declared.target.Target.TheVariants.{Magic, Plim}
use Rattle.pim_isa.specs.declared.target.Fill.TheVariants as fill
use Rattle.pim_isa.specs.declared.port.Port.{Port}
use Rattle.pim_isa.specs.declared.instr.Ins.TheVariants as ins
use Rattle.pim_isa.specs.declared.instr.Operand.TheVariants as operand
use Rattle.pim_isa.specs.declared.instr.Instr.{Instr}
use Rattle.pim_isa.specs.declared.instr.Instr.TheVariants.{Init, Nor, Rm3}
use Rattle.pim_isa.specs.declared.invalid.Invalid.TheVariants as invalid
use Rattle.pim_isa.specs.Programs.{ProgramView}
use Rattle.pim_isa.specs.Validity.{fault_of}
use Rattle.pim_isa.specs.Steps.{step, exec, exec_k}
use Rattle.pim_isa.specs.Primed.{IsPrimed}
use Rattle.pim_isa.specs.Live.{is_live}
use Rattle.pim_isa.specs.Writes.{last_write, nor_places}
use Rattle.pim_isa.specs.Results.{load, result_of}
use Rattle.pim_isa.proofs.PrimedLemmas.{primed_from_front, front_from_primed}

-- the AND of the cells 0 and 1 in cell 4
abbrev and_instrs : List Instr
and_instrs = Init (2 ∷ 3 ∷ 4 ∷ []) ∷ Nor 2 (ins.One 1) ∷ Nor 3 (ins.One 0) ∷ Nor 4 (ins.Two 2 3) ∷ []

abbrev port : ℕ → Port
port c = record { cell = c; label = 105 ∷ [] }

abbrev magic : ℕ → List Port → List Port → List Instr → ProgramView
magic cells inputs outputs instrs = record { target = Magic; cells = cells; inputs = inputs; outputs = outputs; instrs = instrs }

abbrev plim : ℕ → List Instr → ProgramView
plim cells instrs = record { target = Plim; cells = cells; inputs = []; outputs = []; instrs = instrs }

abbrev and_program : ProgramView
and_program = magic 5 (port 0 ∷ port 1 ∷ []) (port 4 ∷ []) and_instrs

-- ---- the machine: whatever the other cells hold at first
and_of_ones : (x y z : Bool) → exec and_instrs (true ∷ true ∷ x ∷ y ∷ z ∷ []) ≡ true ∷ true ∷ false ∷ false ∷ true ∷ []
and_of_ones x y z = refl

and_of_zero_one : (x y z : Bool) → exec and_instrs (false ∷ true ∷ x ∷ y ∷ z ∷ []) ≡ false ∷ true ∷ false ∷ true ∷ false ∷ []
and_of_zero_one x y z = refl

and_of_one_zero : (x y z : Bool) → exec and_instrs (true ∷ false ∷ x ∷ y ∷ z ∷ []) ≡ true ∷ false ∷ true ∷ false ∷ false ∷ []
and_of_one_zero x y z = refl

after_two : exec_k 2 and_instrs (true ∷ false ∷ false ∷ false ∷ false ∷ []) ≡ true ∷ false ∷ true ∷ true ∷ true ∷ []
after_two = refl

-- a NOR leaves a target at zero that was zero before
nor_keeps_zero : step (false ∷ false ∷ []) (Nor 0 (ins.One 1)) ≡ false ∷ false ∷ []
nor_keeps_zero = refl

nor_of_four : step (true ∷ false ∷ false ∷ false ∷ true ∷ []) (Nor 0 (ins.Four 1 2 3 4)) ≡ false ∷ false ∷ false ∷ false ∷ true ∷ []
nor_of_four = refl

-- the second operand of an Rm3 is complemented
rm3_of_one_zero : step (true ∷ false ∷ false ∷ []) (Rm3 (operand.Cell 0) (operand.Cell 1) 2) ≡ true ∷ false ∷ true ∷ []
rm3_of_one_zero = refl

rm3_of_ones : step (true ∷ true ∷ false ∷ []) (Rm3 (operand.Cell 0) (operand.Cell 1) 2) ≡ true ∷ true ∷ false ∷ []
rm3_of_ones = refl

rm3_sets : (z : Bool) → step (false ∷ []) (Rm3 operand.One operand.Zero 0) ≡ true ∷ []
rm3_sets z = refl

rm3_clears : step (true ∷ []) (Rm3 operand.Zero operand.One 0) ≡ false ∷ []
rm3_clears = refl

-- ---- the row at the start, and the result
and_loaded : load and_program fill.Ones (false ∷ true ∷ []) ≡ false ∷ true ∷ true ∷ true ∷ true ∷ []
and_loaded = refl

and_result : result_of and_program fill.Zeros (true ∷ true ∷ []) ≡ true ∷ []
and_result = refl

-- ---- primed and live
and_is_primed : IsPrimed and_instrs
and_is_primed = primed_from_front and_instrs (tt, (refl, (refl, (refl, tt))))

-- a NOR into a cell that was last written by a NOR
twice_is_not : IsPrimed (Init (1 ∷ []) ∷ Nor 1 (ins.One 0) ∷ Nor 1 (ins.One 0) ∷ []) → ⊥
twice_is_not primed =
    let from_front : IsTrue false = (front_from_primed (Init (1 ∷ []) ∷ Nor 1 (ins.One 0) ∷ Nor 1 (ins.One 0) ∷ []) primed).1.1.0 in cc

input_is_live : is_live and_program 1 1 ≡ true
input_is_live = refl

input_is_done : is_live and_program 2 1 ≡ false
input_is_done = refl

output_is_live : is_live and_program 4 4 ≡ true
output_is_live = refl

-- ---- where cells are written
written_by_the_init : last_write (Init (2 ∷ 3 ∷ 4 ∷ []) ∷ Nor 2 (ins.One 1) ∷ []) 3 ≡ Some 0
written_by_the_init = refl

written_again : last_write and_instrs 3 ≡ Some 2
written_again = refl

never_written : last_write and_instrs 1 ≡ None
never_written = refl

the_nors : nor_places and_instrs ≡ 1 ∷ 2 ∷ 3 ∷ []
the_nors = refl

-- ---- each fault
and_is_faultless : fault_of and_program ≡ None
and_is_faultless = refl

an_input_twice : fault_of (magic 2 (port 0 ∷ port 1 ∷ port 0 ∷ []) (port 7 ∷ []) []) ≡ Some (invalid.Port 2)
an_input_twice = refl

an_output_outside : fault_of (magic 2 (port 0 ∷ port 1 ∷ []) (port 1 ∷ port 2 ∷ []) []) ≡ Some (invalid.Port 3)
an_output_outside = refl

an_rm3_in_magic : fault_of (magic 2 [] [] (Init (0 ∷ []) ∷ Rm3 operand.One operand.Zero 9 ∷ [])) ≡ Some (invalid.WrongTarget 1)
an_rm3_in_magic = refl

an_empty_list : fault_of (magic 2 [] [] (Init [] ∷ [])) ≡ Some (invalid.InitList 0)
an_empty_list = refl

a_list_that_stands : fault_of (magic 9 [] [] (Init (1 ∷ 1 ∷ []) ∷ [])) ≡ Some (invalid.InitList 0)
a_list_that_stands = refl

a_cell_outside : fault_of (magic 2 [] [] (Nor 2 (ins.One 2) ∷ [])) ≡ Some (invalid.CellRange 0)
a_cell_outside = refl

its_own_target : fault_of (plim 2 (Rm3 (operand.Cell 0) (operand.Cell 1) 1 ∷ [])) ≡ Some (invalid.TargetRead 0)
its_own_target = refl
