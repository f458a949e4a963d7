-- The first fault of a draft.
use Rattle.std.specs.Prelude.{ℕ, ◌+◌, Bool, true, false, ◌==◌, ◌&&◌, ◌||◌, not, nat_lt, nat_le, if◌then◌else◌, List, [], ◌∷◌, ◌++◌, length, Option, Some, None}
use Rattle.std.specs.List.{list_any}
use Rattle.std.specs.Option.{option_map, option_or}
use Rattle.pim_isa.specs.declared.target.Target.{Target}
use Rattle.pim_isa.specs.declared.target.Target.TheVariants.{Magic, Plim}
use Rattle.pim_isa.specs.declared.instr.Instr.{Instr}
use Rattle.pim_isa.specs.declared.instr.Instr.TheVariants.{Init, Nor, Rm3}
use Rattle.pim_isa.specs.declared.port.Port.{Port}
use Rattle.pim_isa.specs.declared.invalid.Invalid.{Invalid}
use Rattle.pim_isa.specs.declared.invalid.Invalid.TheVariants as invalid
use Rattle.pim_isa.specs.Programs.{ProgramView}
use Rattle.pim_isa.specs.Touches.{operands, operand_cells, names}

-- the target runs this kind of instruction
abbrev pub suits : Target → Instr → Bool
suits Magic (Init cells) = true
suits Magic (Nor t ins) = true
suits Magic (Rm3 p q z) = false
suits Plim (Init cells) = false
suits Plim (Nor t ins) = false
suits Plim (Rm3 p q z) = true

-- each number is above the one before it, and the first above c
abbrev pub rises_above : ℕ → List ℕ → Bool
rises_above c [] = true
rises_above c (d ∷ ds) = nat_lt c d && rises_above d ds

-- not empty, and strictly rising
abbrev pub is_rising : List ℕ → Bool
is_rising [] = false
is_rising (c ∷ cs) = rises_above c cs

-- the list of an Init is not empty and strictly rising; no other instruction has a list
abbrev pub has_good_list : Instr → Bool
has_good_list (Init cells) = is_rising cells
has_good_list (Nor t ins) = true
has_good_list (Rm3 p q z) = true

-- one of the cells isn't below the number of cells
abbrev pub leaves : ℕ → List ℕ → Bool
leaves cells cs = list_any (λ c. nat_le cells c) cs

-- the cell is in the list
abbrev pub has : ℕ → List ℕ → Bool
has c cs = list_any (λ d. d == c) cs

-- the cell that is written stands among the operands
abbrev pub reads_target : Instr → Bool
reads_target (Init cells) = false
reads_target (Nor t ins) = has t (operands ins)
reads_target (Rm3 p q z) = has z (operand_cells p ++ operand_cells q)

-- the fault of the instruction at place k: the first of these that applies
abbrev pub instr_fault : Target → ℕ → ℕ → Instr → Option Invalid
instr_fault target cells k i =
    if not (suits target i) then Some (invalid.WrongTarget k)
    else (if not (has_good_list i) then Some (invalid.InitList k)
    else (if leaves cells (names i) then Some (invalid.CellRange k)
    else (if reads_target i then Some (invalid.TargetRead k) else None)))

-- the first fault of the instructions, which stand from place k on
abbrev pub first_instr_fault : Target → ℕ → ℕ → List Instr → Option Invalid
first_instr_fault target cells k [] = None
first_instr_fault target cells k (i ∷ is) = option_or (instr_fault target cells k i) (first_instr_fault target cells (k + 1) is)

-- the first place, from k on, of an input that isn't below the cells or has the cell of an earlier one
abbrev pub bad_input : ℕ → ℕ → List ℕ → List Port → Option ℕ
bad_input cells k earlier [] = None
bad_input cells k earlier (p ∷ ps) =
    if nat_le cells p.cell || has p.cell earlier then Some k else bad_input cells (k + 1) (p.cell ∷ earlier) ps

-- the first place, from k on, of an output that isn't below the cells
abbrev pub bad_output : ℕ → ℕ → List Port → Option ℕ
bad_output cells k [] = None
bad_output cells k (p ∷ ps) = if nat_le cells p.cell then Some k else bad_output cells (k + 1) ps

-- the place of the first port at fault: outputs count on after the inputs
abbrev pub bad_port : ProgramView → Option ℕ
bad_port d = option_or (bad_input d.cells 0 [] d.inputs) (bad_output d.cells (length d.inputs) d.outputs)

-- the first fault of a draft: that of the ports, else that of the instructions in order
abbrev pub fault_of : ProgramView → Option Invalid
fault_of d = option_or (option_map (λ k. invalid.Port k) (bad_port d)) (first_instr_fault d.target d.cells 0 d.instrs)
