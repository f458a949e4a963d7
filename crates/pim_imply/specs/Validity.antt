-- The first fault of a draft: that of the ports, else that of the instructions in order.
use Rattle.std.specs.Prelude.{ℕ, ◌≢◌, ◌<◌, ◌+◌, ◌==◌, ◌||◌, nat_le, if◌then◌else◌, List, [], ◌∷◌, Option, Some, None}
use Rattle.std.specs.Option.{option_map, option_or}
use Rattle.pim_isa.specs.Validity.{bad_port}
use Rattle.pim_imply.specs.declared.instr.ImplyInstr.{ImplyInstr}
use Rattle.pim_imply.specs.declared.instr.ImplyInstr.TheVariants.{False, Imp}
use Rattle.pim_imply.specs.declared.invalid.ImplyInvalid.{ImplyInvalid}
use Rattle.pim_imply.specs.declared.invalid.ImplyInvalid.TheVariants as invalid
use Rattle.pim_imply.specs.Programs.{ImplyView, body_of}

-- the fault of the instruction at place k: a cell that isn't below the number of cells, else twice the same cell
abbrev pub instr_fault : ℕ → ℕ → ImplyInstr → Option ImplyInvalid
instr_fault cells k (False q) = if nat_le cells q then Some (invalid.CellRange k) else None
instr_fault cells k (Imp p q) =
    if nat_le cells p || nat_le cells q then Some (invalid.CellRange k)
    else (if p == q then Some (invalid.SameCell k) else None)

-- the first fault of the instructions, which stand from place k on
abbrev pub first_instr_fault : ℕ → ℕ → List ImplyInstr → Option ImplyInvalid
first_instr_fault cells k [] = None
first_instr_fault cells k (i ∷ is) = option_or (instr_fault cells k i) (first_instr_fault cells (k + 1) is)

-- the first fault of a draft
abbrev pub fault_of : ImplyView → Option ImplyInvalid
fault_of d = option_or (option_map (λ k. invalid.Port k) (bad_port (body_of d))) (first_instr_fault d.cells 0 d.instrs)

-- the cells of an instruction are below the number of cells, and an `imp` has two
abbrev pub IsFit : ℕ → ImplyInstr → Type 0
IsFit cells (False q) = q < cells
IsFit cells (Imp p q) = (p < cells) × (q < cells) × (p ≢ q)
