-- When the value in a cell is still wanted.
use Rattle.std.specs.Prelude.{ℕ, Bool, if◌then◌else◌, List, [], ◌∷◌, drop}
use Rattle.pim_isa.specs.declared.instr.Instr.{Instr}
use Rattle.pim_isa.specs.Programs.{ProgramView}
use Rattle.pim_isa.specs.Sound.{cells_of}
use Rattle.pim_isa.specs.Touches.{reads, names}
use Rattle.pim_isa.specs.Validity.{has}

-- the first of the instructions that names the cell reads it; or none names it and it is an output cell
abbrev pub is_live_in : List Instr → List ℕ → ℕ → Bool
is_live_in [] outputs c = has c outputs
is_live_in (i ∷ is) outputs c = if has c (names i) then has c (reads i) else is_live_in is outputs c

-- whether a cell of a finished program is live at place k: the same of its instructions from place k on
abbrev pub is_live : ProgramView → ℕ → ℕ → Bool
is_live p k c = is_live_in (drop k p.instrs) (cells_of p.outputs) c
