-- Where cells are written, by places in a list of instructions.
use Rattle.std.specs.Prelude.{ℕ, ◌+◌, Bool, true, false, if◌then◌else◌, List, [], ◌∷◌, Option, Some, None}
use Rattle.std.specs.Option.{option_map, option_or}
use Rattle.pim_isa.specs.declared.instr.Instr.{Instr}
use Rattle.pim_isa.specs.declared.instr.Instr.TheVariants.{Init, Nor, Rm3}
use Rattle.pim_isa.specs.Touches.{writes}
use Rattle.pim_isa.specs.Validity.{has}

-- the place of the last instruction that writes the cell, if one does
abbrev pub last_write : List Instr → ℕ → Option ℕ
last_write [] c = None
last_write (i ∷ is) c =
    option_or (option_map (λ k. k + 1) (last_write is c)) (if has c (writes i) then Some 0 else None)

-- whether an instruction is a NOR
abbrev pub is_nor : Instr → Bool
is_nor (Init cells) = false
is_nor (Nor t ins) = true
is_nor (Rm3 p q z) = false

-- the places of the NORs, of instructions that stand from place k on
abbrev pub nor_places_from : ℕ → List Instr → List ℕ
nor_places_from k [] = []
nor_places_from k (i ∷ is) = if is_nor i then k ∷ nor_places_from (k + 1) is else nor_places_from (k + 1) is

-- the places of the NORs, in order
abbrev pub nor_places : List Instr → List ℕ
nor_places is = nor_places_from 0 is
