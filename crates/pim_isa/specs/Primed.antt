-- When each NOR finds its target set to one by an Init.
use Rattle.std.specs.Prelude.{◌≡◌, ℕ, Bool, true, false, if◌then◌else◌, List, [], ◌∷◌, take, Some, slice_get, IsTrue}
use Rattle.pim_isa.specs.declared.instr.Ins.{Ins}
use Rattle.pim_isa.specs.declared.instr.Instr.{Instr}
use Rattle.pim_isa.specs.declared.instr.Instr.TheVariants.{Init, Nor, Rm3}
use Rattle.pim_isa.specs.Touches.{writes}
use Rattle.pim_isa.specs.Validity.{has}

-- an instruction is an Init
abbrev pub is_init : Instr → Bool
is_init (Init cells) = true
is_init (Nor t ins) = false
is_init (Rm3 p q z) = false

-- whether the last instruction that writes the cell is an Init, and b where none writes it
abbrev pub last_write_is_init : Bool → List Instr → ℕ → Bool
last_write_is_init b [] c = b
last_write_is_init b (i ∷ is) c = last_write_is_init (if has c (writes i) then is_init i else b) is c

-- for each NOR the last instruction before it that writes its target exists and is an Init
abbrev pub IsPrimed : List Instr → Type 0
IsPrimed is = (k t : ℕ) (ins : Ins) → slice_get is k ≡ Some (Nor t ins) → IsTrue (last_write_is_init false (take k is) t)

-- the cells whose last write is an Init, after one more instruction
abbrev pub primed_after : (ℕ → Bool) → Instr → ℕ → Bool
primed_after ready i c = if has c (writes i) then is_init i else ready c

-- the instruction is no NOR, or its target is ready
abbrev pub FindsPrimed : (ℕ → Bool) → Instr → Type 0
FindsPrimed ready (Init cells) = Unit {0}
FindsPrimed ready (Nor t ins) = IsTrue (ready t)
FindsPrimed ready (Rm3 p q z) = Unit {0}

-- the same from the front, for instructions that begin where these cells were last written by an Init
abbrev pub IsPrimedFrom : (ℕ → Bool) → List Instr → Type 0
IsPrimedFrom ready [] = Unit {0}
IsPrimedFrom ready (i ∷ is) = FindsPrimed ready i × IsPrimedFrom (primed_after ready i) is
