-- Laws of instructions that follow one another, for those who make programs and say what they compute.
use Rattle.std.specs.Prelude.{◌≡◌, ℕ, ◌<◌, Bool, true, false, ◌&&◌, not, if◌then◌else◌, List, [], ◌∷◌, ◌++◌, length, Some, All}
use Rattle.std.specs.List.{list_any}
use Rattle.pim_isa.specs.declared.instr.Ins.{Ins}
use Rattle.pim_isa.specs.declared.instr.Instr.{Instr}
use Rattle.pim_isa.specs.declared.instr.Instr.TheVariants.{Init, Nor}
use Rattle.pim_isa.specs.Primed.{last_write_is_init, IsPrimed, FindsPrimed}
use Rattle.pim_isa.specs.Steps.{bit, step, exec}
use Rattle.pim_isa.specs.Touches.{operands, writes}
use Rattle.pim_isa.specs.Validity.{has}
use Rattle.pim_isa.specs.Writes.{is_nor, last_write, nor_places}

-- what executing keeps and what it gives: the row's length; a cell that none of the instructions writes; one list and then
-- another; the cells of an Init are one; the target of a NOR stays one where no operand is
pub record ExecLaws : Type 0 where
  pub keeps_length : (is : List Instr) (m : List Bool) → length (exec is m) ≡ length m
  pub keeps_others : (is : List Instr) (m : List Bool) (c : ℕ) → All (λ i. has c (writes i) ≡ false) is →
      bit (exec is m) c ≡ bit m c
  pub append : (is js : List Instr) (m : List Bool) → exec (is ++ js) m ≡ exec js (exec is m)
  pub init_sets : (cells : List ℕ) (m : List Bool) (c : ℕ) → has c cells ≡ true → c < length m →
      bit (step m (Init cells)) c ≡ true
  pub nor_gives : (m : List Bool) (t : ℕ) (ins : Ins) → t < length m →
      bit (step m (Nor t ins)) t ≡ (bit m t && not (list_any (bit m) (operands ins)))

-- what one instruction more changes: the places of the last writes, whether these are Inits, the places of the NORs, and
-- whether the instructions are primed
pub record WriteLaws : Type 0 where
  pub last_write_push : (is : List Instr) (i : Instr) (c : ℕ) →
      last_write (is ++ i ∷ []) c ≡ (if has c (writes i) then Some (length is) else last_write is c)
  pub init_append : (b : Bool) (is js : List Instr) (c : ℕ) →
      last_write_is_init b (is ++ js) c ≡ last_write_is_init (last_write_is_init b is c) js c
  pub nors_push : (is : List Instr) (i : Instr) →
      nor_places (is ++ i ∷ []) ≡ nor_places is ++ (if is_nor i then length is ∷ [] else [])
  pub primed_push : (is : List Instr) (i : Instr) → IsPrimed is → FindsPrimed (last_write_is_init false is) i →
      IsPrimed (is ++ i ∷ [])
