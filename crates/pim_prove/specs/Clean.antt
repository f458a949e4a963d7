-- Which cells an instruction uses, and when a program uses none that holds what it held before the program.
use Rattle.std.specs.Prelude.{◌≡◌, ℕ, ◌+◌, Bool, true, false, ◌||◌, if◌then◌else◌, List, [], ◌∷◌, ◌++◌, take, length, Option, Some, None, option_map, slice_get, All}
use Rattle.std.specs.List.{list_any}
use Rattle.std.specs.Option.{option_or}
use Rattle.pim_isa.specs.declared.instr.Operand.{Operand}
use Rattle.pim_isa.specs.declared.instr.Operand.TheVariants.{Zero, One, Cell}
use Rattle.pim_isa.specs.declared.instr.Instr.{Instr}
use Rattle.pim_isa.specs.declared.instr.Instr.TheVariants.{Init, Nor, Rm3}
use Rattle.pim_isa.specs.Programs.{ProgramView}
use Rattle.pim_isa.specs.Sound.{cells_of}
use Rattle.pim_isa.specs.Touches.{operands, operand_cells, writes}
use Rattle.pim_isa.specs.Validity.{has}
use Rattle.pim_prove.specs.declared.unset.Unset.{Unset}
use Rattle.pim_prove.specs.declared.unset.Unset.TheVariants.{Used, Output}

-- the two constants in either order: an RM3 of them leaves one or zero, whatever its cell held
abbrev pub are_unequal : Operand → Operand → Bool
are_unequal Zero Zero = false
are_unequal Zero One = true
are_unequal Zero (Cell c) = false
are_unequal One Zero = true
are_unequal One One = false
are_unequal One (Cell c) = false
are_unequal (Cell c) q = false

-- the cells whose bits decide what an instruction leaves: its operands in order, and then the target of a NOR, and that of an RM3 unless
-- its operands are unequal constants
abbrev pub uses : Instr → List ℕ
uses (Init cells) = []
uses (Nor t ins) = operands ins ++ t ∷ []
uses (Rm3 p q z) = (operand_cells p ++ operand_cells q) ++ (if are_unequal p q then [] else z ∷ [])

-- the cell is an input, or one of the first k instructions writes it
abbrev pub is_set_at : ProgramView → ℕ → ℕ → Bool
is_set_at p k c = has c (cells_of p.inputs) || list_any (λ i. has c (writes i)) (take k p.instrs)

-- each cell that an instruction uses is set before it, and each output's cell at the end
pub record IsClean (p : ProgramView) : Type 0 where
  pub used : (k : ℕ) (i : Instr) → slice_get p.instrs k ≡ Some i → All (λ c. is_set_at p k c ≡ true) (uses i)
  pub outputs : All (λ c. is_set_at p (length p.instrs) c ≡ true) (cells_of p.outputs)

-- the first of the cells that isn't set
abbrev pub first_unset_of : (ℕ → Bool) → List ℕ → Option ℕ
first_unset_of set [] = None
first_unset_of set (c ∷ cs) = if set c then first_unset_of set cs else Some c

-- the number of the first output whose cell isn't set, where these are the outputs from number k on
abbrev pub first_unset_output : (ℕ → Bool) → ℕ → List ℕ → Option ℕ
first_unset_output set k [] = None
first_unset_output set k (c ∷ cs) = if set c then first_unset_output set (k + 1) cs else Some k

-- the first use of a cell that isn't set, by an instruction that stands from place k on, or else by an output behind them
abbrev pub unset_behind : ProgramView → ℕ → List Instr → Option Unset
unset_behind p k [] = option_map (λ n. Output n) (first_unset_output (is_set_at p k) 0 (cells_of p.outputs))
unset_behind p k (i ∷ is) =
    option_or (option_map (λ c. Used k c) (first_unset_of (is_set_at p k) (uses i))) (unset_behind p (k + 1) is)

-- the first use of a cell that isn't set: by the least instruction and then in the order of what it uses, else by the least output
abbrev pub unset_of : ProgramView → Option Unset
unset_of p = unset_behind p 0 p.instrs
