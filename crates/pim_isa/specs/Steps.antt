-- The machine: what one instruction does to a row of bits, and what a list of them does.
use Rattle.std.specs.Prelude.{ℕ, Bool, true, false, ◌&&◌, ◌||◌, not, List, [], ◌∷◌, take, slice_index_or, slice_set}
use Rattle.std.specs.List.{list_any}
use Rattle.pim_isa.specs.declared.instr.Operand.{Operand}
use Rattle.pim_isa.specs.declared.instr.Operand.TheVariants.{Zero, One, Cell}
use Rattle.pim_isa.specs.declared.instr.Instr.{Instr}
use Rattle.pim_isa.specs.declared.instr.Instr.TheVariants.{Init, Nor, Rm3}
use Rattle.pim_isa.specs.Touches.{operands}

-- the bit in a cell, and false outside the row
abbrev pub bit : List Bool → ℕ → Bool
bit m c = slice_index_or m c false

-- what an operand gives
abbrev pub value : List Bool → Operand → Bool
value m Zero = false
value m One = true
value m (Cell c) = bit m c

-- at least two of the three
abbrev pub majority : Bool → Bool → Bool → Bool
majority a b c = (a && b) || (a && c) || (b && c)

-- the cells set to one
abbrev pub set_ones : List ℕ → List Bool → List Bool
set_ones [] m = m
set_ones (c ∷ cs) m = set_ones cs (slice_set m c true)

-- the row after one instruction; the cells that it doesn't write stay
abbrev pub step : List Bool → Instr → List Bool
step m (Init cells) = set_ones cells m
step m (Nor t ins) = slice_set m t (bit m t && not (list_any (bit m) (operands ins)))
step m (Rm3 p q z) = slice_set m z (majority (value m p) (not (value m q)) (bit m z))

-- the row after the instructions in order
abbrev pub exec : List Instr → List Bool → List Bool
exec [] m = m
exec (i ∷ is) m = exec is (step m i)

-- the row after the first k of them
abbrev pub exec_k : ℕ → List Instr → List Bool → List Bool
exec_k k is m = exec (take k is) m
