-- What a program gives for a list of input bits.
use Rattle.std.specs.Prelude.{◌≡◌, ℕ, ◌<◌, Bool, true, false, List, [], ◌∷◌, length, map, replicate, slice_index, slice_set}
use Rattle.pim_isa.specs.declared.target.Fill.{Fill}
use Rattle.pim_isa.specs.declared.target.Fill.TheVariants.{Zeros, Ones}
use Rattle.pim_isa.specs.declared.port.Port.{Port}
use Rattle.pim_isa.specs.Programs.{ProgramView}
use Rattle.pim_isa.specs.Validity.{has}
use Rattle.pim_isa.specs.Sound.{cells_of}
use Rattle.pim_isa.specs.Steps.{bit, exec}

-- the bit that fills the cells
abbrev pub fill_bit : Fill → Bool
fill_bit Zeros = false
fill_bit Ones = true

-- the bits put into the cells of the inputs, in order
abbrev pub with_inputs : List Port → List Bool → List Bool → List Bool
with_inputs [] bits m = m
with_inputs (p ∷ ps) [] m = m
with_inputs (p ∷ ps) (b ∷ bits) m = with_inputs ps bits (slice_set m p.cell b)

-- the row at the start: the bits in the input cells, and the filling in the others
abbrev pub load : ProgramView → Fill → List Bool → List Bool
load p fill bits = with_inputs p.inputs bits (replicate p.cells (fill_bit fill))

-- the bits in the output cells when all instructions are done, in order
abbrev pub result_of : ProgramView → Fill → List Bool → List Bool
result_of p fill bits = map (λ o. bit (exec p.instrs (load p fill bits)) o.cell) p.outputs

-- a row at the start, cell by cell: each input cell holds its bit, and each other cell the filling
pub record IsLoaded (p : ProgramView) (fill : Fill) (bits row : List Bool) : Type 0 where
  pub long : length row ≡ p.cells
  pub inputs : (j : ℕ) → j < length p.inputs → bit row (slice_index (cells_of p.inputs) j) ≡ bit bits j
  pub others : (c : ℕ) → c < p.cells → has c (cells_of p.inputs) ≡ false → bit row c ≡ fill_bit fill
