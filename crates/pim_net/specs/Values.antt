-- What a netlist computes.
use Rattle.std.specs.Prelude.{ℕ, zero, suc, ◌&&◌, if◌then◌else◌, Bool, true, false, not, List, [], ◌∷◌, map, length, Option, Some, None, option_map, unwrap_or, slice_get}
use Rattle.std.specs.List.{list_any}
use Rattle.pim_net.specs.Covers.{CoverView}
use Rattle.pim_net.specs.Drivers.{place, equation_of}
use Rattle.pim_net.specs.Netlist.{NetView}
use Rattle.pim_net.specs.declared.cover.Bit3.{Bit3}
use Rattle.pim_net.specs.declared.cover.Bit3.TheVariants.{Zero, One, Any}
use Rattle.pim_net.specs.declared.parts.Equation.{Equation}

-- a cell that asks nothing holds, and one that asks for a value holds at that value
abbrev pub cell_holds : Bit3 → Bool → Bool
cell_holds Zero value = not value
cell_holds One value = value
cell_holds Any value = true

-- a row holds where each of its cells does
abbrev pub row_holds : List Bit3 → List Bool → Bool
row_holds [] values = true
row_holds (cell ∷ row) [] = true
row_holds (cell ∷ row) (value ∷ values) = cell_holds cell value && row_holds row values

-- a cover is its phase where some row holds, and otherwise not its phase
abbrev pub cover_value : CoverView → List Bool → Bool
cover_value cover values = if list_any (λ row. row_holds row values) cover.rows then cover.phase else not cover.phase

-- all the values, or none where one of them is none
abbrev pub all_values : List (Option Bool) → Option (List Bool)
all_values [] = Some []
all_values (None ∷ values) = None
all_values (Some value ∷ values) = option_map (λ rest. value ∷ rest) (all_values values)

-- the value of an equation's cover, where its columns have these values
abbrev pub equation_value : (ℕ → Option Bool) → Option Equation → Option Bool
equation_value below None = None
equation_value below (Some e) = option_map (cover_value e.cover) (all_values (map below e.cover.ins))

-- the value of a signal: the bit of the input at this place, and else the value of the equation that drives it
abbrev pub signal_value : (ℕ → Option Bool) → List Bool → Option ℕ → Option Equation → Option Bool
signal_value below bits (Some j) equation = slice_get bits j
signal_value below bits None equation = equation_value below equation

-- the value of a signal, where no chain of equations is followed for more than k steps
abbrev pub val : List ℕ → List Equation → List Bool → ℕ → ℕ → Option Bool
val inputs equations bits zero s = None
val inputs equations bits (suc k) s =
    signal_value (λ c. val inputs equations bits k c) bits (place s inputs) (equation_of equations s)

-- the value of a signal, where the inputs have these bits
abbrev pub value : NetView → List Bool → ℕ → Option Bool
value net bits s = val net.inputs net.equations bits (suc (length net.equations)) s

-- a bit, complemented where the output says so
abbrev pub signed : Bool → Bool → Bool
signed neg bit = if neg then not bit else bit

-- the output bits, in order; on a netlist that was checked, and with a bit per input, no output lacks a value
abbrev pub outs : NetView → List Bool → List Bool
outs net bits = map (λ o. signed o.neg (unwrap_or (value net bits o.sig) false)) net.outputs
