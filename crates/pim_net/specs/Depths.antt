-- How deep a signal lies.
use Rattle.std.specs.Prelude.{ℕ, zero, suc, max, List, [], ◌∷◌, map, length, Option, Some, None, option_map}
use Rattle.pim_net.specs.Drivers.{place, equation_of}
use Rattle.pim_net.specs.declared.parts.Equation.{Equation}

-- the greatest of these depths, 0 for none of them, and no depth where one of them is none
abbrev pub deepest : List (Option ℕ) → Option ℕ
deepest [] = Some 0
deepest (None ∷ depths) = None
deepest (Some depth ∷ depths) = option_map (max depth) (deepest depths)

-- one more than the greatest depth of the columns of an equation
abbrev pub equation_depth : (ℕ → Option ℕ) → Option Equation → Option ℕ
equation_depth below None = None
equation_depth below (Some e) = option_map suc (deepest (map below e.cover.ins))

-- the depth of a signal: 0 where it is the input at this place, and else that of the equation that drives it
abbrev pub signal_depth : (ℕ → Option ℕ) → Option ℕ → Option Equation → Option ℕ
signal_depth below (Some j) equation = Some 0
signal_depth below None equation = equation_depth below equation

-- the depth of a signal, if it is below k
abbrev pub depth_below : List ℕ → List Equation → ℕ → ℕ → Option ℕ
depth_below inputs equations zero s = None
depth_below inputs equations (suc k) s =
    signal_depth (λ c. depth_below inputs equations k c) (place s inputs) (equation_of equations s)

-- the depth of a signal; it is at most the number of equations
abbrev pub depth : List ℕ → List Equation → ℕ → Option ℕ
depth inputs equations s = depth_below inputs equations (suc (length equations)) s
