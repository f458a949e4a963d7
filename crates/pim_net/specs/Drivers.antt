-- Which signals are driven, and by what, and which are read.
use Rattle.std.specs.Prelude.{ℕ, suc, ◌==◌, ◌++◌, if◌then◌else◌, List, [], ◌∷◌, map, Option, Some, None, option_map, find}
use Rattle.std.specs.List.{flat_map}
use Rattle.pim_net.specs.declared.parts.Equation.{Equation}
use Rattle.pim_net.specs.declared.parts.OutRef.{OutRef}

-- the first place of a number in a list
abbrev pub place : ℕ → List ℕ → Option ℕ
place s [] = None
place s (x ∷ xs) = if x == s then Some 0 else option_map suc (place s xs)

-- the signals of the equations, in order
abbrev pub sigs : List Equation → List ℕ
sigs equations = map (λ e. e.sig) equations

-- the signals that are driven: the inputs in order, and then the equations in order
abbrev pub driven : List ℕ → List Equation → List ℕ
driven inputs equations = inputs ++ sigs equations

-- the signals that are read: the columns of the equations in order, and then the outputs in order
abbrev pub read : List Equation → List OutRef → List ℕ
read equations outputs = flat_map (λ e. e.cover.ins) equations ++ map (λ o. o.sig) outputs

-- the equation that drives a signal: the first one of it
abbrev pub equation_of : List Equation → ℕ → Option Equation
equation_of equations s = find (λ (e : Equation). e.sig == s) equations
