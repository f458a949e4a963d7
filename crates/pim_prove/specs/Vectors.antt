-- Vectors by their number.
use Rattle.std.specs.Prelude.{ℕ, zero, suc, ◌/◌, ◌%◌, ◌^◌, ◌==◌, Bool, List, [], ◌∷◌}

-- vector x of n inputs: x in n binary digits, the first input's first
abbrev pub digits : ℕ → ℕ → List Bool
digits zero x = []
digits (suc n) x = (x / 2 ^ n % 2 == 1) ∷ digits n x
