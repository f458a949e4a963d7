use Rattle.std.proofs.Common.{◌≡◌, ℕ, ◌==◌, ◌&&◌, ◌||◌, Bool, drop}
use Rattle.std.specs.List.{list_all}
use Rattle.pim_vectors.proofs.fits.are_digits.Given as goal

abbrev pub is_digit : ℕ → Bool
is_digit b = b == 48 || b == 49

-- what was found so far and what the rest of the bytes gives are what all give
abbrev pub invariant-loop-b : goal.invariant-loop-b
invariant-loop-b l = (l.fit && list_all is_digit (drop l.b-index l.line)) ≡ list_all is_digit l.line
