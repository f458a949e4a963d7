-- Lines of the characters 0 and 1, and the bits that they stand for.
use Rattle.std.specs.Prelude.{ℕ, ◌==◌, Bool, if◌then◌else◌, List, map}

-- the bits of a line
abbrev pub bits_of : List ℕ → List Bool
bits_of line = map (λ b. b == 49) line

-- the character of a bit
abbrev pub digit_of : Bool → ℕ
digit_of bit = if bit then 49 else 48

-- the line of bits
abbrev pub line_of : List Bool → List ℕ
line_of bits = map digit_of bits
