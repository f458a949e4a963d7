-- The numbers on the lines of an AIGER file, in decimal and separated by blanks (AIGER 20071012, "ASCII format").
use Rattle.std.specs.Prelude.{ℕ, zero, suc, ◌==◌, ◌&&◌, List, [], ◌∷◌, Option, Some, None, Bool, true, false, if◌then◌else◌}
use Rattle.pim_io.specs.Options.{◌>>=◌}
use Rattle.pim_io.specs.Words.{number_of}

-- the numbers of a header: the greatest variable, and how many inputs, latches, outputs and gates follow
pub record HeaderView : Type 0 where
  pub greatest : ℕ
  pub inputs : ℕ
  pub latches : ℕ
  pub outputs : ℕ
  pub gates : ℕ

-- the number on a line of one word
abbrev pub one_number : List (List ℕ) → Option ℕ
one_number (a ∷ []) = number_of a
one_number words = None

-- the numbers on a line of three words
abbrev pub three_numbers : List (List ℕ) → Option (ℕ × ℕ × ℕ)
three_numbers (a ∷ b ∷ c ∷ []) = do
  x ← number_of a
  y ← number_of b
  z ← number_of c
  Some (x, y, z)
three_numbers words = None

-- a word that spells 0
abbrev pub is_zero : List ℕ → Bool
is_zero word = number_is_zero (number_of word)
  where
    number_is_zero : Option ℕ → Bool
    number_is_zero None = false
    number_is_zero (Some n) = n == 0

-- at most `count` words, each of which spells 0
abbrev pub are_zeros : ℕ → List (List ℕ) → Bool
are_zeros count [] = true
are_zeros zero (w ∷ words) = false
are_zeros (suc count) (w ∷ words) = is_zero w && are_zeros count words

-- the numbers M I L O A of a header line, which the four numbers of later versions may follow if they are 0
abbrev pub header_numbers : List (List ℕ) → Option HeaderView
header_numbers (a ∷ b ∷ c ∷ d ∷ e ∷ further) = do
  greatest ← number_of a
  inputs ← number_of b
  latches ← number_of c
  outputs ← number_of d
  gates ← number_of e
  if are_zeros 4 further
      then Some (record { greatest = greatest; inputs = inputs; latches = latches; outputs = outputs; gates = gates })
      else None
header_numbers words = None
