-- How many bytes lines take, and which words stand as a statement.
use Rattle.std.proofs.Common.{◌≡◌, ℕ, ◌+◌, ◌<◌, ◌≤◌, true, false, List, [], ◌∷◌, ◌++◌, length, refl, arith, cond, length-append}
use Rattle.pim_io.specs.Lines.{is_newline, lines_after, lines}
use Rattle.pim_blif.specs.Statements.{Statement, stated}
use Rattle.pim_blif.specs.inner.Reading.{room}

room_after : (number start : ℕ) (text bytes : List ℕ) → room (lines_after number start text bytes) ≤ length text + length bytes + 1
room_after number start [] [] = omega arith
room_after number start (b ∷ text) [] = omega arith
room_after number start text (b ∷ bytes) =
    elim (is_newline b) as (λ v. room (cond v (record { number = number; start = start; text = text; ended = true } ∷ lines_after (number + 1) (start + length text + 1) [] bytes) (lines_after number start (text ++ b ∷ []) bytes)) ≤ length text + length (b ∷ bytes) + 1) [
      | true ↦ omega (arith, room_after (number + 1) (start + length text + 1) [] bytes)
      | false ↦ omega (arith, room_after number start (text ++ b ∷ []) bytes, length-append text (b ∷ []))
    ]

-- lines take at most one byte more than there are, since the last may have no newline
pub room_of_lines : (bytes : List ℕ) → room (lines bytes) ≤ length bytes + 1
room_of_lines bytes = omega (arith, room_after 1 0 [] bytes)

-- no words are passed over
pub stated_none : (line : ℕ) (words : List (List ℕ)) (others : List Statement) → length words ≡ 0 → stated line words others ≡ others
stated_none line [] others h = refl
stated_none line (word ∷ words) others h = absurd (omega arith)

-- words stand as a statement
pub stated_some : (line : ℕ) (words : List (List ℕ)) (others : List Statement) → 0 < length words → stated line words others ≡ record { line = line; words = words } ∷ others
stated_some line [] others h = absurd (omega arith)
stated_some line (word ∷ words) others h = refl
