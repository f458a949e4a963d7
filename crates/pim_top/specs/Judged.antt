-- Which lines of an input are judged, and which of them fit.
use Rattle.std.specs.Prelude.{◌≡◌, ◌⊎◌, ◌<◌, ◌≤◌, ℕ, ◌+◌, ◌-◌, ◌==◌, nat_le, nat_lt, List, [], ◌∷◌, ◌++◌, length, take, Bool, if◌then◌else◌, Option, None, Some}
use Rattle.std.specs.Prelude.{◌&&◌, ◌||◌}
use Rattle.std.specs.List.{list_all}
use Rattle.pim_io.specs.Lines.{is_newline}
use Rattle.pim_vectors.specs.Lines.{line_len, lines}
use Rattle.pim_vectors.specs.declared.limits.TheConstants.{MAX_LINES}
use Rattle.pim_top.specs.declared.judgement.Judgement.TheVariants.{TooManyLines, Vector}
use Rattle.pim_io.specs.declared.limits.TheConstants.{MAX_INPUT}
use Rattle.pim_top.specs.declared.refusal.Origin.TheVariants.{Input}
use Rattle.pim_top.specs.declared.refusal.Refusal.{Refusal}
use Rattle.pim_top.specs.declared.refusal.Refusal.TheVariants.{Judged, TooLong}

-- the bytes behind the last newline of a piece and further bytes
abbrev pub last_piece_after : List ℕ → List ℕ → List ℕ
last_piece_after piece [] = piece
last_piece_after piece (b ∷ bytes) = if is_newline b then last_piece_after [] bytes else last_piece_after (piece ++ b ∷ []) bytes

-- the bytes behind the last newline
abbrev pub last_piece : List ℕ → List ℕ
last_piece bytes = last_piece_after [] bytes

-- the bytes up to the last newline, and with it
abbrev pub whole_lines : List ℕ → List ℕ
whole_lines bytes = take (length bytes - length (last_piece bytes)) bytes

-- of bytes that others follow, those that can be judged: a last piece that is no whole line only where it has two bytes more
-- than a line may have, and so is none that fits, whatever follows
abbrev pub settled : ℕ → List ℕ → List ℕ
settled width bytes = if nat_lt (length (last_piece bytes)) (width + 2) then whole_lines bytes else bytes

-- the lines that are judged, where so many bytes may be: all lines of no more bytes than that, and else those of the first bytes
abbrev pub judged_within : ℕ → ℕ → List ℕ → List (List ℕ)
judged_within limit width bytes =
    if nat_le (length bytes) limit then lines bytes else lines (settled width (take limit bytes))

-- the lines of an input that are judged
abbrev pub judged_lines : ℕ → List ℕ → List (List ℕ)
judged_lines width bytes = judged_within MAX_INPUT width bytes

-- what is said behind all of them: nothing, or that the input has too many bytes
abbrev pub behind_lines : List ℕ → Option Refusal
behind_lines bytes = if nat_le (length bytes) MAX_INPUT then None else Some (TooLong Input)

-- the source failed: before that it gave whole lines, which are the front, and of the next line, of so many bytes at most, and of
-- all bytes it gave too few to judge them
pub record Halts (longest : ℕ) (bytes rest front : List ℕ) : Type 0 where
  pub held : List ℕ
  pub cut : bytes ≡ front ++ (held ++ rest)
  pub whole : (last_piece front ≡ []) ⊎ (held ++ rest ≡ [])
  pub waits : line_len held ≡ length held
  pub short : length held < longest + 2
  pub within : length front + length held ≤ MAX_INPUT

-- a line has so many bytes, each of them the character 0 or 1
abbrev pub is_vector : ℕ → List ℕ → Bool
is_vector width line = (length line == width) && list_all (λ b. (b == 48) || (b == 49)) line

-- of lines, the first of which has the number n + 1, those before the first that is refused
abbrev pub fitting : ℕ → ℕ → List (List ℕ) → List (List ℕ)
fitting width n [] = []
fitting width n (line ∷ lines) =
    if n == MAX_LINES then [] else (if is_vector width line then line ∷ fitting width (n + 1) lines else [])

-- why the first of them that is refused is so: it is one too many, or no vector; or what is said behind them, where all fit
abbrev pub first_refusal : ℕ → ℕ → Option Refusal → List (List ℕ) → Option Refusal
first_refusal width n behind [] = behind
first_refusal width n behind (line ∷ lines) =
    if n == MAX_LINES then Some (Judged TooManyLines)
    else (if is_vector width line then first_refusal width (n + 1) behind lines else Some (Judged (Vector (n + 1))))

-- the lines of an input before the first that is refused
abbrev pub fitting_lines : ℕ → List ℕ → List (List ℕ)
fitting_lines width bytes = fitting width 0 (judged_lines width bytes)

-- why an input is refused, if it is
abbrev pub input_refusal : ℕ → List ℕ → Option Refusal
input_refusal width bytes = first_refusal width 0 (behind_lines bytes) (judged_lines width bytes)
