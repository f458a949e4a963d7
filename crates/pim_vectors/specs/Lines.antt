-- The lines of a text of vectors.
use Rattle.std.specs.Prelude.{ℕ, ◌+◌, List, [], ◌∷◌, ◌++◌, if◌then◌else◌}
use Rattle.pim_io.specs.Lines.{is_newline, without_return}

-- a last line, if it is not empty
abbrev pub last_line : List ℕ → List (List ℕ)
last_line [] = []
last_line (b ∷ text) = (b ∷ text) ∷ []

-- the lines from one on that begins with `text`, where the bytes follow that: a newline ends a line, and a carriage return
-- right before it is no part of the line; a last piece without a newline is a line as it stands
abbrev pub lines_after : List ℕ → List ℕ → List (List ℕ)
lines_after text [] = last_line text
lines_after text (b ∷ bytes) = if is_newline b then without_return text ∷ lines_after [] bytes else lines_after (text ++ b ∷ []) bytes

-- the lines of the bytes
abbrev pub lines : List ℕ → List (List ℕ)
lines bytes = lines_after [] bytes

-- how many bytes stand before the first newline
abbrev pub line_len : List ℕ → ℕ
line_len [] = 0
line_len (b ∷ bytes) = if is_newline b then 0 else 1 + line_len bytes
