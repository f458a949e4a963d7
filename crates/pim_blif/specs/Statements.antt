-- The statements of bytes: the words of each line without its comment, where a line that ends in a backslash goes on in the next.
use Rattle.std.specs.Prelude.{ℕ, ◌-◌, ◌==◌, List, [], ◌∷◌, ◌++◌, Bool, if◌then◌else◌, Option, Some, None, length, take, slice_index}
use Rattle.std.specs.List.{before_first, suffix_len}
use Rattle.pim_io.specs.Lines.{LineView, lines}
use Rattle.pim_io.specs.Words.{is_blank, words}

-- a statement: the number of the line that it begins in, and its words
pub record Statement : Type 0 where
  pub line : ℕ
  pub words : List (List ℕ)

-- the byte that begins a comment
abbrev pub is_hash : ℕ → Bool
is_hash b = b == 35

-- the byte that joins the next line
abbrev pub is_backslash : ℕ → Bool
is_backslash b = b == 92

-- a text without the blanks at its end
abbrev pub trimmed : List ℕ → List ℕ
trimmed text = take (length text - suffix_len is_blank text) text

-- what a line holds: its text before the first `#`, without the blanks at the end
abbrev pub content : List ℕ → List ℕ
content text = trimmed (before_first is_hash text)

-- whether a text ends in a backslash
abbrev pub ends_in_backslash : List ℕ → Bool
ends_in_backslash text = is_backslash (slice_index text (length text - 1))

-- whether the next line is joined to a line: what it holds ends in a backslash
abbrev pub goes_on : List ℕ → Bool
goes_on text = ends_in_backslash (content text)

-- the words of a line, without the one backslash that joins the next line
abbrev pub words_of : List ℕ → List (List ℕ)
words_of text =
    words (if goes_on text then take (length (content text) - 1) (content text) else content text)

-- a statement with a line: one that the line begins, or one that the line is joined to
abbrev pub with_line : Option Statement → LineView → Statement
with_line None line = record { line = line.number; words = words_of line.text }
with_line (Some begun) line = record { line = begun.line; words = begun.words ++ words_of line.text }

-- words that begin in a line stand as a statement before others, if there are any
abbrev pub stated : ℕ → List (List ℕ) → List Statement → List Statement
stated line [] others = others
stated line (word ∷ words) others = record { line = line; words = word ∷ words } ∷ others

-- the statements of lines, where the first of them is joined to a statement that was begun, if there is one
abbrev pub statements_after : Option Statement → List LineView → List Statement
statements_after None [] = []
statements_after (Some begun) [] = stated begun.line begun.words []
statements_after begun (line ∷ rest) =
    if goes_on line.text
    then statements_after (Some (with_line begun line)) rest
    else stated (with_line begun line).line (with_line begun line).words (statements_after None rest)

-- the statements of bytes, in order
abbrev pub statements : List ℕ → List Statement
statements bytes = statements_after None (lines bytes)
