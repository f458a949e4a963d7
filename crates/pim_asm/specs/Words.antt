-- The words of a line of assembly: runs of bytes that blanks separate. Between double quotes a blank is a byte as others are. A
-- semicolon outside of quotes, and all that follows it, is a comment.
use Rattle.std.specs.Prelude.{ℕ, ◌==◌, ◌&&◌, ◌||◌, not, Bool, false, if◌then◌else◌, List, [], ◌∷◌, ◌++◌}
use Rattle.pim_io.specs.Words.{is_blank, close}

-- the double quote
abbrev pub is_quote : ℕ → Bool
is_quote b = b == 34

-- the semicolon, which begins a comment
abbrev pub is_semicolon : ℕ → Bool
is_semicolon b = b == 59

-- within quotes or not, behind one more byte
abbrev pub turned : Bool → ℕ → Bool
turned quoted b = if is_quote b then not quoted else quoted

-- a byte that ends a word: a blank or a semicolon outside of quotes
abbrev pub ends_word : Bool → ℕ → Bool
ends_word quoted b = not quoted && (is_blank b || is_semicolon b)

-- the words of a text, where the run so far stands before it, within quotes or not
abbrev pub words_after : Bool → List ℕ → List ℕ → List (List ℕ)
words_after quoted run [] = close run []
words_after quoted run (b ∷ text) =
    if ends_word quoted b
    then close run (if is_semicolon b then [] else words_after false [] text)
    else words_after (turned quoted b) (run ++ b ∷ []) text

-- the words of a line
abbrev pub words : List ℕ → List (List ℕ)
words line = words_after false [] line
