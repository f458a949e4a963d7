-- Small texts, with their statements by computation.
use Rattle.std.specs.Prelude.{◌≡◌, ℕ, List, [], ◌∷◌, ◌++◌, refl, codes}
use Rattle.pim_blif.specs.Statements.{Statement, statements}

-- a line of text
abbrev line : List ℕ → List ℕ
line text = text ++ 10 ∷ []

abbrev stands : ℕ → List (List ℕ) → Statement
stands number words = record { line = number; words = words }

no_bytes : statements [] ≡ []
no_bytes = refl

-- lines without words are passed over, and a last line needs no newline
two_lines : statements (line (codes ".end") ++ line (codes "  ") ++ codes "1 0") ≡ stands 1 (codes ".end" ∷ []) ∷ stands 3 (codes "1" ∷ codes "0" ∷ []) ∷ []
two_lines = refl

-- a comment reaches to the end of its line
comments : statements (line (codes "a#b \\") ++ line (codes "# c") ++ codes "d ##") ≡ stands 1 (codes "a" ∷ []) ∷ stands 3 (codes "d" ∷ []) ∷ []
comments = refl

-- a joined line has the number of its first line
joined : statements (line (codes "a \\") ++ line (codes "b\\") ++ line (codes "c") ++ codes "d") ≡ stands 1 (codes "a" ∷ codes "b" ∷ codes "c" ∷ []) ∷ stands 4 (codes "d" ∷ []) ∷ []
joined = refl

-- blanks may follow the backslash, a carriage return too
blanks_after : statements (codes "a\\ " ++ 9 ∷ 13 ∷ 10 ∷ codes "b") ≡ stands 1 (codes "a" ∷ codes "b" ∷ []) ∷ []
blanks_after = refl

-- a backslash before a comment joins, and one inside a comment does nothing
before_comment : statements (line (codes "a \\ # b") ++ line (codes "c # \\") ++ codes "d") ≡ stands 1 (codes "a" ∷ codes "c" ∷ []) ∷ stands 3 (codes "d" ∷ []) ∷ []
before_comment = refl

-- a comment line that is joined ends the joining
joined_comment : statements (line (codes "a \\") ++ line (codes "# b") ++ codes "c") ≡ stands 1 (codes "a" ∷ []) ∷ stands 3 (codes "c" ∷ []) ∷ []
joined_comment = refl

-- of two backslashes one is removed
two_backslashes : statements (line (codes "a\\\\") ++ codes "b") ≡ stands 1 (codes "a\\" ∷ codes "b" ∷ []) ∷ []
two_backslashes = refl

-- a backslash on the last line joins nothing
last_backslash : statements (codes "a \\") ≡ stands 1 (codes "a" ∷ []) ∷ []
last_backslash = refl

-- lines without words are joined too, and the statement has the number of the first
begun_without_words : statements (line (codes "\\") ++ codes "a") ≡ stands 1 (codes "a" ∷ []) ∷ []
begun_without_words = refl

-- a backslash elsewhere is a byte of a word
inner_backslash : statements (codes "a\\b \\ c") ≡ stands 1 (codes "a\\b" ∷ codes "\\" ∷ codes "c" ∷ []) ∷ []
inner_backslash = refl

-- a carriage return in mid-line separates words; other control bytes and bytes from 128 on belong to words
other_bytes : statements (97 ∷ 13 ∷ 98 ∷ 0 ∷ 11 ∷ 12 ∷ 200 ∷ 13 ∷ 10 ∷ []) ≡ stands 1 ((97 ∷ []) ∷ (98 ∷ 0 ∷ 11 ∷ 12 ∷ 200 ∷ []) ∷ []) ∷ []
other_bytes = refl
