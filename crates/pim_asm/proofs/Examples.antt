-- Worked examples of words, labels and names, by computation.
use Rattle.std.proofs.Common.{◌≡◌, true, false, [], ◌∷◌, ◌++◌, Some, None, codes, refl}
use Rattle.pim_asm.specs.Labels.{label_of, quoted}
use Rattle.pim_asm.specs.Names.{is_name}
use Rattle.pim_asm.specs.Words.{words}

-- words

blanks_between : words (codes "\tnot  x \r1 ") ≡ codes "not" ∷ codes "x" ∷ codes "1" ∷ []
blanks_between = refl

comment_dropped : words (codes "init 2;3 ; 4") ≡ codes "init" ∷ codes "2" ∷ []
comment_dropped = refl

comment_alone : words (codes " ; and gate") ≡ []
comment_alone = refl

-- between quotes blanks and semicolons are bytes as others are
quotes_hold : words (codes "input 0 \"a ; b\"") ≡ codes "input" ∷ codes "0" ∷ codes "\"a ; b\"" ∷ []
quotes_hold = refl

-- only blanks cut words
quote_within : words (codes "input 0\"a b\"") ≡ codes "input" ∷ codes "0\"a b\"" ∷ []
quote_within = refl

quote_open : words (codes "input 0 \"a ; b") ≡ codes "input" ∷ codes "0" ∷ codes "\"a ; b" ∷ []
quote_open = refl

-- labels

label_clear : label_of (codes "\"a b\"") ≡ Some (codes "a b")
label_clear = refl

label_escaped : label_of (codes "\"a\\22b\\5c\\ff\"") ≡ Some (codes "a\"b\\" ++ 255 ∷ [])
label_escaped = refl

label_empty : label_of (codes "\"\"") ≡ None
label_empty = refl

-- a label has no byte below 32
label_newline : label_of (codes "\"a\\0a\"") ≡ None
label_newline = refl

upper_case_digit : label_of (codes "\"\\2A\"") ≡ None
upper_case_digit = refl

one_digit : label_of (codes "\"\\2\"") ≡ None
one_digit = refl

quote_inside : label_of (codes "\"a\"b\"") ≡ None
quote_inside = refl

quote_alone : label_of (codes "\"") ≡ None
quote_alone = refl

not_quoted : label_of (codes "ab") ≡ None
not_quoted = refl

quoted_label : quoted (codes "a\"b\\" ++ 255 ∷ 32 ∷ []) ≡ codes "\"a\\22b\\5c\\ff \""
quoted_label = refl

-- names

low_line : is_name (codes "_x1") ≡ true
low_line = refl

digit_first : is_name (codes "1x") ≡ false
digit_first = refl

dash : is_name (codes "a-b") ≡ false
dash = refl
