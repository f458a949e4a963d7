-- Where the spaces of a text cut it into fields, and which numbers these spell.
use Rattle.std.proofs.Common.{◌≡◌, ℕ, ◌+◌, ◌-◌, ◌^◌, ◌<◌, ◌≤◌, Bool, true, false, cond, not, ltb, leb, eqb, List, [], ◌∷◌, ◌++◌, length, map, Option, Some, None, refl, ap, sym, ◌∙◌, arith, take, drop}
use Rattle.std.specs.Fmt.{decimal}
use Rattle.std.specs.List.{position, position_or_len, list_all, join_with_byte}
use Rattle.std.specs.Option.{option_map, option_and_then}
use Rattle.std.proofs.lemmas.Bool.{ltb-true, ltb-false, leb-true, ne_eqb, and_parts, not-true}
use Rattle.std.proofs.lemmas.Fmt.{digits_decimal}
use Rattle.std.proofs.lemmas.List.{take_rest, append-nil}
use Rattle.std.proofs.lemmas.List.Splits.{slice_split_first, join_with_byte-slice_split}
use Rattle.pim_io.specs.Words.{is_digit}
use Rattle.pim_text.specs.Fields.{is_space, fields, plain_number, lacks}
use Rattle.pim_text.specs.InstrForms.{cells_of}
use Rattle.pim_text.specs.Spelled.{AreSpelled}
use Rattle.pim_text.specs.Text.{numbers_text}
use Rattle.pim_text.proofs.NumberLemmas.{own, word_is_decimal}

found : (b : Bool) (n m : ℕ) → cond b (Some n) None ≡ Some m → (b ≡ true) × (n ≡ m)
found true n m e = (refl, cc)
found false n m e = absurd cc

missed : (b : Bool) (n : ℕ) → cond b (Some n) None ≡ None → b ≡ false
missed true n e = absurd cc
missed false n e = refl

-- the first field of a text with a space
pub fields_cut : (text : List ℕ) (space : ℕ) → position is_space text ≡ Some space → fields text ≡ take space text ∷ fields (drop (space + 1) text)
fields_cut text space e =
    let at = found (ltb (position_or_len is_space text) (length text)) (position_or_len is_space text) space e in
    let within : position_or_len is_space text < length text = ltb-true _ _ at.0 in
    rw (← at.1) (slice_split_first is_space text 0 within)

-- the same in the words of the code
pub fields_cut_rest : (text : List ℕ) (space : ℕ) → position is_space text ≡ Some space → fields text ≡ take space text ∷ fields (take (length text - (space + 1)) (drop (space + 1) text))
fields_cut_rest text space e = rw (take_rest text (space + 1)) (fields_cut text space e)

-- one more byte before a text without spaces
no_space_more : (b : ℕ) (text : List ℕ) (t : Bool) → is_space b ≡ t → length (b ∷ text) ≤ position_or_len is_space (b ∷ text) → (length text ≤ position_or_len is_space text → fields text ≡ text ∷ []) → fields (b ∷ text) ≡ (b ∷ text) ∷ []
no_space_more b text true e h rest = let long = rw e at h in absurd (omega arith)
no_space_more b text false e h rest =
    let long = rw e at h in
    let others : fields text ≡ text ∷ [] = rest (omega arith) in
    rw (e, others) refl

no_space : (text : List ℕ) → length text ≤ position_or_len is_space text → fields text ≡ text ∷ []
no_space [] h = refl
no_space (b ∷ text) h = no_space_more b text (is_space b) refl h (no_space text)

-- the only field of a text without one
pub fields_last : (text : List ℕ) → position is_space text ≡ None → fields text ≡ text ∷ []
fields_last text e =
    let off = missed (ltb (position_or_len is_space text) (length text)) (position_or_len is_space text) e in
    no_space text (ltb-false _ _ off)

pub lacks-append : (c : ℕ) (a b : List ℕ) → lacks c a ≡ true → lacks c b ≡ true → lacks c (a ++ b) ≡ true
lacks-append c [] b h k = k
lacks-append c (x ∷ a) b h k =
    let parts = and_parts (not (eqb x c)) (lacks c a) h in
    rw (parts.0, lacks-append c a b parts.1 k) refl

digits_lack : (c : ℕ) (text : List ℕ) → c < 48 → list_all is_digit text ≡ true → lacks c text ≡ true
digits_lack c [] small h = refl
digits_lack c (b ∷ text) small h =
    let parts = and_parts (is_digit b) (list_all is_digit text) h in
    let low = and_parts (leb 48 b) (leb b 57) parts.0 in
    let above : 48 ≤ b = leb-true _ _ low.0 in
    let other : eqb b c ≡ false = ne_eqb b c (λ e. omega arith) in
    rw (other, digits_lack c text small parts.1) refl

-- no space and no newline stands in a number
pub lacks-decimal : (c n : ℕ) → c < 48 → n < 2 ^ 32 → lacks c (decimal n) ≡ true
lacks-decimal c n small h = digits_lack c (decimal n) small (digits_decimal own n (omega arith))

-- a word without spaces, and a space behind it
pub fields-word : (word rest : List ℕ) → lacks 32 word ≡ true → fields (word ++ 32 ∷ rest) ≡ word ∷ fields rest
fields-word [] rest h = refl
fields-word (b ∷ word) rest h =
    let parts = and_parts (not (eqb b 32)) (lacks 32 word) h in
    let other : eqb b 32 ≡ false = not-true _ parts.0 in
    rw (other, fields-word word rest parts.1) refl

-- a word without spaces alone
pub fields-only : (word : List ℕ) → lacks 32 word ≡ true → fields word ≡ word ∷ []
fields-only [] h = refl
fields-only (b ∷ word) h =
    let parts = and_parts (not (eqb b 32)) (lacks 32 word) h in
    let other : eqb b 32 ≡ false = not-true _ parts.0 in
    rw (other, fields-only word parts.1) refl

-- a word and numbers after it
pub fields-numbers : (word : List ℕ) (ns : List ℕ) → lacks 32 word ≡ true → AreSpelled ns → fields (word ++ numbers_text ns) ≡ word ∷ map decimal ns
fields-numbers word [] h k = rw append-nil (fields-only word h)
fields-numbers word (n ∷ ns) h k =
    fields-word word (decimal n ++ numbers_text ns) h ∙ ap (λ (fs : List (List ℕ)). word ∷ fs) (fields-numbers (decimal n) ns (lacks-decimal 32 n (omega arith) k.0) k.1)

-- fields with single spaces between them are the text again
pub join-fields : (text : List ℕ) → join_with_byte 32 (fields text) ≡ text
join-fields text = join_with_byte-slice_split 32 text

pub join-numbers : (word : List ℕ) (ns : List ℕ) → join_with_byte 32 (word ∷ map decimal ns) ≡ word ++ numbers_text ns
join-numbers word [] = sym (append-nil word)
join-numbers word (n ∷ ns) = ap (λ (t : List ℕ). word ++ 32 ∷ t) (join-numbers (decimal n) ns)

-- the cells of words that are decimal numbers, by a reading of cells that reads these
pub cells_of-decimal : (cell : List ℕ → Option ℕ) (ns : List ℕ) → ((n : ℕ) → n < 2 ^ 32 → cell (decimal n) ≡ Some n) → AreSpelled ns → cells_of cell (map decimal ns) ≡ Some ns
cells_of-decimal cell [] reads k = refl
cells_of-decimal cell (n ∷ ns) reads k = rw (reads n k.0, cells_of-decimal cell ns reads k.1) refl

numbers_cons : (first : Option ℕ) (others : Option (List ℕ)) (ns : List ℕ) → option_and_then (λ n. option_map (λ (ms : List ℕ). n ∷ ms) others) first ≡ Some ns → (n : ℕ) × (ms : List ℕ) × (first ≡ Some n) × (others ≡ Some ms) × (ns ≡ n ∷ ms)
numbers_cons None others ns e = absurd cc
numbers_cons (Some n) None ns e = absurd cc
numbers_cons (Some n) (Some ms) ns e = (n, ms, refl, refl, cc)

pub fields_are_decimal : (fs : List (List ℕ)) (ns : List ℕ) → cells_of plain_number fs ≡ Some ns → (fs ≡ map decimal ns) × AreSpelled ns
fields_are_decimal [] ns e = let none : ns ≡ [] = cc in rw none (refl, tt)
fields_are_decimal (f ∷ fs) ns e =
    let parts = numbers_cons (plain_number f) (cells_of plain_number fs) ns e in
    let first = word_is_decimal f parts.0 parts.2 in
    let others = fields_are_decimal fs parts.1 parts.3 in
    let first_is : f ≡ decimal parts.0 = first.0 in
    let others_are : fs ≡ map decimal parts.1 = others.0 in
    let same : f ∷ fs ≡ decimal parts.0 ∷ map decimal parts.1 = cc in
    rw parts.4 (same, (first.1, others.1))
