-- A word spells a number without leading zeros where it is the decimal text of that number, and only there.
use Rattle.std.proofs.Common.{◌≡◌, ℕ, zero, suc, ◌^◌, ◌<◌, ◌≤◌, Bool, true, false, cond, ltb, leb, eqb, ◌&&◌, List, length, get_or, Some, None, refl, sym, ap, ◌∙◌, arith, rules}
use Rattle.std.specs.List.{list_all}
use Rattle.std.specs.Fmt.{decimal}
use Rattle.std.proofs.lemmas.Bool.{lt-ltb, le-leb, ltb-true, eq-eqb, ne_eqb, ltb-false, both_ways}
use Rattle.std.proofs.lemmas.Str.Parse.{IsNumeralModel, IsDigitsTest, FoldsDigits, numerals_by_fold}
use Rattle.std.proofs.lemmas.Fmt.{decimal_nonempty, length-decimal-le, first_decimal, decimal_digit, digits_decimal, digits_value-decimal, decimal-digits_value}
use Rattle.pim_io.specs.Words.{is_digit, digits_after, number_of}
use Rattle.pim_text.specs.Fields.{has_leading_zero, plain_number}

tells : IsDigitsTest (λ ds. list_all is_digit ds ≡ true)
tells = search rules

folds : FoldsDigits digits_after
folds = search rules

pub own : IsNumeralModel (λ ds. list_all is_digit ds ≡ true) (digits_after 0)
own = numerals_by_fold (λ ds. list_all is_digit ds ≡ true) tells digits_after folds

-- no number is written with a leading zero
no_leading_zero : (n : ℕ) → n < 2 ^ 32 → has_leading_zero (decimal n) ≡ false
no_leading_zero zero h = rw (decimal_digit 0 (omega arith)) refl
no_leading_zero (suc n) h =
    let first : 48 < get_or (decimal (suc n)) 0 0 = first_decimal (suc n) (omega arith) (omega arith) in
    let other : eqb (get_or (decimal (suc n)) 0 0) 48 ≡ false = ne_eqb _ _ (λ e. omega (arith, e)) in
    by_first (ltb 1 (length (decimal (suc n)))) other
  where
    by_first : (t : Bool) → eqb (get_or (decimal (suc n)) 0 0) 48 ≡ false → (t && eqb (get_or (decimal (suc n)) 0 0) 48) ≡ false
    by_first true e = e
    by_first false e = refl

-- the decimal text of a number spells it
pub plain_number-decimal : (n : ℕ) → n < 2 ^ 32 → plain_number (decimal n) ≡ Some n
unfolding plain_number number_of
plain_number-decimal n h =
    let plain = no_leading_zero n h in
    let some : ltb 0 (length (decimal n)) ≡ true = lt-ltb _ _ (decimal_nonempty n (omega arith)) in
    let short : leb (length (decimal n)) 10 ≡ true = le-leb _ _ (length-decimal-le 10 n (omega arith) (omega arith) (omega arith)) in
    let digits : list_all is_digit (decimal n) ≡ true = digits_decimal own n (omega arith) in
    let value : digits_after 0 (decimal n) ≡ n = digits_value-decimal own n (omega arith) in
    let small : ltb n (2 ^ 32) ≡ true = lt-ltb _ _ h in
    rw (plain, some, short, digits, value, small) refl

-- the number of a word whose tests hold
number_tests : (a b c d lead : Bool) (value n : ℕ) → cond lead None (cond (a && b && c && d) (Some value) None) ≡ Some n → (lead ≡ false) × (a ≡ true) × (b ≡ true) × (c ≡ true) × (d ≡ true) × (value ≡ n)
number_tests a b c d true value n e = absurd cc
number_tests true true true true false value n e = (refl, refl, refl, refl, refl, cc)
number_tests false b c d false value n e = absurd cc
number_tests true false c d false value n e = absurd cc
number_tests true true false d false value n e = absurd cc
number_tests true true true false false value n e = absurd cc

not_longer : (len : ℕ) (zero_first : Bool) → (ltb 1 len && zero_first) ≡ false → 0 < len → zero_first ≡ true → len ≡ 1
not_longer len zero_first h some e = by_length (ltb 1 len) refl
  where
    by_length : (t : Bool) → ltb 1 len ≡ t → len ≡ 1
    by_length true long = absurd (both_ways (ltb 1 len && zero_first) h (rw (long, e) refl))
    by_length false short = let le : len ≤ 1 = ltb-false _ _ short in omega arith

-- a word that spells a number is the decimal text of that number
pub word_is_decimal : (word : List ℕ) (n : ℕ) → plain_number word ≡ Some n → (word ≡ decimal n) × (n < 2 ^ 32)
unfolding plain_number number_of
word_is_decimal word n e =
    let tests = number_tests (ltb 0 (length word)) (leb (length word) 10) (list_all is_digit word) (ltb (digits_after 0 word) (2 ^ 32)) (has_leading_zero word) (digits_after 0 word) n e in
    let some : 0 < length word = ltb-true _ _ tests.1 in
    let small : digits_after 0 word < 2 ^ 32 = ltb-true _ _ tests.4 in
    let plain : get_or word 0 0 ≡ 48 → length word ≡ 1 = λ first. not_longer (length word) (eqb (get_or word 0 0) 48) tests.0 some (eq-eqb _ _ first) in
    let spelled : decimal (digits_after 0 word) ≡ word = decimal-digits_value own word tests.3 some plain (omega arith) in
    (sym spelled ∙ ap decimal tests.5, rw (← tests.5) small)
