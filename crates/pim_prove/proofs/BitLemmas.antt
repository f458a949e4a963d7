-- The bits of words, and the digits of the numbers of 64 vectors that follow one another.
use Rattle.std.proofs.Common.{◌≡◌, ℕ, zero, suc, ◌+◌, ◌-◌, ◌*◌, ◌/◌, ◌%◌, ◌^◌, ◌<◌, ◌≤◌, Bool, true, false, ◌&&◌, ◌||◌, eqb, refl, sym, ap, subst, ◌∙◌, arith, bit_and, bit_or}
use Rattle.std.specs.Prelude.{bit_xor}
use Rattle.std.specs.Int.{bit_at}
use Rattle.std.specs.List.{list_all, range_with_len}
use Rattle.std.proofs.Math.Nat.{div-div-eq-div-mul}
use Rattle.std.proofs.lemmas.Bool.{and_parts, eqb-true, ne_eqb}
use Rattle.std.proofs.lemmas.Bool.Decides.{nat_tests}
use Rattle.std.proofs.lemmas.Nat.{pow-add}
use Rattle.std.proofs.lemmas.Nat.Bits.{bit_at-lt, bit_at_and, bit_at_or, bit_at_xor, bit_at_ones, bit_at-zero, bit_at_lowest, shr_and_one}
use Rattle.pim_io.specs.Lanes.{is_set}
use Rattle.pim_prove.specs.inner.Comparing.{are_unlike}

pub is_set-and : (a b i : ℕ) → is_set (bit_and a b) i ≡ (is_set a i && is_set b i)
unfolding is_set
is_set-and a b i = grind (arith, nat_tests, bit_at_and, bit_at-lt)

pub is_set-or : (a b i : ℕ) → is_set (bit_or a b) i ≡ (is_set a i || is_set b i)
unfolding is_set
is_set-or a b i = grind (arith, nat_tests, bit_at_or, bit_at-lt)

pub is_set-xor : (a b i : ℕ) → is_set (bit_xor a b) i ≡ are_unlike (is_set a i) (is_set b i)
unfolding is_set
is_set-xor a b i = grind (arith, nat_tests, bit_at_xor, bit_at-lt)

pub is_set-ones : (i : ℕ) → i < 64 → is_set (2 ^ 64 - 1) i ≡ true
unfolding is_set
is_set-ones i within = ap (λ m. eqb m 1) (bit_at_ones 64 i within)

pub is_set-zero : (i : ℕ) → is_set 0 i ≡ false
unfolding is_set
is_set-zero i = ap (λ m. eqb m 1) (bit_at-zero i)

-- a bit that is shifted down
pub shifted_one : (n i : ℕ) → bit_and (n / 2 ^ i) 1 ≡ 1 → is_set n i ≡ true
unfolding is_set
shifted_one n i one = ap (λ b. eqb b 1) (sym (shr_and_one n i) ∙ one)

pub shifted_none : (n i : ℕ) → (bit_and (n / 2 ^ i) 1 ≡ 1 → ⊥) → is_set n i ≡ false
unfolding is_set
shifted_none n i none = ne_eqb (bit_at n i) 1 (λ one. none (shr_and_one n i ∙ one))

-- ---- the digits of 64 numbers

pub is_set_one : is_set 1 0 ≡ true
unfolding is_set
is_set_one = refl

-- a test that holds of all numbers below n holds of each
of_each : (p : ℕ → Bool) (a n : ℕ) → list_all p (range_with_len a n) ≡ true → (r j : ℕ) → r < n → a + r ≡ j → p j ≡ true
of_each p a zero all r j small at = absurd (omega arith)
of_each p a (suc n) all zero j small at =
    let here : a ≡ j = omega arith in
    subst (λ (x : ℕ). p x ≡ true) here (and_parts (p a) (list_all p (range_with_len (a + 1) n)) all).0
of_each p a (suc n) all (suc r) j small at =
    of_each p (a + 1) n (and_parts (p a) (list_all p (range_with_len (a + 1) n)) all).1 r j (omega arith) (omega arith)

-- the digit 2^k of each number below 64 is a bit of the word
abbrev is_pattern : ℕ → ℕ → Bool
is_pattern w k = list_all (λ r. eqb (bit_at w r) (bit_at r k)) (range_with_len 0 64)

pattern : (w k word r : ℕ) → is_pattern w k ≡ true → bit_at (64 * word + r) k ≡ bit_at r k → r < 64 → is_set w r ≡ is_set (64 * word + r) k
unfolding is_set
pattern w k word r all low small =
    ap (λ n. eqb n 1)
    (eqb-true (bit_at w r) (bit_at r k) (of_each (λ r. eqb (bit_at w r) (bit_at r k)) 0 64 all r r small (omega arith)) ∙ sym low)

pub pattern_0 : (word r : ℕ) → r < 64 → is_set 12297829382473034410 r ≡ is_set (64 * word + r) 0
pattern_0 word r small = pattern 12297829382473034410 0 word r refl (omega arith) small

pub pattern_1 : (word r : ℕ) → r < 64 → is_set 14757395258967641292 r ≡ is_set (64 * word + r) 1
pattern_1 word r small = pattern 14757395258967641292 1 word r refl (omega arith) small

pub pattern_2 : (word r : ℕ) → r < 64 → is_set 17361641481138401520 r ≡ is_set (64 * word + r) 2
pattern_2 word r small = pattern 17361641481138401520 2 word r refl (omega arith) small

pub pattern_3 : (word r : ℕ) → r < 64 → is_set 18374966859414961920 r ≡ is_set (64 * word + r) 3
pattern_3 word r small = pattern 18374966859414961920 3 word r refl (omega arith) small

pub pattern_4 : (word r : ℕ) → r < 64 → is_set 18446462603027742720 r ≡ is_set (64 * word + r) 4
pattern_4 word r small = pattern 18446462603027742720 4 word r refl (omega arith) small

pub pattern_5 : (word r : ℕ) → r < 64 → is_set 18446744069414584320 r ≡ is_set (64 * word + r) 5
pattern_5 word r small = pattern 18446744069414584320 5 word r refl (omega arith) small

-- the higher digits are those of the word's number
pub high_digit : (k word r : ℕ) → 6 ≤ k → r < 64 → is_set (bit_and (word / 2 ^ (k - 6)) 1) 0 ≡ is_set (64 * word + r) k
unfolding is_set
high_digit k word r high small =
    let split : 64 * 2 ^ (k - 6) ≡ 2 ^ k = sym (pow-add 2 6 (k - 6)) ∙ ap (λ n. 2 ^ n) (omega arith) in
    let whole : (64 * word + r) / 64 ≡ word = omega arith in
    let bit_is : bit_at (bit_and (word / 2 ^ (k - 6)) 1) 0 ≡ bit_at (64 * word + r) k =
    bit_at_lowest (bit_and (word / 2 ^ (k - 6)) 1)
    ∙ ap (λ n. n % 2) (shr_and_one word (k - 6))
    ∙ small_mod (bit_at-lt word (k - 6))
    ∙ ap (λ n. n / 2 ^ (k - 6) % 2) (sym whole)
    ∙ ap (λ n. n % 2) (div-div-eq-div-mul (64 * word + r) 64 (2 ^ (k - 6)))
    ∙ ap (λ n. (64 * word + r) / n % 2) split in
    ap (λ n. eqb n 1) bit_is
  where
    small_mod : {n : ℕ} → n < 2 → n % 2 ≡ n
    small_mod small = omega arith
