-- The bits of a word that is computed from others.
use Rattle.std.proofs.Common.{◌≡◌, ℕ, ◌-◌, ◌^◌, ◌<◌, Bool, true, false, ◌&&◌, ◌||◌, not, eqb, ap, ◌∙◌, arith, bit_and, bit_or}
use Rattle.std.specs.Int.{w64}
use Rattle.std.proofs.lemmas.Bool.Decides.{nat_tests}
use Rattle.std.proofs.lemmas.Nat.{or_lt}
use Rattle.std.proofs.lemmas.Nat.Bits.{bit_at-lt, bit_at_and, bit_at_or, bit_at_not, bit_at_ones, bit_at-zero}
use Rattle.pim_isa.specs.Steps.{majority}
use Rattle.pim_io.specs.Lanes.{is_set}
use Rattle.pim_lanes.specs.inner.Rules.{complement, nor1_word, nor2_word, rm3_word}

pub is_set-and : (a b i : ℕ) → is_set (bit_and a b) i ≡ (is_set a i && is_set b i)
unfolding is_set
is_set-and a b i = grind (arith, nat_tests, bit_at_and, bit_at-lt)

pub is_set-or : (a b i : ℕ) → is_set (bit_or a b) i ≡ (is_set a i || is_set b i)
unfolding is_set
is_set-or a b i = grind (arith, nat_tests, bit_at_or, bit_at-lt)

pub is_set-complement : (n i : ℕ) → n < 2 ^ 64 → i < 64 → is_set (complement n) i ≡ not (is_set n i)
unfolding is_set
is_set-complement n i small within = grind (arith, nat_tests, bit_at_not w64 n i small within, bit_at-lt)

pub is_set-ones : (i : ℕ) → i < 64 → is_set (2 ^ 64 - 1) i ≡ true
unfolding is_set
is_set-ones i within = ap (λ m. eqb m 1) (bit_at_ones 64 i within)

pub is_set-zero : (i : ℕ) → is_set 0 i ≡ false
unfolding is_set
is_set-zero i = ap (λ m. eqb m 1) (bit_at-zero i)

-- ---- the rules of the kernels on one bit
pub nor1_bit : (t a b i : ℕ) → a < 2 ^ 64 → b < 2 ^ 64 → i < 64 → is_set (nor1_word t a b) i ≡ (is_set t i && not (is_set a i))
nor1_bit t a b i small_a small_b within = is_set-and t (complement a) i ∙ ap (λ (x : Bool). is_set t i && x) (is_set-complement a i small_a within)

pub nor2_bit : (t a b i : ℕ) → a < 2 ^ 64 → b < 2 ^ 64 → i < 64 → is_set (nor2_word t a b) i ≡ (is_set t i && not (is_set a i || is_set b i))
nor2_bit t a b i small_a small_b within =
    is_set-and t (complement (bit_or a b)) i
    ∙ ap (λ (x : Bool). is_set t i && x) (is_set-complement (bit_or a b) i (or_lt 64 a b small_a small_b) within)
    ∙ ap (λ (x : Bool). is_set t i && not x) (is_set-or a b i)

majority_is : (p n z : Bool) → ((p && n) || (z && (p || n))) ≡ majority p n z
majority_is p n z = grind arith

pub rm3_bit : (z p q i : ℕ) → p < 2 ^ 64 → q < 2 ^ 64 → i < 64 → is_set (rm3_word z p q) i ≡ majority (is_set p i) (not (is_set q i)) (is_set z i)
rm3_bit z p q i small_p small_q within =
    let turned : is_set (complement q) i ≡ not (is_set q i) = is_set-complement q i small_q within in
    is_set-or (bit_and p (complement q)) (bit_and z (bit_or p (complement q))) i
    ∙ ap (λ (x : Bool). x || is_set (bit_and z (bit_or p (complement q))) i) (is_set-and p (complement q) i)
    ∙ ap (λ (x : Bool). (is_set p i && is_set (complement q) i) || x) (is_set-and z (bit_or p (complement q)) i)
    ∙ ap (λ (x : Bool). (is_set p i && is_set (complement q) i) || (is_set z i && x)) (is_set-or p (complement q) i)
    ∙ rw turned (majority_is (is_set p i) (not (is_set q i)) (is_set z i))
