-- One bit of a word or a byte, and places of columns.
use mir.Val.{bits}
use Rattle.std.proofs.Common.{◌≡◌, ℕ, ◌+◌, ◌-◌, ◌*◌, ◌/◌, ◌%◌, ◌^◌, ◌<◌, ◌≤◌, inl, inr, true, false, cond, eqb, bit_and, bit_or, ap, ◌∙◌, arith}
use Rattle.std.specs.Int.{bit_at, Width}
use Rattle.std.proofs.lemmas.Bool.{cases_eq, cases_lt, eq-eqb, ne_eqb}
use Rattle.std.proofs.lemmas.Nat.Bits.{shr_and_one, bit_at_set_same, bit_at_set_other, bit_at_clear_same, bit_at_clear_other, bit_at-zero}
use Rattle.pim_io.specs.Lanes.{is_set}

-- ---- one bit of a word or a byte
pub is_set-shifted : (n i : ℕ) → eqb (bit_and (n / 2 ^ i) 1) 1 ≡ is_set n i
unfolding is_set
is_set-shifted n i = ap (λ (b : ℕ). eqb b 1) (shr_and_one n i)

pub is_set-set : (w : Width) (n k i : ℕ) → k < bits w → is_set (bit_or n (1 * 2 ^ k % 2 ^ bits w)) i ≡ cond (eqb i k) true (is_set n i)
unfolding is_set
is_set-set w n k i within =
    elim (cases_eq i k) [
      | inl same ↦ rw (eq-eqb i k same) (ap (λ (j : ℕ). eqb (bit_at (bit_or n (1 * 2 ^ k % 2 ^ bits w)) j) 1) same ∙ ap (λ (b : ℕ). eqb b 1) (bit_at_set_same w n k within))
      | inr other ↦ rw (ne_eqb i k other) (ap (λ (b : ℕ). eqb b 1) (bit_at_set_other w n k within i other))
    ]

pub is_set-clear : (w : Width) (n k i : ℕ) → k < bits w → i < bits w → is_set (bit_and n (2 ^ bits w - 1 - (1 * 2 ^ k % 2 ^ bits w))) i ≡ cond (eqb i k) false (is_set n i)
unfolding is_set
is_set-clear w n k i within small =
    elim (cases_eq i k) [
      | inl same ↦ rw (eq-eqb i k same) (ap (λ (j : ℕ). eqb (bit_at (bit_and n (2 ^ bits w - 1 - (1 * 2 ^ k % 2 ^ bits w))) j) 1) same ∙ ap (λ (b : ℕ). eqb b 1) (bit_at_clear_same w n k within))
      | inr other ↦ rw (ne_eqb i k other) (ap (λ (b : ℕ). eqb b 1) (bit_at_clear_other w n k within i small other))
    ]

pub is_set-zero : (i : ℕ) → is_set 0 i ≡ false
unfolding is_set
is_set-zero i = ap (λ (b : ℕ). eqb b 1) (bit_at-zero i)

-- ---- places of columns
pub low_within : (w c t : ℕ) → c < t → c * w + w ≤ t * w
low_within w c t low = grind arith

-- two words at one place are of one column
pub same_column : (w c k i j : ℕ) → i < w → j < w → c * w + i ≡ k * w + j → (c ≡ k) × (i ≡ j)
same_column w c k i j p q e =
    elim (cases_lt c k) [
      | inl below ↦ absurd (omega (arith, low_within w c k below))
      | inr not_below ↦
          elim (cases_lt k c) [
            | inl above ↦ absurd (omega (arith, low_within w k c above))
            | inr not_above ↦
                let same : c ≡ k = omega arith in
                (same, omega (arith, ap (λ (n : ℕ). n * w) same))
          ]
    ]
