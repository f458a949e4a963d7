-- The lines of rows are lines of the characters 0 and 1.
use Rattle.std.proofs.Common.{◌≡◌, ◌+◌, ◌*◌, ◌%◌, ◌/◌, ◌++◌, ◌<◌, ◌⊎◌, ℕ, zero, suc, length, refl, inl, inr, arith}
use Rattle.std.specs.List.{All}
use Rattle.std.proofs.lemmas.List.{length-append}
use Rattle.std.proofs.lemmas.List.Elements.{All-append, All-cons, All-nil}
use Rattle.pim_adder.specs.Drawn.{RowsView, carry, digits, first, row_line, row_sum, second}
use Rattle.pim_vectors.specs.Tiles.{IsVector}

abbrev IsBit : ℕ → Type 0
IsBit b = (b ≡ 48) ⊎ (b ≡ 49)

bit_is : (n : ℕ) → IsBit (48 + n % 2)
bit_is n = go (n % 2) (omega arith)
  where
    go : (m : ℕ) → m < 2 → IsBit (48 + m)
    go zero small = inl refl
    go (suc zero) small = inr refl
    go (suc (suc m)) small = absurd (omega arith)

pub length-digits : (count value : ℕ) → length (digits count value) ≡ count
length-digits zero value = refl
length-digits (suc count) value = omega (arith, length-digits count (value / 2))

digits_are_bits : (count value : ℕ) → All IsBit (digits count value)
digits_are_bits zero value = All-nil IsBit
digits_are_bits (suc count) value = All-cons IsBit (48 + value % 2) (digits count (value / 2)) (bit_is value) (digits_are_bits count (value / 2))

pub row_line_fits : (r : RowsView) → IsVector (2 * r.bits + 1) (row_line r)
row_line_fits r =
    let a = digits r.bits (first r) in
    let b = digits r.bits (second r) in
    let c = digits 1 (carry r) in (
      omega (arith, length-append (a ++ b) c, length-append a b, length-digits r.bits (first r), length-digits r.bits (second r), length-digits 1 (carry r)),
      All-append IsBit (a ++ b) c (All-append IsBit a b (digits_are_bits r.bits (first r)) (digits_are_bits r.bits (second r))) (digits_are_bits 1 (carry r)),
    )

pub row_sum_long : (r : RowsView) → length (row_sum r) ≡ r.bits + 1
row_sum_long r = length-digits (r.bits + 1) (first r + second r + carry r)
