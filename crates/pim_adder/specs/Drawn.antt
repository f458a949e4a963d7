-- Rows for an adder that are drawn by chance: two numbers and a carry, and the right sum.
use Rattle.std.specs.Prelude.{ℕ, zero, suc, ◌+◌, ◌-◌, ◌*◌, ◌/◌, ◌%◌, ◌^◌, List, [], ◌∷◌, ◌++◌}

-- the bits of numbers, and the state of the generator
pub record RowsView : Type 0 where
  pub bits : ℕ
  pub state : ℕ

-- the state that follows a state, which is what is drawn
abbrev pub draw : ℕ → ℕ
draw x = (x * 6364136223846793005 + 1442695040888963407) % 2 ^ 64

-- the first draw's upper bits are the first number, the second's the second, and the third's topmost bit is the carry
abbrev pub first : RowsView → ℕ
first r = draw r.state / 2 ^ (64 - r.bits)

abbrev pub second : RowsView → ℕ
second r = draw (draw r.state) / 2 ^ (64 - r.bits)

abbrev pub carry : RowsView → ℕ
carry r = draw (draw (draw r.state)) / 2 ^ 63

-- where the generator stands after a row
abbrev pub after : RowsView → RowsView
after r = record r { state = draw (draw (draw r.state)) }

-- the lowest bits of a number as characters, the lowest one first
abbrev pub digits : ℕ → ℕ → List ℕ
digits zero value = []
digits (suc count) value = (48 + value % 2) ∷ digits count (value / 2)

-- the line of a row: the bits of both numbers, and the carry
abbrev pub row_line : RowsView → List ℕ
row_line r = digits r.bits (first r) ++ digits r.bits (second r) ++ digits 1 (carry r)

-- the right answer: the bits of the sum, of which there is one more
abbrev pub row_sum : RowsView → List ℕ
row_sum r = digits (r.bits + 1) (first r + second r + carry r)
