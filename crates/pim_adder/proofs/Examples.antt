-- The adder of one bit, and its first row, by computation.
use Rattle.std.specs.Prelude.{◌≡◌, true, false, [], ◌∷◌, None, Some, codes, refl}
use Rattle.pim_net.specs.Faults.{net_fault}
use Rattle.pim_net.specs.Values.{val}
use Rattle.pim_adder.specs.Adders.{adder}
use Rattle.pim_adder.specs.Drawn.{RowsView, digits, row_line, row_sum}

-- it is a netlist
one_bit : net_fault (adder 1) ≡ None
one_bit = refl

-- two bits add up to the carry alone, and all three to both outputs
two_of_three : val (adder 1).inputs (adder 1).equations (true ∷ false ∷ true ∷ []) 3 3 ≡ Some false
two_of_three = refl

carry_of_two : val (adder 1).inputs (adder 1).equations (true ∷ false ∷ true ∷ []) 3 4 ≡ Some true
carry_of_two = refl

all_three : val (adder 1).inputs (adder 1).equations (true ∷ true ∷ true ∷ []) 3 3 ≡ Some true
all_three = refl

-- the lowest bit of six comes first
six : digits 3 6 ≡ codes "011"
six = refl

abbrev start : RowsView
start = record { bits = 1; state = 1 }

first_line : row_line start ≡ codes "011"
first_line = refl

first_sum : row_sum start ≡ codes "01"
first_sum = refl
