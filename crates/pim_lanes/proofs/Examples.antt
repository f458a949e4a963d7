-- Worked examples of the definitions, by computation.
use Rattle.std.proofs.Common.{◌≡◌, true, false, [], ◌∷◌, refl}
use Rattle.pim_isa.specs.declared.instr.Operand.TheVariants as operand
use Rattle.pim_io.specs.Lanes.{is_set, lane, column_in}
use Rattle.pim_lanes.specs.inner.Rules.{nor1_word, nor2_word, rm3_word}
use Rattle.pim_lanes.specs.Banks.{BankView, column_of, column_at, row_of, place_of}

-- ---- lanes: 5 has the bits 0 and 2
bit_two : is_set 5 2 ≡ true
unfolding is_set
bit_two = refl

bit_one : is_set 5 1 ≡ false
unfolding is_set
bit_one = refl

lane_of_the_second_word : lane (0 ∷ 5 ∷ []) 66 ≡ true
unfolding lane is_set
lane_of_the_second_word = refl

lane_past_the_words : lane (5 ∷ []) 64 ≡ false
unfolding lane is_set
lane_past_the_words = refl

-- ---- words: 12 is 1100, 10 is 1010, 6 is 0110
nor_of_one : nor1_word 12 10 10 ≡ 4
nor_of_one = refl

nor_of_two : nor2_word 15 10 6 ≡ 1
nor_of_two = refl

rm3_of_words : rm3_word 12 10 6 ≡ 8
rm3_of_words = refl

-- ---- a bank of two cells in rows of one word: cell 0 has 5, cell 1 has 6
abbrev two_cells : BankView
two_cells = record { cells = 2; words = 1; buffer = 5 ∷ 6 ∷ [] }

second_column : column_in 2 (1 ∷ 2 ∷ 3 ∷ 4 ∷ []) 1 ≡ 3 ∷ 4 ∷ []
unfolding column_in
second_column = refl

first_row : row_of two_cells 0 ≡ true ∷ false ∷ []
unfolding row_of column_in lane is_set
first_row = refl

third_row : row_of two_cells 2 ≡ true ∷ true ∷ []
unfolding row_of column_in lane is_set
third_row = refl

zeros_column : column_of two_cells 2 ≡ 0 ∷ []
zeros_column = refl

ones_column : column_of two_cells 3 ≡ 18446744073709551615 ∷ []
ones_column = refl

cell_operand : column_at two_cells (place_of (operand.Cell 1)) ≡ 6 ∷ []
unfolding column_in
cell_operand = refl
