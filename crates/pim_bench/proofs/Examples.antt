-- Worked examples of the definitions: each computes.
use Rattle.std.proofs.Common.{◌≡◌, ℕ, List, [], ◌∷◌, codes, false, length, refl, true}
use Rattle.pim_adder.specs.Drawn.{after}
use Rattle.pim_isa.specs.Programs.{ProgramView}
use Rattle.pim_isa.specs.declared.port.Port.{Port}
use Rattle.pim_isa.specs.declared.target.Target.TheVariants.{Magic}
use Rattle.pim_bench.specs.Trials.{first_row, is_wrong, rows_from}

two_rows : length (rows_from 2 (first_row 1)) ≡ 2
unfolding rows_from
two_rows = refl

abbrev port : ℕ → List ℕ → Port
port c label = record { cell = c; label = label }

-- a program for one bit that takes the first number for the sum, and the second for the carry
abbrev wires : ProgramView
wires = record {
  target = Magic;
  cells = 3;
  inputs = port 0 (codes "a0") ∷ port 1 (codes "b0") ∷ port 2 (codes "c0") ∷ [];
  outputs = port 0 (codes "s0") ∷ port 1 (codes "c1") ∷ [];
  instrs = [];
}

-- 0 and 1 with a carry is 2, whose bits are 0 and 1
right_by_chance : is_wrong wires (first_row 1) ≡ false
right_by_chance = refl

-- 1 and 0 with a carry is 2 too
wrong_in_the_third : is_wrong wires (after (after (first_row 1))) ≡ true
wrong_in_the_third = refl
