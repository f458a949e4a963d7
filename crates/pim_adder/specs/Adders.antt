-- The netlist of an adder: two numbers of so many bits and a carry, and their sum of one bit more.
use Rattle.std.specs.Prelude.{ℕ, ◌+◌, ◌*◌, List, [], ◌∷◌, ◌++◌, map, true, false}
use Rattle.std.specs.List.{flat_map, range_with_len}
use Rattle.std.specs.Fmt.{decimal}
use Rattle.pim_io.specs.Names.{label}
use Rattle.pim_net.specs.Netlist.{DraftView}
use Rattle.pim_net.specs.declared.cover.Bit3.TheVariants.{Zero, One, Any}
use Rattle.pim_net.specs.declared.parts.Equation.{Equation}
use Rattle.pim_net.specs.declared.parts.OutRef.{OutRef}

-- bit i of the first number is signal i; these are the signals of bit i of the second number, of the carry into bit i, and of
-- bit i of the sum
abbrev pub second : ℕ → ℕ → ℕ
second bits i = bits + i

abbrev pub carry : ℕ → ℕ → ℕ
carry bits i = 2 * bits + 2 * i

abbrev pub sum : ℕ → ℕ → ℕ
sum bits i = 2 * bits + 2 * i + 1

-- the label of a letter and a number
abbrev pub numbered : ℕ → ℕ → List ℕ
numbered letter k = label (letter ∷ decimal k)

-- what is added in bit i
abbrev pub columns : ℕ → ℕ → List ℕ
columns bits i = i ∷ second bits i ∷ carry bits i ∷ []

-- bit i of the sum is one where one of the three is, or all are
abbrev pub sum_equation : ℕ → ℕ → Equation
sum_equation bits i = record {
  sig = sum bits i;
  cover = record {
    ins = columns bits i;
    rows = (One ∷ Zero ∷ Zero ∷ []) ∷ (Zero ∷ One ∷ Zero ∷ []) ∷ (Zero ∷ Zero ∷ One ∷ []) ∷ (One ∷ One ∷ One ∷ []) ∷ [];
    phase = true;
  };
}

-- the carry into bit i + 1 is one where two of the three are
abbrev pub carry_equation : ℕ → ℕ → Equation
carry_equation bits i = record {
  sig = carry bits (i + 1);
  cover = record {
    ins = columns bits i;
    rows = (One ∷ One ∷ Any ∷ []) ∷ (One ∷ Any ∷ One ∷ []) ∷ (Any ∷ One ∷ One ∷ []) ∷ [];
    phase = true;
  };
}

-- the equations of bit i
abbrev pub bit_equations : ℕ → ℕ → List Equation
bit_equations bits i = sum_equation bits i ∷ carry_equation bits i ∷ []

-- a signal as an output
abbrev pub plain : ℕ → OutRef
plain s = record { sig = s; neg = false }

-- the adder of two numbers of so many bits: a0 and on, b0 and on, c0; and s0 and on, and the last carry
abbrev pub adder : ℕ → DraftView
adder bits = record {
  inputs = range_with_len 0 bits ++ range_with_len bits bits ++ 2 * bits ∷ [];
  input_labels = map (numbered 97) (range_with_len 0 bits) ++ map (numbered 98) (range_with_len 0 bits) ++ numbered 99 0 ∷ [];
  equations = flat_map (bit_equations bits) (range_with_len 0 bits);
  outputs = map (λ i. plain (sum bits i)) (range_with_len 0 bits) ++ plain (carry bits bits) ∷ [];
  output_labels = map (numbered 115) (range_with_len 0 bits) ++ numbered 99 bits ∷ [];
}
