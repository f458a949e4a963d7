-- What holds of the values of every netlist.
use Rattle.std.specs.Prelude.{◌≡◌, ◌<◌, ℕ, Bool, List, Contains, IsSome, length, slice_get, slice_index}
use Rattle.pim_net.specs.Netlist.{NetView}
use Rattle.pim_net.specs.Drivers.{driven, sigs}
use Rattle.pim_net.specs.Values.{value, equation_value}

-- with a bit per input, every signal that is driven has a value
abbrev pub HasValues : NetView → Type 0
HasValues net =
    (bits : List Bool) (s : ℕ) → length bits ≡ length net.inputs → Contains (driven net.inputs net.equations) s → IsSome (value net bits s)

-- the signal of an input has the input's bit
abbrev pub HasInputValues : NetView → Type 0
HasInputValues net =
    (bits : List Bool) (j : ℕ) → length bits ≡ length net.inputs → j < length net.inputs
    → value net bits (slice_index net.inputs j) ≡ slice_get bits j

-- and the signal of an equation has the value of its cover at the values of its columns
abbrev pub HasCoverValues : NetView → Type 0
HasCoverValues net =
    (bits : List Bool) (k : ℕ) → length bits ≡ length net.inputs → k < length net.equations
    → value net bits (slice_index (sigs net.equations) k) ≡ equation_value (λ c. value net bits c) (slice_get net.equations k)
