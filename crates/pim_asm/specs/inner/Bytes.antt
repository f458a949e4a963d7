-- Inner: bytes are below 256, which a list of numbers doesn't say.
use Rattle.std.specs.Prelude.{ℕ, ◌<◌, List}
use Rattle.std.specs.List.{AllByRecursion}
use Rattle.pim_isa.specs.declared.port.Port.{Port}

-- numbers that are bytes
abbrev pub AreBytes : List ℕ → Type 0
AreBytes text = AllByRecursion (λ b. b < 256) text

-- a port whose label is bytes
abbrev pub HasByteLabel : Port → Type 0
HasByteLabel port = AreBytes port.label
