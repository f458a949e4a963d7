-- What a refusal says.
use Rattle.std.specs.Prelude.{ℕ, ◌<◌}
use Rattle.pim_aig.specs.declared.fault.FlatFault.{FlatFault}
use Rattle.pim_aig.specs.declared.fault.FlatFault.TheVariants.{TooLarge, NoMemory}
use Rattle.pim_aig.specs.declared.graph.TheConstants.{MAX_ANDS}

-- what the fault says of the number of AND nodes: too large comes only above the limit, and being out of memory says nothing
abbrev pub Says : FlatFault → ℕ → Type 0
Says TooLarge n = MAX_ANDS < n
Says NoMemory n = Unit {0}
