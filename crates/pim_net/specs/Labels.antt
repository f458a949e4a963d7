-- What a name is that a label is made of.
use Rattle.std.specs.Prelude.{ℕ, ◌<◌, ◌≤◌, List, length}
use Rattle.pim_io.specs.declared.limits.TheConstants.{MAX_NAME}

-- a name has 1 to 4,096 bytes
abbrev pub IsName : List ℕ → Type 0
IsName bytes = (0 < length bytes) × (length bytes ≤ MAX_NAME)
