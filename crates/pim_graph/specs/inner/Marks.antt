-- Inner. Gates that carry a mark.
use Rattle.std.specs.Prelude.{ℕ, Bool, false, List, slice_index_or}

-- the gate is there and carries a mark
abbrev pub is_marked : List Bool → ℕ → Bool
is_marked marks x = slice_index_or marks x false
