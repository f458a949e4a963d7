-- Literals of an old graph in a new one, where each old node has a literal there.
use Rattle.std.specs.Prelude.{ℕ, ◌+◌, ◌/◌, ◌%◌, ◌==◌, if◌then◌else◌, List, map, slice_index_or}
use Rattle.std.specs.List.{range_with_len}
use Rattle.pim_aig.specs.Literals.{complement, plain}
use Rattle.pim_aig.specs.declared.literal.Lit.{Lit}

-- an old literal in the new graph
abbrev pub moved : List Lit → Lit → Lit
moved lits l =
    if l.0 % 2 == 1 then complement (slice_index_or lits (l.0 / 2) (record { 0 = 0 }))
    else slice_index_or lits (l.0 / 2) (record { 0 = 0 })

-- the literals of the constant and of so many inputs, which are as they were
abbrev pub kept : ℕ → List Lit
kept inputs = map plain (range_with_len 0 (1 + inputs))
