use Rattle.std.proofs.Common.{◌≡◌, ℕ, ◌+◌, ◌<◌, ◌≤◌, ◌^◌, ◌++◌, length, take}
use Rattle.pim_io.specs.Codes.{code_within, code_of}
use Rattle.pim_io.proofs.codes.put_code.Given as goal

abbrev pub invariant-loop-rest : goal.invariant-loop-rest
invariant-loop-rest l =
    (l.len ≤ 4)
    × (length l.bytes ≡ 5)
    × (l.len ≡ 1 → l.rest < 2 ^ 25)
    × (l.len ≡ 2 → l.rest < 2 ^ 18)
    × (l.len ≡ 3 → l.rest < 2 ^ 11)
    × (l.len ≡ 4 → l.rest < 2 ^ 4)
    × ((n : ℕ) → n + l.len ≡ 4 → take l.len l.bytes ++ code_within n l.rest ≡ code_of l.value)

abbrev pub decreases-loop-rest : goal.decreases-loop-rest
decreases-loop-rest l = l.rest
