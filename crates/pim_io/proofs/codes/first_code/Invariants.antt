use Rattle.std.proofs.Common.{◌≡◌, ℕ, ◌<◌, ◌≤◌, ◌^◌, true, length, take, get_or}
use Rattle.pim_io.specs.Codes.{code_value, is_high}
use Rattle.pim_io.proofs.codes.first_code.Given as goal

abbrev pub invariant-loop-k : goal.invariant-loop-k
invariant-loop-k l =
    (l.scale ≡ 128 ^ l.k) × (l.value < l.scale) × (l.value ≡ code_value (take l.k l.bytes)) × (l.k ≤ length l.bytes) × ((j : ℕ) → j < l.k → is_high (get_or l.bytes j 0) ≡ true)
