-- The literals of slots.
use Rattle.std.proofs.Common.{◌≡◌, ℕ, ◌+◌, ◌-◌, ◌*◌, ◌<◌, ◌≤◌, arith}
use Rattle.pim_nor.specs.Named.{literal_at}

-- the literal of a slot, in each of its three cases
pub literal_low : (inputs s : ℕ) → s < 2 → (literal_at inputs s).0 ≡ 1 - s
literal_low inputs s h = grind arith

pub literal_mid : (inputs s : ℕ) → 2 ≤ s → s < 2 + inputs → (literal_at inputs s).0 ≡ 2 * (2 + inputs - s) + 1
literal_mid inputs s h k = grind arith

pub literal_high : (inputs s : ℕ) → 2 + inputs ≤ s → (literal_at inputs s).0 ≡ s + inputs
literal_high inputs s h = grind arith
