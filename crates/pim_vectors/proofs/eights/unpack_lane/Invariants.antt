use Rattle.std.proofs.Common.{◌≡◌, ℕ, ◌<◌, get_or}
use Rattle.pim_io.specs.Bits.{digit_of}
use Rattle.pim_vectors.specs.inner.Cells.{staged_at}
use Rattle.pim_vectors.proofs.eights.unpack_lane.Given as goal

-- the characters of the columns so far are written
abbrev pub invariant-loop-k : goal.invariant-loop-k
invariant-loop-k l = (c : ℕ) → c < l.k → get_or l.line c 0 ≡ digit_of (staged_at l.columns l.bytes c l.index)
