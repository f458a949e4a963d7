use Rattle.std.proofs.Common.{◌≡◌, ℕ, ◌<◌, get_or}
use Rattle.pim_io.specs.Bits.{digit_of}
use Rattle.pim_vectors.specs.inner.Cells.{lane_at}
use Rattle.pim_vectors.proofs.lanes.unpack_lane.Given as goal

-- the characters of the columns so far are written
abbrev pub invariant-loop-column : goal.invariant-loop-column
invariant-loop-column l = (k : ℕ) → k < l.column → get_or l.line k 0 ≡ digit_of (lane_at l.words l.buffer k l.index)
