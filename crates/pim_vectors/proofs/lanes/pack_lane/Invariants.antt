use Rattle.std.proofs.Common.{◌≡◌, ℕ, ◌*◌, ◌<◌, ◌&&◌, cond, eqb, ltb, get_or}
use Rattle.pim_vectors.specs.inner.Cells.{lane_at}
use Rattle.pim_vectors.proofs.lanes.pack_lane.Given as goal

-- the lane of the columns so far has its bits, and all others are as they were
abbrev pub invariant-loop-column : goal.invariant-loop-column
invariant-loop-column l =
    (c r : ℕ) → r < 64 * l.words → lane_at l.words l.buffer c r
    ≡ cond (ltb c l.column && eqb r l.index) (eqb (get_or l.line c 0) 49) (lane_at l.words l.initial.buffer c r)
