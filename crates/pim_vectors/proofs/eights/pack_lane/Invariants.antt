use Rattle.std.proofs.Common.{◌≡◌, ℕ, ◌<◌, ◌&&◌, cond, eqb, ltb, get_or}
use Rattle.pim_vectors.specs.inner.Cells.{staged_at}
use Rattle.pim_vectors.proofs.eights.pack_lane.Given as goal

-- the lane of the columns so far has its bits, and all others are as they were
abbrev pub invariant-loop-k : goal.invariant-loop-k
invariant-loop-k l =
    (c r : ℕ) → c < l.columns → r < 64 → staged_at l.columns l.bytes c r
    ≡ cond (ltb c l.k && eqb r l.index) (eqb (get_or l.line c 0) 49) (staged_at l.columns l.initial.bytes c r)
