use Rattle.std.proofs.Common.{◌≡◌, ℕ, ◌*◌, ◌<◌, false, cond, ltb}
use Rattle.pim_io.specs.Lanes.{is_set}
use Rattle.pim_vectors.specs.inner.Cells.{staged_at}
use Rattle.pim_vectors.proofs.eights.join.Given as goal

-- the bytes so far stand in the word
abbrev pub invariant-loop-eight : goal.invariant-loop-eight
invariant-loop-eight l =
    (r : ℕ) → r < 64 → is_set l.word r ≡ cond (ltb r (8 * l.eight)) (staged_at l.columns l.bytes l.column r) false
