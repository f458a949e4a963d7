use Rattle.std.proofs.Common.{◌≡◌, ◌≢◌, ℕ, ◌*◌, ◌<◌}
use Rattle.pim_io.specs.Lanes.{is_set}
use Rattle.pim_vectors.specs.inner.Cells.{staged_at}
use Rattle.pim_vectors.proofs.eights.split.Given as goal

-- the bytes so far are those of the word, and all other columns are as they were
abbrev pub invariant-loop-eight : goal.invariant-loop-eight
invariant-loop-eight l = record {
  done : (r : ℕ) → r < 8 * l.eight → staged_at l.columns l.bytes l.column r ≡ is_set l.word r;
  others : (c r : ℕ) → c < l.columns → c ≢ l.column → r < 64 → staged_at l.columns l.bytes c r ≡ staged_at l.columns l.initial.bytes c r;
}
