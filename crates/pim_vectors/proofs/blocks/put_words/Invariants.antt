use Rattle.std.proofs.Common.{◌≡◌, ◌≢◌, ℕ, ◌+◌, ◌*◌, ◌<◌, get_or}
use Rattle.pim_io.specs.Lanes.{is_set}
use Rattle.pim_vectors.specs.inner.Cells.{staged_at}
use Rattle.pim_vectors.proofs.blocks.put_words.Given as goal

-- the words of the columns so far are written, and all others are as they were
abbrev pub invariant-loop-c : goal.invariant-loop-c
invariant-loop-c l = record {
  done : (j r : ℕ) → j < l.c → r < 64 → is_set (get_or l.buffer (j * l.words + l.at) 0) r ≡ staged_at l.columns l.bytes j r;
  others : (j v : ℕ) → v < l.words → v ≢ l.at → get_or l.buffer (j * l.words + v) 0 ≡ get_or l.initial.buffer (j * l.words + v) 0;
}
