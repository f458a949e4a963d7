use Rattle.std.proofs.Common.{◌≡◌, ℕ, ◌+◌, ◌*◌, ◌<◌, get_or}
use Rattle.pim_io.specs.Lanes.{is_set}
use Rattle.pim_vectors.specs.inner.Cells.{staged_at}
use Rattle.pim_vectors.proofs.blocks.take_words.Given as goal

-- the words of the columns so far are read
abbrev pub invariant-loop-c : goal.invariant-loop-c
invariant-loop-c l = (j r : ℕ) → j < l.c → r < 64 → staged_at l.columns l.bytes j r ≡ is_set (get_or l.buffer (j * l.words + l.at) 0) r
