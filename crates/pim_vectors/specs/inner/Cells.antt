-- Inner: one bit of a tile's list of words, and of a stage's list of bytes.
use Rattle.std.specs.Prelude.{ℕ, ◌+◌, ◌*◌, ◌/◌, ◌%◌, Bool, List, slice_index}
use Rattle.pim_io.specs.Lanes.{is_set}

-- lane r of column c in columns of so many words that stand one after another
unfoldable pub lane_at : ℕ → List ℕ → ℕ → ℕ → Bool
lane_at words buffer c r = is_set (slice_index buffer (c * words + r / 64)) (r % 64)

-- lane r of column c where a byte for each of so many columns has eight lanes, and the bytes of the next eight lanes stand behind
unfoldable pub staged_at : ℕ → List ℕ → ℕ → ℕ → Bool
staged_at columns bytes c r = is_set (slice_index bytes (r / 8 * columns + c)) (r % 8)
