-- Inner: what the types of this crate keep.
use Rattle.std.specs.Prelude.{◌≡◌, ℕ, ◌+◌, ◌-◌, ◌*◌, ◌<◌, ◌≤◌, length}
use Rattle.pim_io.specs.declared.limits.TheConstants.{MAX_INPUT}
use Rattle.pim_vectors.specs.declared.limits.TheConstants.{MAX_LINES, MAX_WORDS}
use Rattle.pim_vectors.specs.Stages.{StageView}
use Rattle.pim_vectors.specs.Tiles.{TileView}

-- what the buffer of `len` bytes keeps: the bytes that were taken and not handed out are those from `start` to `end`; there is
-- room for more than the longest line with its end; and the limits hold, but for one byte more that was taken
pub record IsBuffer (start end len longest given place : ℕ) : Type 0 where
  pub ordered : start ≤ end
  pub within : end ≤ len
  pub room : longest + 2 < len
  pub few : given ≤ MAX_LINES
  pub limit : place ≤ MAX_INPUT
  pub taken : place + (end - start) ≤ MAX_INPUT + 1

-- what every tile keeps: its sizes
pub record IsTile (t : TileView) : Type 0 where
  pub short : t.words ≤ MAX_WORDS
  pub whole : length t.buffer ≡ t.columns * t.words

-- what every stage keeps: a byte of each column for each eight of 64 lanes
abbrev pub IsWhole : StageView → Type 0
IsWhole s = length s.bytes ≡ 8 * s.columns
