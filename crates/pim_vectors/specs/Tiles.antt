-- Vectors side by side in a tile: a column of words for each place of a vector, with a lane of each column for each vector.
use Rattle.std.specs.Prelude.{◌≡◌, ℕ, ◌*◌, ◌<◌, ◌⊎◌, Bool, List, length, map, All}
use Rattle.std.specs.List.{range_with_len}
use Rattle.pim_io.specs.Lanes.{lane, column_in, with_words}

-- the number of columns, the words of each, and the words of all, one column after another
pub record TileView : Type 0 where
  pub columns : ℕ
  pub words : ℕ
  pub buffer : List ℕ

-- column c of a tile
abbrev pub column_of : TileView → ℕ → List ℕ
column_of t c = column_in t.words t.buffer c

-- the vector in lane r of a tile: lane r of each column
unfoldable pub vector_of : TileView → ℕ → List Bool
vector_of t r = map (λ c. lane (column_of t c) r) (range_with_len 0 t.columns)

-- the tile with these words in column k
abbrev pub with_column : TileView → ℕ → List ℕ → TileView
with_column t k column = record t { buffer = with_words t.buffer (k * t.words) column }

-- r is the number of a lane
abbrev pub IsLane : TileView → ℕ → Type 0
IsLane t r = r < 64 * t.words

-- the sizes are as they were
pub record SameSizes (old new : TileView) : Type 0 where
  pub columns : new.columns ≡ old.columns
  pub words : new.words ≡ old.words

-- a line of so many characters, each of them 0 or 1
abbrev pub IsVector : ℕ → List ℕ → Type 0
IsVector inputs line = (length line ≡ inputs) × All (λ b. (b ≡ 48) ⊎ (b ≡ 49)) line
