-- Inner: the lines of the vectors in a tile.
use Rattle.std.specs.Prelude.{◌≡◌, ◌≢◌, ℕ, ◌+◌, ◌*◌, ◌/◌, ◌%◌, ◌<◌, ◌++◌, ◌∷◌, [], List}
use Rattle.std.specs.List.{flat_map, range_with_len}
use Rattle.pim_io.specs.Bits.{line_of}
use Rattle.pim_vectors.specs.Stages.{StageView, staged}
use Rattle.pim_vectors.specs.Tiles.{TileView, vector_of}

-- the vector in a lane of a tile as a line
abbrev pub row_line : TileView → ℕ → List ℕ
row_line t r = line_of (vector_of t r) ++ 10 ∷ []

-- the vectors in so many lanes of a tile from one of them on, a line for each
abbrev pub row_lines_from : TileView → ℕ → ℕ → List ℕ
row_lines_from t from count = flat_map (row_line t) (range_with_len from count)

-- the vectors in the first lanes of a tile, a line for each
abbrev pub row_lines : TileView → ℕ → List ℕ
row_lines t rows = row_lines_from t 0 rows

-- a stage for lines of a tile: it holds the rows that share a word with this one, unless this is the first of them
pub record IsStage (t : TileView) (stage : StageView) (index : ℕ) : Type 0 where
  pub columns : stage.columns ≡ t.columns
  pub held : index % 64 ≢ 0 → (r : ℕ) → r < 64 → staged stage r ≡ vector_of t (64 * (index / 64) + r)
