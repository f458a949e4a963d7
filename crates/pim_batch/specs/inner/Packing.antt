-- Inner: rows that are packed one after another: full words of them stand in a tile, the last ones in a stage.
use Rattle.std.specs.Prelude.{◌≡◌, ℕ, ◌*◌, ◌/◌, ◌%◌, ◌≤◌, ◌==◌, if◌then◌else◌, Bool, List, map}
use Rattle.std.specs.List.{range_with_len}
use Rattle.pim_vectors.specs.declared.limits.TheConstants.{MAX_WORDS}
use Rattle.pim_vectors.specs.Stages.{StageView, staged}
use Rattle.pim_vectors.specs.Tiles.{TileView, vector_of}

-- the tile for the rows, and the rows
pub record PackedView : Type 0 where
  pub tile : TileView
  pub rows : List (List Bool)

-- of so many rows the one at place r: it stands in the stage where its word of the tile isn't full yet
abbrev pub packed_row : TileView → StageView → ℕ → ℕ → List Bool
packed_row tile stage count r = if r / 64 == count / 64 then staged stage (r % 64) else vector_of tile r

-- so many rows
abbrev pub packed_rows : TileView → StageView → ℕ → List (List Bool)
packed_rows tile stage count = map (packed_row tile stage count) (range_with_len 0 count)

-- what is kept of them: a stage has as many columns as the tile, and there is a lane for each row
pub record IsPacked (tile : TileView) (stage : StageView) (count : ℕ) : Type 0 where
  pub columns : stage.columns ≡ tile.columns
  pub short : tile.words ≤ MAX_WORDS
  pub within : count ≤ 64 * tile.words
