-- How a tile ends, once a column that it lent for writing is let go.
use Rattle.std.specs.Prelude.{ℕ, List}
use Rattle.std.specs.Borrow.{Fml, MutBor, Lends, Array, u64}
use Rattle.pim_vectors.specs.contracts.tile.Tile.{the_row}
use Rattle.pim_vectors.specs.Tiles.{TileView, with_column}

-- as it was, with what was written last in column k
abbrev pub LendsColumn : MutBor TileView → ℕ → MutBor (List ℕ) → Fml
LendsColumn t k r = Lends the_row (Array u64 0) t r (with_column t.now k)
