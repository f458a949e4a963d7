-- Inner: the lines that a program of the IMPLY machine gives for the vectors in a tile.
use Rattle.std.specs.Prelude.{ℕ, List}
use Rattle.std.specs.List.{flat_map, range_with_len}
use Rattle.pim_isa.specs.declared.target.Fill.{Fill}
use Rattle.pim_vectors.specs.Tiles.{TileView, vector_of}
use Rattle.pim_imply.specs.Programs.{ImplyView}
use Rattle.pim_batch.specs.ImplyTables.{imply_line}

-- those for the vectors in so many lanes from one of them on
abbrev pub imply_lines : ImplyView → Fill → TileView → ℕ → ℕ → List ℕ
imply_lines p fill t from count = flat_map (λ r. imply_line p fill (vector_of t r)) (range_with_len from count)
