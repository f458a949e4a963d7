-- Up to 64 vectors on their way into a tile or out of one: a byte for each place of a vector and each eight of them.
use Rattle.std.specs.Prelude.{ℕ, ◌+◌, ◌*◌, ◌/◌, ◌%◌, Bool, List, map, slice_index}
use Rattle.std.specs.List.{range_with_len}
use Rattle.pim_io.specs.Lanes.{is_set}

-- the number of columns, and a byte of each for the first eight lanes, then one of each for the next eight, and so on
pub record StageView : Type 0 where
  pub columns : ℕ
  pub bytes : List ℕ

-- the vector in lane r of a stage: bit r mod 8 of each column's byte for those eight lanes
unfoldable pub staged : StageView → ℕ → List Bool
staged s r = map (λ c. is_set (slice_index s.bytes (r / 8 * s.columns + c)) (r % 8)) (range_with_len 0 s.columns)
