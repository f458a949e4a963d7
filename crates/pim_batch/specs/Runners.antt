-- What executes the lines of a text, row by row.
use Rattle.std.specs.Prelude.{ℕ, Bool, List}
use Rattle.std.specs.List.{flat_map}

-- how many characters a line has, how many rows a tile has, and the line of results that the bits of a row give
pub record Runner : Type 0 where
  pub width : ℕ
  pub tile : ℕ
  pub result : List Bool → List ℕ

-- the lines of results of rows, one after another
abbrev pub results : Runner → List (List Bool) → List ℕ
results runner rows = flat_map runner.result rows
