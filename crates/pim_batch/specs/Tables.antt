-- What a program gives for vectors, one line after another, and how many vectors are executed together.
use Rattle.std.specs.Prelude.{ℕ, ◌*◌, ◌&&◌, nat_le, if◌then◌else◌, Bool, List, [], ◌∷◌, ◌++◌, length}
use Rattle.std.specs.List.{flat_map}
use Rattle.pim_io.specs.Bits.{line_of}
use Rattle.pim_isa.specs.Programs.{ProgramView}
use Rattle.pim_isa.specs.Results.{result_of}
use Rattle.pim_isa.specs.declared.target.Fill.{Fill}
use Rattle.pim_lanes.specs.declared.limits.TheConstants.{MAX_LARGE, LARGE_WORDS}
use Rattle.pim_batch.specs.declared.limits.TheConstants.{SMALL_WORDS}
use Rattle.pim_batch.specs.Runners.{Runner}

-- the line that a program gives for the bits of a vector
abbrev pub result_line : ProgramView → Fill → List Bool → List ℕ
result_line p fill bits = line_of (result_of p fill bits) ++ 10 ∷ []

-- the lines that a program gives for vectors, one after another
abbrev pub table : ProgramView → Fill → List (List Bool) → List ℕ
table p fill vectors = flat_map (result_line p fill) vectors

-- how many words a column of a tile has: 64 rows in each
abbrev pub tile_words : ProgramView → ℕ
tile_words p = if nat_le p.cells MAX_LARGE && nat_le (length p.outputs) MAX_LARGE then LARGE_WORDS else SMALL_WORDS

-- how many rows are executed together
abbrev pub tile_rows : ProgramView → ℕ
tile_rows p = 64 * tile_words p

-- a program on rows of which each begins with the filling in all cells that are no inputs
abbrev pub runner_of : ProgramView → Fill → Runner
runner_of p fill = record { width = length p.inputs; tile = tile_rows p; result = result_line p fill }
