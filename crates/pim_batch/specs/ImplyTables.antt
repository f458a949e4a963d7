-- What a program of the IMPLY machine gives for vectors, one line after another, and how many vectors are executed together.
use Rattle.std.specs.Prelude.{ℕ, ◌+◌, ◌*◌, ◌/◌, min, Bool, List, [], ◌∷◌, ◌++◌, length}
use Rattle.pim_io.specs.Bits.{line_of}
use Rattle.pim_io.specs.declared.limits.TheConstants.{MAX_INPUT}
use Rattle.pim_isa.specs.declared.target.Fill.{Fill}
use Rattle.pim_imply.specs.Machines.{iresult_of}
use Rattle.pim_imply.specs.Programs.{ImplyView}
use Rattle.pim_lanes.specs.declared.limits.TheConstants.{LARGE_WORDS}
use Rattle.pim_batch.specs.Runners.{Runner}

-- the line that a program gives for the bits of a vector
abbrev pub imply_line : ImplyView → Fill → List Bool → List ℕ
imply_line p fill bits = line_of (iresult_of p fill bits) ++ 10 ∷ []

-- how many rows are packed before they are executed, for vectors of so many bits: 4,096, or where an input can't have that many
-- lines of this length, more than it can have
abbrev pub imply_rows : ℕ → ℕ
imply_rows inputs = min (64 * LARGE_WORDS) (MAX_INPUT / (inputs + 1) + 2)

-- a program on rows of which each begins with the filling in all cells that are no inputs
abbrev pub imply_runner : ImplyView → Fill → Runner
imply_runner p fill = record { width = length p.inputs; tile = imply_rows (length p.inputs); result = imply_line p fill }
