-- The programs that stand one after another in a file.
use Rattle.std.specs.Prelude.{ℕ, ◌+◌, ◌<◌, ◌≤◌, ◌^◌, Bool, ◌&&◌, ◌||◌, ◌==◌, nat_lt, if◌then◌else◌, List, [], ◌∷◌, ◌++◌, codes, drop, length, slice_range, sum_by, Result, Ok, Err}
use Rattle.std.specs.Str.{bytes_eq}
use Rattle.pim_io.specs.Lines.{LineView, lines}
use Rattle.pim_io.specs.Readings.{◌>>=◌}
use Rattle.pim_isa.specs.Programs.{ProgramView}
use Rattle.pim_file.specs.ProgramFile.{parse1_of}
use Rattle.pim_file.specs.declared.fault.FileFault.{FileFault}
use Rattle.pim_share.specs.declared.fault.ManyFault.{ManyFault}
use Rattle.pim_share.specs.declared.fault.ManyFault.TheVariants as faults

-- a line that is exactly `end`, with its newline
abbrev pub is_end : LineView → Bool
is_end line = line.ended && bytes_eq line.text (codes "end")

-- the place behind a line and its newline
abbrev pub behind : LineView → ℕ
behind line = line.start + length line.text + 1

-- a piece begins at the place `from`, behind the last cut: bytes are left there, or nothing was cut
abbrev pub has_rest : ℕ → List ℕ → Bool
has_rest from bytes = (from == 0) || nat_lt from (length bytes)

-- the pieces from the place `from` on, which are cut behind each of these lines that is `end`; the bytes behind the last
-- cut are a piece, where there are any, and so is a file without bytes
abbrev pub pieces_from : ℕ → List LineView → List ℕ → List (List ℕ)
pieces_from from [] bytes = if has_rest from bytes then drop from bytes ∷ [] else []
pieces_from from (line ∷ others) bytes =
    if is_end line
    then slice_range bytes from (behind line) ∷ pieces_from (behind line) others bytes
    else pieces_from from others bytes

-- the pieces of a file
abbrev pub pieces : List ℕ → List (List ℕ)
pieces bytes = pieces_from 0 (lines bytes) bytes

-- the program of the piece with this number
abbrev pub part_of : ℕ → Result ProgramView FileFault → Result ProgramView ManyFault
part_of part (Ok program) = Ok program
part_of part (Err fault) = Err (faults.Part part fault)

-- the programs so far and that of one more piece, or its fault
abbrev pub with_part : List ProgramView → List ℕ → Result (List ProgramView) ManyFault
with_part parts piece =
    part_of (length parts) (parse1_of piece) >>= λ program. Ok (parts ++ program ∷ [])

-- the programs so far and those of further pieces, or the fault of the first of these that is no program
abbrev pub parts_after : List ProgramView → List (List ℕ) → Result (List ProgramView) ManyFault
parts_after parts [] = Ok parts
parts_after parts (piece ∷ others) = with_part parts piece >>= λ more. parts_after more others

-- the programs of a file, or the fault of the first piece that is no program
unfoldable pub parts_of : List ℕ → Result (List ProgramView) ManyFault
parts_of bytes = parts_after [] (pieces bytes)

-- how many inputs and outputs programs have in all
abbrev pub ports_in_all : List ProgramView → ℕ
ports_in_all parts = sum_by (λ p. length p.inputs + length p.outputs) parts

-- programs as few and as small as a merger takes: at least one, and no more than 2^24, with fewer than 2^28 ports
pub record AreFew (parts : List ProgramView) : Type 0 where
  pub some : 0 < length parts
  pub few : length parts ≤ 2 ^ 24
  pub ports : ports_in_all parts < 2 ^ 28
