-- How a walk over the lines of an input ends, which executes each line as a row and writes a tile of results at a time.
use Rattle.std.specs.Prelude.{◌≡◌, ℕ, ◌-◌, ◌%◌, ◌≤◌, Bool, List, [], length, map, take, Option, None, Some, Result, Ok, Err}
use Rattle.pim_io.specs.Bits.{bits_of}
use Rattle.pim_io.specs.Outside.{TookAll, TookFirst}
use Rattle.pim_batch.specs.Runners.{Runner, results}
use Rattle.pim_vectors.specs.Lines.{lines}
use Rattle.pim_top.specs.Judged.{Halts, first_refusal, fitting_lines, input_refusal}
use Rattle.pim_top.specs.Streams.{AreSteady, IsUnread, IsUnwritten, Stream}
use Rattle.pim_top.specs.declared.judgement.Judgement.TheVariants.{TooManyLines, Vector}
use Rattle.pim_top.specs.declared.refusal.Origin.TheVariants.{Input}
use Rattle.pim_top.specs.declared.refusal.Refusal.{Refusal}
use Rattle.pim_top.specs.declared.refusal.Refusal.TheVariants.{Judged, ReadFault, TooLong, WriteFault}

-- the bits of lines
abbrev pub rows_of : List (List ℕ) → List (List Bool)
rows_of ls = map bits_of ls

-- of so many rows, those that fill tiles
abbrev pub full_rows : Runner → ℕ → ℕ
full_rows runner n = n - n % runner.tile

-- the lines of results of those of the lines that fill tiles
abbrev pub tiles_of : Runner → List (List ℕ) → List ℕ
tiles_of runner ls = results runner (take (full_rows runner (length ls)) (rows_of ls))

-- all was read, all lines fit, and the output took the line of results of each
pub record RanWhole (runner : Runner) (bytes rest : List ℕ) (before now : Option (List ℕ)) : Type 0 where
  pub all : rest ≡ []
  pub fine : input_refusal runner.width bytes ≡ None
  pub took : TookAll before now (results runner (rows_of (fitting_lines runner.width bytes)))

-- a line is refused, or there are too many bytes; the output took the results of the full tiles of the lines before that
pub record RanTo (runner : Runner) (bytes : List ℕ) (before now : Option (List ℕ)) (r : Refusal) : Type 0 where
  pub refused : input_refusal runner.width bytes ≡ Some r
  pub took : TookAll before now (tiles_of runner (fitting_lines runner.width bytes))

-- the source failed behind lines that all fit; the output took the results of the full tiles of those lines
pub record RanShort (runner : Runner) (bytes rest : List ℕ) (before now : Option (List ℕ)) : Type 0 where
  pub front : List ℕ
  pub halts : Halts runner.width bytes rest front
  pub fit : first_refusal runner.width 0 None (lines front) ≡ None
  pub took : TookAll before now (tiles_of runner (lines front))

-- the output took the front of the results of the first lines that fit
pub record RanInPart (runner : Runner) (bytes : List ℕ) (before now : Option (List ℕ)) : Type 0 where
  pub count : ℕ
  pub there : count ≤ length (fitting_lines runner.width bytes)
  pub took : TookFirst before now (results runner (rows_of (take count (fitting_lines runner.width bytes))))

-- a line or a limit is refused, and no count of faults rose
abbrev pub IsStopped : Runner → Stream → Stream → Refusal → Type 0
IsStopped runner i o r = AreSteady i o (λ bytes rest. RanTo runner bytes o.before o.now r)

-- how the walk ends: what it answers, what was read, and what the output took
abbrev pub WalkEnds : {Y : Type 0} → Runner → Stream → Stream → Result Y Refusal → Type 0
WalkEnds runner i o (Ok y) = AreSteady i o (λ bytes rest. RanWhole runner bytes rest o.before o.now)
WalkEnds runner i o (Err (ReadFault Input)) = IsUnread i o (λ bytes rest. RanShort runner bytes rest o.before o.now)
WalkEnds runner i o (Err WriteFault) = IsUnwritten i o (λ bytes rest. RanInPart runner bytes o.before o.now)
WalkEnds runner i o (Err (TooLong Input)) = IsStopped runner i o (TooLong Input)
WalkEnds runner i o (Err (Judged (Vector n))) = IsStopped runner i o (Judged (Vector n))
WalkEnds runner i o (Err (Judged TooManyLines)) = IsStopped runner i o (Judged TooManyLines)
WalkEnds runner i o (Err r) = ⊥

-- what a walk over all bytes of an input gives: the line of results of each line, or why it is refused
abbrev pub ran : Runner → List ℕ → Option Refusal → Result (List ℕ) Refusal
ran runner bytes None = Ok (results runner (rows_of (fitting_lines runner.width bytes)))
ran runner bytes (Some r) = Err r
