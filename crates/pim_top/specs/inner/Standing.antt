-- Inner: where a walk over the lines of an input stands, and how it goes on.
use Rattle.std.specs.Prelude.{◌≡◌, ◌⊎◌, ℕ, ◌+◌, ◌*◌, ◌≤◌, Bool, true, false, List, [], ◌∷◌, ◌++◌, length, Option, None, Some}
use Rattle.pim_batch.specs.Runners.{Runner, results}
use Rattle.pim_io.specs.Bits.{bits_of}
use Rattle.pim_io.specs.Outside.{Rose, TookAll}
use Rattle.pim_vectors.specs.Lines.{lines}
use Rattle.pim_vectors.specs.Next.{LinesView}
use Rattle.pim_vectors.specs.declared.fault.LinesFault.{LinesFault}
use Rattle.pim_vectors.specs.declared.fault.LinesFault.TheVariants as fault
use Rattle.pim_vectors.specs.declared.limits.TheConstants.{MAX_LINES}
use Rattle.pim_top.specs.Judged.{Halts, first_refusal, fitting, fitting_lines, input_refusal, last_piece}
use Rattle.pim_top.specs.Walks.{RanInPart, RanShort, RanTo, RanWhole, rows_of}
use Rattle.pim_top.specs.declared.judgement.Judgement.TheVariants as judgement
use Rattle.pim_io.specs.declared.limits.TheConstants.{MAX_INPUT}
use Rattle.pim_top.specs.declared.refusal.Origin.TheVariants as origin
use Rattle.pim_top.specs.declared.refusal.Refusal.{Refusal}
use Rattle.pim_top.specs.declared.refusal.Refusal.TheVariants as refusal

-- a walk that stands before its first line
abbrev pub first_line : ℕ → LinesView
first_line width = record { longest = width; given = 0; place = 0; held = [] }

-- of the bytes the front was handed out as lines of at most so many bytes, some more are held, and the rest is left in the source
pub record IsAtLine (longest : ℕ) (bytes rest : List ℕ) (l : LinesView) (front : List ℕ) : Type 0 where
  pub same : l.longest ≡ longest
  pub cut : bytes ≡ front ++ (l.held ++ rest)
  pub place : l.place ≡ length front
  pub within : length front ≤ MAX_INPUT
  pub whole : (last_piece front ≡ []) ⊎ (l.held ++ rest ≡ [])
  pub given : l.given ≡ length (lines front)

-- the same, where all of these lines fit
pub record IsWalk (width : ℕ) (bytes rest : List ℕ) (l : LinesView) (front : List ℕ) : Type 0 where
  pub at : IsAtLine width bytes rest l front
  pub refusals : (behind : Option Refusal) (more : List (List ℕ)) → first_refusal width 0 behind (lines front ++ more) ≡ first_refusal width l.given behind more
  pub fits : (more : List (List ℕ)) → fitting width 0 (lines front ++ more) ≡ lines front ++ fitting width l.given more

-- one line more was handed out, which fits, and its bits are packed
pub record TakesUp (width : ℕ) (bytes rest front : List ℕ) (old : List (List Bool)) (l : LinesView) (rows : List (List Bool)) : Type 0 where
  pub line : List ℕ
  pub further : List ℕ
  pub walk : IsWalk width bytes rest l further
  pub more : lines further ≡ lines front ++ line ∷ []
  pub packed : rows ≡ old ++ bits_of line ∷ []

-- all bytes were handed out as lines
pub record IsEnd (width : ℕ) (bytes rest front : List ℕ) : Type 0 where
  pub all : rest ≡ []
  pub fine : input_refusal width bytes ≡ None
  pub fits : fitting_lines width bytes ≡ lines front

-- a line was packed, or there was none
abbrev pub Goes : Bool → ℕ → List ℕ → List ℕ → List ℕ → List (List Bool) → LinesView → List (List Bool) → Type 0
Goes true width bytes rest front old l rows = TakesUp width bytes rest front old l rows
Goes false width bytes rest front old l rows = IsEnd width bytes rest front × (rows ≡ old)

-- the line behind those that were handed out is refused
pub record IsRefusedHere (width : ℕ) (bytes front : List ℕ) (r : Refusal) : Type 0 where
  pub refused : input_refusal width bytes ≡ Some r
  pub fits : fitting_lines width bytes ≡ lines front

-- why no line was packed
abbrev pub Stops : ℕ → List ℕ → List ℕ → List ℕ → Refusal → Type 0
Stops width bytes rest front (refusal.ReadFault origin.Input) = Halts width bytes rest front
Stops width bytes rest front r = IsRefusedHere width bytes front r

-- where the walk stands, and what the output took: the rows that were written fill tiles, and those that are packed don't
pub record IsRunning (runner : Runner) (bytes rest : List ℕ) (before now : Option (List ℕ)) (l : LinesView) (rows : List (List Bool)) : Type 0 where
  pub front : List ℕ
  pub walk : IsWalk runner.width bytes rest l front
  pub gone : List (List Bool)
  pub cut : rows_of (lines front) ≡ gone ++ rows
  pub tiles : ℕ
  pub full : length gone ≡ tiles * runner.tile
  pub took : TookAll before now (results runner gone)

-- how a walk goes on: there may be more lines, or all was written
abbrev pub GoesOn : Bool → Runner → List ℕ → List ℕ → Option (List ℕ) → Option (List ℕ) → LinesView → List (List Bool) → Type 0
GoesOn true runner bytes rest before now l rows = IsRunning runner bytes rest before now l rows
GoesOn false runner bytes rest before now l rows = RanWhole runner bytes rest before now

-- what the bytes say of a refusal of a walk
abbrev pub Refuses : Runner → List ℕ → List ℕ → Option (List ℕ) → Option (List ℕ) → Refusal → Type 0
Refuses runner bytes rest before now refusal.WriteFault = RanInPart runner bytes before now
Refuses runner bytes rest before now (refusal.ReadFault origin.Input) = RanShort runner bytes rest before now
Refuses runner bytes rest before now r = RanTo runner bytes before now r

-- one line more was taken, and before it no more than the limit allows
abbrev pub IsFurther : LinesView → LinesView → Type 0
IsFurther old new = (new.given ≡ old.given + 1) × (old.given ≤ MAX_LINES)

-- the refusal that lines come to
abbrev pub lines_refusal : LinesFault → Refusal
lines_refusal fault.Fault = refusal.ReadFault origin.Input
lines_refusal (fault.Long n) = refusal.Judged (judgement.Vector n)
lines_refusal fault.TooMany = refusal.Judged judgement.TooManyLines
lines_refusal fault.TooLong = refusal.TooLong origin.Input

-- a refusal that comes of lines or of their source, by the source's count of faults
abbrev pub IsOfLines : ℕ → ℕ → Refusal → Type 0
IsOfLines before now (refusal.ReadFault origin.Input) = Rose before now
IsOfLines before now (refusal.TooLong origin.Input) = now ≡ before
IsOfLines before now (refusal.Judged (judgement.Vector n)) = now ≡ before
IsOfLines before now (refusal.Judged judgement.TooManyLines) = now ≡ before
IsOfLines before now r = ⊥

-- the same, or of the output, by its count too
abbrev pub IsOfWalk : ℕ → ℕ → ℕ → ℕ → Refusal → Type 0
IsOfWalk before now out out_now refusal.WriteFault = (now ≡ before) × Rose out out_now
IsOfWalk before now out out_now r = IsOfLines before now r × (out_now ≡ out)
