-- How a command ends that executes each line of its input as a row.
use Rattle.std.specs.Prelude.{◌≡◌, ◌⊎◌, ℕ, List, Result, Ok, Err}
use Rattle.pim_batch.specs.Runners.{Runner}
use Rattle.pim_top.specs.Statuses.{IsNoMemory}
use Rattle.pim_top.specs.Streams.{HasFailed, IsOverrun, IsRead, IsUntouched, Seen, Stream}
use Rattle.pim_top.specs.Walks.{WalkEnds}
use Rattle.pim_top.specs.declared.judgement.Judgement.{Judgement}
use Rattle.pim_io.specs.declared.limits.TheConstants.{MAX_PROGRAM}
use Rattle.pim_top.specs.declared.refusal.Origin.TheVariants.{Program}
use Rattle.pim_top.specs.declared.refusal.Refusal.{Refusal}
use Rattle.pim_top.specs.declared.refusal.Refusal.TheVariants.{Judged, NoMemory, ReadFault, TooLong}

-- the program file was read to its end, and this is what it gives
pub record IsLoaded {X : Type 0} (load : List ℕ → Result X Judgement) (s : Stream) (loaded : Result X Judgement) : Type 0 where
  pub file : List ℕ
  pub read : IsRead s MAX_PROGRAM file
  pub is : load file ≡ loaded

-- why no row was executed: of the program's source and of its bytes
abbrev pub IsUnloaded : {X : Type 0} → (List ℕ → Result X Judgement) → Stream → Refusal → Type 0
IsUnloaded load s NoMemory = Unit {0}
IsUnloaded load s (ReadFault Program) = HasFailed s MAX_PROGRAM
IsUnloaded load s (TooLong Program) = IsOverrun s MAX_PROGRAM
IsUnloaded load s (Judged j) = IsNoMemory j ⊎ IsLoaded load s (Err j)
IsUnloaded load s r = ⊥

-- no byte of the input was taken, and nothing was written
pub record EndsEarly {X : Type 0} (load : List ℕ → Result X Judgement) (seen : Seen) (r : Refusal) : Type 0 where
  pub input : IsUntouched seen.input
  pub output : IsUntouched seen.output
  pub why : IsUnloaded load seen.program r

-- the program was loaded, and the walk over the lines of the input ended so
pub record EndsLate {Y : Type 0} (load : List ℕ → Result Runner Judgement) (seen : Seen) (result : Result Y Refusal) : Type 0 where
  pub runner : Runner
  pub loaded : IsLoaded load seen.program (Ok runner)
  pub walk : WalkEnds runner seen.input seen.output result

-- how the command ends, by what loads its program
abbrev pub RowsEnd : {Y : Type 0} → (List ℕ → Result Runner Judgement) → Seen → Result Y Refusal → Type 0
RowsEnd load seen (Ok y) = EndsLate load seen (Ok y)
RowsEnd load seen (Err r) = EndsEarly load seen r ⊎ EndsLate {Y = Unit {0}} load seen (Err r)
