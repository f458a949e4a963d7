-- What `debug` does: it obeys the lines of the input, and writes each reply before it reads the next line.
use Rattle.std.specs.Prelude.{◌≡◌, ◌⊎◌, ◌≤◌, ℕ, List, length, Option, None, Some, Result, Ok, Err}
use Rattle.pim_file.specs.BinaryReading.{parse_of}
use Rattle.pim_io.specs.declared.limits.TheConstants.{MAX_PROGRAM}
use Rattle.pim_isa.specs.Programs.{ProgramView}
use Rattle.pim_isa.specs.declared.target.Fill.{Fill}
use Rattle.pim_words.specs.declared.command.FillWord.{FillWord}
use Rattle.pim_top.specs.Debugging.{DebuggedAll, DebuggedDone, DebuggedFront, DebuggedPart, DebuggedShort, RanAll}
use Rattle.pim_top.specs.Programs.{program_of}
use Rattle.pim_top.specs.Rows.{EndsEarly, IsLoaded}
use Rattle.pim_top.specs.Streams.{AreSteady, IsUnread, IsUnwritten, Seen, Stream}
use Rattle.pim_top.specs.commands.Run.{fill_of}
use Rattle.pim_top.specs.declared.judgement.Judgement.TheVariants.{Command, TooManyLines, Vector}
use Rattle.pim_top.specs.declared.refusal.Origin.TheVariants.{Input}
use Rattle.pim_top.specs.declared.refusal.Refusal.{Refusal}
use Rattle.pim_top.specs.declared.refusal.Refusal.TheVariants.{Judged, NoMemory, ReadFault, TooLong, WriteFault}

-- the lines were refused for this reason, and no count of faults rose
abbrev pub IsStopped : ProgramView → Fill → Stream → Stream → Refusal → Type 0
IsStopped p fill i o r = AreSteady i o (λ bytes rest. DebuggedAll p fill bytes o.before o.now (Some r))

-- how the lines of a program that was loaded end
abbrev pub LinesEnd : {Y : Type 0} → ProgramView → Fill → Stream → Stream → Result Y Refusal → Type 0
LinesEnd p fill i o (Ok y) = AreSteady i o (λ bytes rest. DebuggedDone p fill bytes rest o.before o.now)
LinesEnd p fill i o (Err (ReadFault Input)) = IsUnread i o (λ bytes rest. DebuggedShort p fill bytes rest o.before o.now)
LinesEnd p fill i o (Err WriteFault) = IsUnwritten i o (λ bytes rest. DebuggedPart p fill bytes o.before o.now)
LinesEnd p fill i o (Err NoMemory) = AreSteady i o (λ bytes rest. DebuggedFront p fill bytes o.before o.now)
LinesEnd p fill i o (Err (TooLong Input)) = IsStopped p fill i o (TooLong Input)
LinesEnd p fill i o (Err (Judged (Vector n))) = IsStopped p fill i o (Judged (Vector n))
LinesEnd p fill i o (Err (Judged TooManyLines)) = IsStopped p fill i o (Judged TooManyLines)
LinesEnd p fill i o (Err (Judged (Command n fault))) = IsStopped p fill i o (Judged (Command n fault))
LinesEnd p fill i o (Err r) = ⊥

-- the program was loaded, and the lines of the input ended so
pub record DebugsLate {Y : Type 0} (fill : FillWord) (seen : Seen) (result : Result Y Refusal) : Type 0 where
  pub program : ProgramView
  pub loaded : IsLoaded program_of seen.program (Ok program)
  pub lines : LinesEnd program (fill_of fill) seen.input seen.output result

-- how the command ends
abbrev pub DebugEnds : {Y : Type 0} → FillWord → Seen → Result Y Refusal → Type 0
DebugEnds fill seen (Ok y) = DebugsLate fill seen (Ok y)
DebugEnds fill seen (Err r) = EndsEarly program_of seen r ⊎ DebugsLate {Y = Unit {0}} fill seen (Err r)

-- what is written up to the end, or why the lines end
abbrev pub ended_as : List ℕ → Option Refusal → Result (List ℕ) Refusal
ended_as text None = Ok text
ended_as text (Some r) = Err r

-- what the bytes of a loaded program file and of an input decide: which numbers breakpoints get is left open
pub record DebugDecides (fill : FillWord) (file input : List ℕ) (answer : Result (List ℕ) Refusal) : Type 0 where
  pub program : ProgramView
  pub loaded : program_of file ≡ Ok program
  pub text : List ℕ
  pub ended : Option Refusal
  pub ran : RanAll program (fill_of fill) input text ended
  pub is : answer ≡ ended_as text ended

-- the bytes that the command takes: a program file, and lines of which none is refused, whichever numbers breakpoints get
pub record DebugsFine (fill : FillWord) (file input : List ℕ) : Type 0 where
  pub file_fits : length file ≤ MAX_PROGRAM
  pub program : ProgramView
  pub is_program : parse_of file ≡ Ok program
  pub lines : (text : List ℕ) (ended : Option Refusal) → RanAll program (fill_of fill) input text ended → ended ≡ None
