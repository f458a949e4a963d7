-- What a call of `pim` did, by its words, by what it saw of the outside, and by its status.
use Rattle.std.specs.Prelude.{◌≡◌, ◌⊎◌, ℕ, true, false, List, ◌++◌, Some, Result, Ok, Err}
use Rattle.pim_io.specs.Outside.{Rose, Told, TookAll, TookFirst}
use Rattle.pim_words.specs.Reading.{command_said, is_usage}
use Rattle.pim_words.specs.declared.command.Command.{Command}
use Rattle.pim_words.specs.declared.command.Command.TheVariants.{Debug, Implyrun, Run}
use Rattle.pim_top.specs.Answers.{FilePasses}
use Rattle.pim_top.specs.Decides.{Decides, FileDecides}
use Rattle.pim_top.specs.Notes.{note}
use Rattle.pim_top.specs.Reads.{IsApart, IsWithin, OfBytes, OfInput, reads}
use Rattle.pim_top.specs.Rows.{RowsEnd}
use Rattle.pim_top.specs.Statuses.{answer_status, refusal_status}
use Rattle.pim_top.specs.Streams.{IsUntouched, Seen, Stream}
use Rattle.pim_top.specs.Wholes.{WholeEnds}
use Rattle.pim_top.specs.commands.Debug.{DebugEnds}
use Rattle.pim_top.specs.commands.Implyrun.{implyrun_of}
use Rattle.pim_top.specs.commands.Run.{run_of}
use Rattle.pim_top.specs.declared.refusal.Origin.TheVariants.{Program}
use Rattle.pim_top.specs.declared.refusal.Refusal.{Refusal}
use Rattle.pim_top.specs.declared.refusal.Refusal.TheVariants as refusal
use Rattle.pim_top.specs.declared.status.Status.{Status}

-- how a command ends
abbrev pub Ends : {Y : Type 0} → Command → Seen → Result Y Refusal → Type 0
Ends (Run fill) seen result = RowsEnd (run_of fill) seen result
Ends (Implyrun fill) seen result = RowsEnd (implyrun_of fill) seen result
Ends (Debug fill) seen result = DebugEnds fill seen result
Ends command seen result = WholeEnds command seen result

-- nothing was read or written
pub record IsIdle (seen : Seen) : Type 0 where
  pub program : IsUntouched seen.program
  pub input : IsUntouched seen.input
  pub output : IsUntouched seen.output

-- why no command was begun: the words are refused, or there was no memory for them
abbrev pub IsUnsaid : {Y : Type 0} → List (List ℕ) → Result Y Refusal → Type 0
IsUnsaid words (Err refusal.Usage) = is_usage words ≡ true
IsUnsaid words (Err refusal.NoMemory) = Unit {0}
IsUnsaid words result = ⊥

-- no command was begun
pub record IsRefused {Y : Type 0} (words : List (List ℕ)) (seen : Seen) (result : Result Y Refusal) : Type 0 where
  pub idle : IsIdle seen
  pub why : IsUnsaid words result

-- the words say a command, which ended so
pub record IsObeyed {Y : Type 0} (words : List (List ℕ)) (seen : Seen) (result : Result Y Refusal) : Type 0 where
  pub command : Command
  pub said : command_said words ≡ Some command
  pub accepted : is_usage words ≡ false
  pub apart : IsApart command seen
  pub ends : Ends command seen result

-- what a call did before its note
abbrev pub Obeys : {Y : Type 0} → List (List ℕ) → Seen → Result Y Refusal → Type 0
Obeys words seen result = IsRefused words seen result ⊎ IsObeyed words seen result

-- a sink took the line whole; or a front of it, and its count of faults rose
abbrev pub IsNoted : Stream → List ℕ → Type 0
IsNoted s line = TookAll s.before s.now line ⊎ (TookFirst s.before s.now line × Rose s.faults s.faults_now)

-- a call that ended with this status: its answer, what it did, and that the note of the answer was written
pub record HasEnded (words : List (List ℕ)) (seen : Seen) (notes : Stream) (ended : Status) : Type 0 where
  pub answer : Result (Unit {0}) Refusal
  pub ends : ended ≡ answer_status answer
  pub obeyed : Obeys words seen answer
  pub noted : IsNoted notes (note answer)

-- ---- what follows of every command
-- the output took a text that the bytes of the program file and of the input give
pub record HasWritten (command : Command) (file input before after : List ℕ) : Type 0 where
  pub text : List ℕ
  pub took : after ≡ before ++ text
  pub given : Decides command file input (Ok text)

-- the words say a command, whose sources were read to their end, unless it may end before that; the output took what it writes
-- for them, where they tell their bytes; no count of their faults rose
pub record IsDone (words : List (List ℕ)) (seen : Seen) : Type 0 where
  pub command : Command
  pub said : command_said words ≡ Some command
  pub wrote : OfBytes (reads command Program) seen.program (λ file. OfInput command seen.input (λ input.
      Told seen.output.before seen.output.now (λ before after. HasWritten command file input before after)))
  pub program : seen.program.faults_now ≡ seen.program.faults
  pub input : seen.input.faults_now ≡ seen.input.faults
  pub output : seen.output.faults_now ≡ seen.output.faults

-- no count of faults rose
pub record IsCalm (seen : Seen) : Type 0 where
  pub program : ¬ Rose seen.program.faults seen.program.faults_now
  pub input : ¬ Rose seen.input.faults seen.input.faults_now
  pub output : ¬ Rose seen.output.faults seen.output.faults_now

-- the status is that of a refusal that the bytes of the program file alone decide
pub record IsFileDecided (command : Command) (file : List ℕ) (ended : Status) : Type 0 where
  pub refusal : Refusal
  pub decided : FileDecides command file refusal
  pub ends : ended ≡ refusal_status refusal

-- the program file passes, and is within the limit
abbrev pub FileIsFine : Command → List ℕ → Type 0
FileIsFine command file = IsWithin (reads command Program) file × FilePasses command file

-- the status is that of an answer that the bytes decide
pub record IsDecided (command : Command) (file input : List ℕ) (ended : Status) : Type 0 where
  pub answer : Result (List ℕ) Refusal
  pub decided : Decides command file input answer
  pub ends : ended ≡ answer_status answer
