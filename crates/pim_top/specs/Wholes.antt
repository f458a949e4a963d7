-- How a command ends that writes its text whole.
use Rattle.std.specs.Prelude.{◌⊎◌, ℕ, List, Result, Ok, Err}
use Rattle.pim_words.specs.declared.command.Command.{Command}
use Rattle.pim_top.specs.Statuses.{IsNoMemory}
use Rattle.pim_top.specs.Answers.{Answers, FilePasses, FileRefused}
use Rattle.pim_top.specs.Reads.{IsReadBy, OfLimit, reads}
use Rattle.pim_top.specs.Streams.{HasFailed, IsCut, IsOverrun, IsUntouched, IsWritten, Seen, Stream}
use Rattle.pim_top.specs.declared.judgement.Judgement.{Judgement}
use Rattle.pim_top.specs.declared.refusal.Origin.TheVariants.{Input, Program}
use Rattle.pim_top.specs.declared.refusal.Refusal.{Refusal}
use Rattle.pim_top.specs.declared.refusal.Refusal.TheVariants.{Judged, NoMemory, ReadFault, TooLong, Usage, WriteFault}

-- the sources were read to their end, and their bytes permit a text of which the output took so much
pub record HasAnswered (command : Command) (seen : Seen) (Takes : Stream → List ℕ → Type 0) : Type 0 where
  pub file : List ℕ
  pub input : List ℕ
  pub text : List ℕ
  pub program_read : IsReadBy (reads command Program) seen.program file
  pub passes : FilePasses command file
  pub input_read : IsReadBy (reads command Input) seen.input input
  pub permitted : Answers command file input (Ok text)
  pub took : Takes seen.output text

-- the program file was read to its end and is refused, and the input was not touched
pub record IsFileJudged (command : Command) (seen : Seen) (j : Judgement) : Type 0 where
  pub file : List ℕ
  pub program_read : IsReadBy (reads command Program) seen.program file
  pub refused : FileRefused command file j
  pub idle : IsUntouched seen.input

-- the program file was read to its end and passes, and the input was read to its end and is refused
pub record IsInputJudged (command : Command) (seen : Seen) (j : Judgement) : Type 0 where
  pub file : List ℕ
  pub input : List ℕ
  pub program_read : IsReadBy (reads command Program) seen.program file
  pub passes : FilePasses command file
  pub input_read : IsReadBy (reads command Input) seen.input input
  pub refused : Answers command file input (Err j)

-- the program was not read to its end, for this cause, and the input was not touched
pub record ProgramEnds (command : Command) (seen : Seen) (How : Stream → ℕ → Type 0) : Type 0 where
  pub how : OfLimit (reads command Program) (How seen.program)
  pub idle : IsUntouched seen.input

-- the program was read to its end and passes, and the input was not read to its end, for this cause
pub record InputEnds (command : Command) (seen : Seen) (How : Stream → ℕ → Type 0) : Type 0 where
  pub file : List ℕ
  pub program_read : IsReadBy (reads command Program) seen.program file
  pub passes : FilePasses command file
  pub how : OfLimit (reads command Input) (How seen.input)

-- why a command was refused that wrote nothing
abbrev pub IsExplained : Command → Seen → Refusal → Type 0
IsExplained command seen Usage = ⊥
IsExplained command seen NoMemory = Unit {0}
IsExplained command seen (ReadFault Program) = ProgramEnds command seen HasFailed
IsExplained command seen (ReadFault Input) = InputEnds command seen HasFailed
IsExplained command seen (TooLong Program) = ProgramEnds command seen IsOverrun
IsExplained command seen (TooLong Input) = InputEnds command seen IsOverrun
IsExplained command seen WriteFault = ⊥
IsExplained command seen (Judged j) = IsNoMemory j ⊎ (IsFileJudged command seen j ⊎ IsInputJudged command seen j)

-- all was written; the output failed; or the command was refused, and the output was not touched
abbrev pub WholeEnds : {Y : Type 0} → Command → Seen → Result Y Refusal → Type 0
WholeEnds command seen (Ok y) = HasAnswered command seen IsWritten
WholeEnds command seen (Err WriteFault) = HasAnswered command seen IsCut
WholeEnds command seen (Err r) = IsExplained command seen r × IsUntouched seen.output
