-- Inner: what bytes that a command takes come to.
use Rattle.std.specs.Prelude.{◌≡◌, ◌⊎◌, ℕ, List, Result, Err}
use Rattle.pim_words.specs.declared.command.Command.{Command}
use Rattle.pim_top.specs.Answers.{Answers, EndsFine, FileRefused, IsFine}
use Rattle.pim_top.specs.Calls.{IsCalm}
use Rattle.pim_top.specs.Reads.{IsWithin, Tells, reads}
use Rattle.pim_top.specs.Statuses.{IsNoMemory, answer_status, judgement_status}
use Rattle.pim_top.specs.Streams.{Seen}
use Rattle.pim_top.specs.declared.judgement.Judgement.{Judgement}
use Rattle.pim_top.specs.declared.refusal.Origin.TheVariants.{Input, Program}
use Rattle.pim_top.specs.declared.refusal.Refusal.{Refusal}
use Rattle.pim_top.specs.declared.status.Status.TheVariants.{NoMemory}

-- the bytes of a program file and of an input are within the limits, and no judgement of them is right but that they are not equal
pub record IsFaultless (command : Command) (file input : List ℕ) : Type 0 where
  pub file_fits : IsWithin (reads command Program) file
  pub input_fits : IsWithin (reads command Input) input
  pub file_passes : (j : Judgement) → FileRefused command file j → IsNoMemory j
  pub input_passes : (j : Judgement) → Answers command file input (Err j) → EndsFine command (judgement_status j) ⊎ IsNoMemory j

-- where the sources tell bytes that the command takes, and nothing of the outside failed, it ends as with such bytes, or memory ran out
pub record IsComplete {Y : Type 0} (command : Command) (seen : Seen) (result : Result Y Refusal) : Type 0 where
  pub ends : (file input : List ℕ) → Tells (reads command Program) seen.program file → Tells (reads command Input) seen.input input →
      IsCalm seen → IsFine command file input → EndsFine command (answer_status result) ⊎ (answer_status result ≡ NoMemory)
