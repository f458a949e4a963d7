-- What the bytes alone decide, where nothing of the outside fails and memory is there.
use Rattle.std.specs.Prelude.{◌≡◌, ◌⊎◌, ℕ, List, Result, Ok, Err}
use Rattle.pim_batch.specs.Runners.{Runner}
use Rattle.pim_words.specs.declared.command.Command.{Command}
use Rattle.pim_words.specs.declared.command.Command.TheVariants.{Debug, Implyrun, Run}
use Rattle.pim_top.specs.Answers.{Answers, FilePasses, FileRefused}
use Rattle.pim_top.specs.Judged.{input_refusal}
use Rattle.pim_top.specs.Reads.{IsOver, IsWithin, reads}
use Rattle.pim_top.specs.Walks.{ran}
use Rattle.pim_top.specs.commands.Debug.{DebugDecides}
use Rattle.pim_top.specs.commands.Implyrun.{implyrun_of}
use Rattle.pim_top.specs.commands.Run.{run_of}
use Rattle.pim_top.specs.declared.judgement.Judgement.{Judgement}
use Rattle.pim_top.specs.declared.refusal.Origin.TheVariants.{Input, Program}
use Rattle.pim_top.specs.declared.refusal.Refusal.{Refusal}
use Rattle.pim_top.specs.declared.refusal.Refusal.TheVariants.{Judged, TooLong}

-- the bytes of the program file alone are refused so
abbrev pub FileDecides : Command → List ℕ → Refusal → Type 0
FileDecides command file (TooLong Program) = IsOver (reads command Program) file
FileDecides command file (Judged j) = IsWithin (reads command Program) file × FileRefused command file j
FileDecides command file r = ⊥

-- the bytes of the input of a command that writes its text whole give the text, or are refused so
abbrev pub InputDecides : Command → List ℕ → List ℕ → Result (List ℕ) Refusal → Type 0
InputDecides command file input (Ok text) = IsWithin (reads command Input) input × Answers command file input (Ok text)
InputDecides command file input (Err (TooLong Input)) = IsOver (reads command Input) input
InputDecides command file input (Err (Judged j)) = IsWithin (reads command Input) input × Answers command file input (Err j)
InputDecides command file input (Err r) = ⊥

-- the program file is loaded, and the lines of the input give the results or are refused so
pub record RowsDecide (load : List ℕ → Result Runner Judgement) (file input : List ℕ) (answer : Result (List ℕ) Refusal) : Type 0 where
  pub runner : Runner
  pub loaded : load file ≡ Ok runner
  pub is : answer ≡ ran runner input (input_refusal runner.width input)

-- the same of a command of any kind
abbrev pub LateDecides : Command → List ℕ → List ℕ → Result (List ℕ) Refusal → Type 0
LateDecides (Run fill) file input answer = RowsDecide (run_of fill) file input answer
LateDecides (Implyrun fill) file input answer = RowsDecide (implyrun_of fill) file input answer
LateDecides (Debug fill) file input answer = DebugDecides fill file input answer
LateDecides command file input answer = FilePasses command file × InputDecides command file input answer

-- the program file is refused by itself, whatever the input is
abbrev pub EarlyDecides : Command → List ℕ → Result (List ℕ) Refusal → Type 0
EarlyDecides command file (Ok text) = ⊥
EarlyDecides command file (Err r) = FileDecides command file r

-- the bytes of a program file and of an input are answered so: the program file decides by itself, or else the input does
abbrev pub Decides : Command → List ℕ → List ℕ → Result (List ℕ) Refusal → Type 0
Decides command file input answer =
    EarlyDecides command file answer ⊎ (IsWithin (reads command Program) file × LateDecides command file input answer)
