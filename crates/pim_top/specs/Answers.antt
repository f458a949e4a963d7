-- What each command says of the bytes that it reads.
use Rattle.std.specs.Prelude.{◌≡◌, ◌⊎◌, ℕ, List, Result, Ok, Err}
use Rattle.pim_batch.specs.Runners.{Runner}
use Rattle.pim_words.specs.declared.command.Command.{Command}
use Rattle.pim_isa.specs.Programs.{ProgramView}
use Rattle.pim_words.specs.declared.command.Command.TheVariants as commands
use Rattle.pim_top.specs.Programs.{IsProgramFile, program_of}
use Rattle.pim_top.specs.commands.Asm.{AssemblesFine, asm_of}
use Rattle.pim_top.specs.commands.Bench.{BenchAnswers}
use Rattle.pim_top.specs.commands.Compile.{CompileAnswers, CompilesFine}
use Rattle.pim_top.specs.commands.Convert.{convert_of}
use Rattle.pim_top.specs.commands.Debug.{DebugsFine}
use Rattle.pim_top.specs.commands.Explain.{ExplainsFine, explain_of}
use Rattle.pim_top.specs.commands.Imply.{ImpliesFine, ImplyAnswers}
use Rattle.pim_top.specs.commands.Implyrun.{ImplyrunsFine, implyrun_of}
use Rattle.pim_top.specs.commands.List.{list_of}
use Rattle.pim_top.specs.commands.Prove.{ProveAnswers, ProvesFine}
use Rattle.pim_top.specs.commands.Run.{RunsFine, run_of}
use Rattle.pim_top.specs.commands.Share.{ShareAnswers, SharesFine, parts_of}
use Rattle.pim_top.specs.declared.judgement.Judgement.{Judgement}
use Rattle.pim_top.specs.declared.status.Status.{Status}
use Rattle.pim_top.specs.declared.status.Status.TheVariants.{Done, Unequal}

-- the text that a command writes whole for the bytes of its program file and of its input, or why they are refused; a source
-- that it doesn't read counts as empty, and a command that streams writes nothing whole
abbrev pub Answers : Command → List ℕ → List ℕ → Result (List ℕ) Judgement → Type 0
Answers (commands.Compile target level cells) file input answer = CompileAnswers target level cells input answer
Answers (commands.Run fill) file input answer = ⊥
Answers commands.List file input answer = answer ≡ list_of file
Answers (commands.Explain tree) file input answer = answer ≡ explain_of tree file
Answers commands.Prove file input answer = ProveAnswers file input answer
Answers commands.Asm file input answer = answer ≡ asm_of input
Answers (commands.Debug fill) file input answer = ⊥
Answers (commands.Convert form) file input answer = answer ≡ convert_of form input
Answers (commands.Imply cells) file input answer = ImplyAnswers cells input answer
Answers (commands.Implyrun fill) file input answer = ⊥
Answers (commands.Share cells) file input answer = ShareAnswers cells file input answer
Answers (commands.Bench bits) file input answer = BenchAnswers bits answer

-- the program file is refused so, whatever the input is
abbrev pub FileRefused : Command → List ℕ → Judgement → Type 0
FileRefused (commands.Run fill) file j = run_of fill file ≡ Err j
FileRefused commands.Prove file j = program_of file ≡ Err j
FileRefused (commands.Debug fill) file j = program_of file ≡ Err j
FileRefused (commands.Implyrun fill) file j = implyrun_of fill file ≡ Err j
FileRefused (commands.Share cells) file j = parts_of file ≡ Err j
FileRefused command file j = (input : List ℕ) → Answers command file input (Err j)

-- the program file is not refused by itself; a command that reads none says nothing of it
abbrev pub FilePasses : Command → List ℕ → Type 0
FilePasses (commands.Run fill) file = (runner : Runner) × (run_of fill file ≡ Ok runner)
FilePasses commands.List file = (program : ProgramView) × (program_of file ≡ Ok program)
FilePasses (commands.Explain tree) file = (text : List ℕ) × (explain_of tree file ≡ Ok text)
FilePasses commands.Prove file = (program : ProgramView) × (program_of file ≡ Ok program)
FilePasses (commands.Debug fill) file = (program : ProgramView) × (program_of file ≡ Ok program)
FilePasses (commands.Implyrun fill) file = (runner : Runner) × (implyrun_of fill file ≡ Ok runner)
FilePasses (commands.Share cells) file = (parts : List ProgramView) × (parts_of file ≡ Ok parts)
FilePasses command file = Unit {0}

-- the command takes these bytes: they are within the limits, have no fault, and its options are enough for them
abbrev pub IsFine : Command → List ℕ → List ℕ → Type 0
IsFine (commands.Compile target level cells) file input = CompilesFine target cells input
IsFine (commands.Run fill) file input = RunsFine file input
IsFine commands.List file input = IsProgramFile file
IsFine (commands.Explain tree) file input = ExplainsFine tree file
IsFine commands.Prove file input = ProvesFine file input
IsFine commands.Asm file input = AssemblesFine input
IsFine (commands.Debug fill) file input = DebugsFine fill file input
IsFine (commands.Convert form) file input = IsProgramFile input
IsFine (commands.Imply cells) file input = ImpliesFine cells input
IsFine (commands.Implyrun fill) file input = ImplyrunsFine file input
IsFine (commands.Share cells) file input = SharesFine cells file input
IsFine (commands.Bench bits) file input = Unit {0}

-- with bytes that it takes a command is done; or it tells that what it compares is not equal
abbrev pub EndsFine : Command → Status → Type 0
EndsFine commands.Prove s = (s ≡ Done) ⊎ (s ≡ Unequal)
EndsFine command s = s ≡ Done
