-- What `run` says of a program file, and which inputs it takes.
use Rattle.std.specs.Prelude.{◌≡◌, ◌≤◌, ℕ, List, All, Result, Ok, Err, length}
use Rattle.pim_batch.specs.Runners.{Runner}
use Rattle.pim_batch.specs.Tables.{runner_of}
use Rattle.pim_file.specs.BinaryReading.{parse_of}
use Rattle.pim_isa.specs.Programs.{ProgramView}
use Rattle.pim_isa.specs.declared.target.Fill.{Fill}
use Rattle.pim_isa.specs.declared.target.Fill.TheVariants as fills
use Rattle.pim_vectors.specs.Lines.{lines}
use Rattle.pim_vectors.specs.Tiles.{IsVector}
use Rattle.pim_vectors.specs.declared.limits.TheConstants.{MAX_LINES}
use Rattle.pim_words.specs.declared.command.FillWord.{FillWord}
use Rattle.pim_words.specs.declared.command.FillWord.TheVariants as words
use Rattle.pim_top.specs.Programs.{program_of}
use Rattle.pim_top.specs.declared.judgement.Judgement.{Judgement}
use Rattle.pim_io.specs.declared.limits.TheConstants.{MAX_INPUT, MAX_PROGRAM}

-- the filling that a word of `--fill` names
abbrev pub fill_of : FillWord → Fill
fill_of words.Zeros = fills.Zeros
fill_of words.Ones = fills.Ones

-- what executes the rows of a program that was read, or why its file is refused
abbrev pub run_by : FillWord → Result ProgramView Judgement → Result Runner Judgement
run_by fill (Ok program) = Ok (runner_of program (fill_of fill))
run_by fill (Err j) = Err j

-- the same of the bytes of a program file
abbrev pub run_of : FillWord → List ℕ → Result Runner Judgement
run_of fill file = run_by fill (program_of file)

-- the bytes are a program file and lines that are vectors of it, all of them within the limits
pub record RunsFine (file input : List ℕ) : Type 0 where
  pub file_fits : length file ≤ MAX_PROGRAM
  pub program : ProgramView
  pub is_program : parse_of file ≡ Ok program
  pub fits : length input ≤ MAX_INPUT
  pub few : length (lines input) ≤ MAX_LINES
  pub vectors : All (IsVector (length program.inputs)) (lines input)
