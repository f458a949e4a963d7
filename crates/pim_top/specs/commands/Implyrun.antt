-- What `implyrun` says of a file of a program of `false` and `imp`, and which inputs it takes.
use Rattle.std.specs.Prelude.{◌≡◌, ◌≤◌, ℕ, List, All, Result, Ok, Err, length}
use Rattle.pim_batch.specs.ImplyTables.{imply_runner}
use Rattle.pim_batch.specs.Runners.{Runner}
use Rattle.pim_imply.specs.Programs.{ImplyView}
use Rattle.pim_imply.specs.Reading.{imply_of}
use Rattle.pim_io.specs.declared.limits.TheConstants.{MAX_INPUT, MAX_PROGRAM}
use Rattle.pim_vectors.specs.Lines.{lines}
use Rattle.pim_vectors.specs.Tiles.{IsVector}
use Rattle.pim_vectors.specs.declared.limits.TheConstants.{MAX_LINES}
use Rattle.pim_words.specs.declared.command.FillWord.{FillWord}
use Rattle.pim_top.specs.Programs.{judged_as}
use Rattle.pim_top.specs.commands.Run.{fill_of}
use Rattle.pim_top.specs.declared.judgement.Judgement.{Judgement}
use Rattle.pim_top.specs.declared.judgement.Judgement.TheVariants.{ImplyFile}

-- the program of a file, or why its bytes are refused
abbrev pub implication_of : List ℕ → Result ImplyView Judgement
implication_of file = judged_as (λ fault. ImplyFile fault) (imply_of file)

-- what executes the rows of a program that was read, or why its file is refused
abbrev pub implyrun_by : FillWord → Result ImplyView Judgement → Result Runner Judgement
implyrun_by fill (Ok program) = Ok (imply_runner program (fill_of fill))
implyrun_by fill (Err j) = Err j

-- the same of the bytes of a file
abbrev pub implyrun_of : FillWord → List ℕ → Result Runner Judgement
implyrun_of fill file = implyrun_by fill (implication_of file)

-- the bytes are a program and lines that are vectors of it, all of them within the limits
pub record ImplyrunsFine (file input : List ℕ) : Type 0 where
  pub file_fits : length file ≤ MAX_PROGRAM
  pub program : ImplyView
  pub is_program : imply_of file ≡ Ok program
  pub fits : length input ≤ MAX_INPUT
  pub few : length (lines input) ≤ MAX_LINES
  pub vectors : All (IsVector (length program.inputs)) (lines input)
