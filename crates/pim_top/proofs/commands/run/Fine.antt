-- A program file and lines that `run` takes are not refused.
use Rattle.std.proofs.Common.{ℕ, List, Result, ap}
use Rattle.pim_batch.specs.Tables.{runner_of}
use Rattle.pim_file.specs.declared.fault.FileFault.{FileFault}
use Rattle.pim_isa.specs.Programs.{ProgramView}
use Rattle.pim_words.specs.declared.command.Command.TheVariants as commands
use Rattle.pim_words.specs.declared.command.FillWord.{FillWord}
use Rattle.pim_top.specs.Programs.{judged_as}
use Rattle.pim_top.specs.Rows.{RowsEnd}
use Rattle.pim_top.specs.Streams.{Seen}
use Rattle.pim_top.specs.commands.Run.{RunsFine, fill_of, run_by, run_of}
use Rattle.pim_top.specs.declared.judgement.Judgement.TheVariants as judgement
use Rattle.pim_top.specs.declared.refusal.Refusal.{Refusal}
use Rattle.pim_top.specs.inner.Faultless.{IsComplete}
use Rattle.pim_top.proofs.RowsFine.{AreTaken, rows-fine}

takes : (fill : FillWord) (file input : List ℕ) → RunsFine file input → AreTaken (run_of fill) file input
takes fill file input fine = record {
  file_fits = fine.file_fits;
  runner = runner_of fine.program (fill_of fill);
  loaded = ap (λ (r : Result ProgramView FileFault). run_by fill (judged_as (λ f. judgement.File f) r)) fine.is_program;
  fits = fine.fits;
  few = fine.few;
  vectors = fine.vectors;
}

-- what `run` takes is done, or memory ran out
pub run-complete : {Y : Type 0} (fill : FillWord) (seen : Seen) (result : Result Y Refusal) → RowsEnd (run_of fill) seen result → IsComplete (commands.Run fill) seen result
run-complete fill seen result h = record {
  ends = λ file input t u calm fine. rows-fine (run_of fill) seen file input result t u calm h (takes fill file input fine);
}
