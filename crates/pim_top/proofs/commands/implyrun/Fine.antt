-- A file and lines that `implyrun` takes are not refused.
use Rattle.std.proofs.Common.{ℕ, List, Result, ap}
use Rattle.pim_batch.specs.ImplyTables.{imply_runner}
use Rattle.pim_imply.specs.Programs.{ImplyView}
use Rattle.pim_imply.specs.declared.fault.ImplyFault.{ImplyFault}
use Rattle.pim_words.specs.declared.command.Command.TheVariants as commands
use Rattle.pim_words.specs.declared.command.FillWord.{FillWord}
use Rattle.pim_top.specs.Programs.{judged_as}
use Rattle.pim_top.specs.Rows.{RowsEnd}
use Rattle.pim_top.specs.Streams.{Seen}
use Rattle.pim_top.specs.commands.Implyrun.{ImplyrunsFine, implyrun_by, implyrun_of}
use Rattle.pim_top.specs.commands.Run.{fill_of}
use Rattle.pim_top.specs.declared.judgement.Judgement.TheVariants as judgement
use Rattle.pim_top.specs.declared.refusal.Refusal.{Refusal}
use Rattle.pim_top.specs.inner.Faultless.{IsComplete}
use Rattle.pim_top.proofs.RowsFine.{AreTaken, rows-fine}

takes : (fill : FillWord) (file input : List ℕ) → ImplyrunsFine file input → AreTaken (implyrun_of fill) file input
takes fill file input fine = record {
  file_fits = fine.file_fits;
  runner = imply_runner fine.program (fill_of fill);
  loaded = ap (λ (r : Result ImplyView ImplyFault). implyrun_by fill (judged_as (λ f. judgement.ImplyFile f) r)) fine.is_program;
  fits = fine.fits;
  few = fine.few;
  vectors = fine.vectors;
}

-- what `implyrun` takes is done, or memory ran out
pub implyrun-complete : {Y : Type 0} (fill : FillWord) (seen : Seen) (result : Result Y Refusal) → RowsEnd (implyrun_of fill) seen result → IsComplete (commands.Implyrun fill) seen result
implyrun-complete fill seen result h = record {
  ends = λ file input t u calm fine. rows-fine (implyrun_of fill) seen file input result t u calm h (takes fill file input fine);
}
