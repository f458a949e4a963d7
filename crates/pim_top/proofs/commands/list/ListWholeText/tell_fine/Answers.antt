use Rattle.std.proofs.Common.{[]}
use Rattle.pim_asm.specs.Listing.{listing_of}
use Rattle.pim_top.proofs.ProgramFiles.{program-fine}
use Rattle.pim_top.proofs.commands.list.ListWholeText.tell_fine.Goals as goal

pub returns : goal.returns
returns c = λ file input fine. record {
  file_fits = fine.fits;
  input_fits = tt;
  file_passes = λ j h. absurd (program-fine listing_of file j fine (h []));
  input_passes = λ j h. absurd (program-fine listing_of file j fine h);
}
