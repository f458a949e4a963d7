use Rattle.std.proofs.Common.{[]}
use Rattle.pim_top.proofs.commands.explain.Fine.{explain-fine}
use Rattle.pim_top.proofs.commands.explain.ExplainWholeText.tell_fine.Goals as goal

pub returns : goal.returns
returns c = λ file input fine. record {
  file_fits = fine.fits;
  input_fits = tt;
  file_passes = λ j h. absurd (explain-fine c.args.self.now.tree file j fine (h []));
  input_passes = λ j h. absurd (explain-fine c.args.self.now.tree file j fine h);
}
