use Rattle.std.proofs.Common.{[]}
use Rattle.pim_top.proofs.commands.bench.BenchWholeText.tell_fine.Goals as goal

pub returns : goal.returns
returns c = λ file input fine. record {
  file_fits = tt;
  input_fits = tt;
  file_passes = λ j h. absurd (h []);
  input_passes = λ j h. absurd h;
}
