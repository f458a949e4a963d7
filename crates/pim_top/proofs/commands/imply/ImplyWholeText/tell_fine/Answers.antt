use Rattle.pim_top.proofs.commands.imply.Fine.{imply-fine}
use Rattle.pim_top.proofs.commands.imply.ImplyWholeText.tell_fine.Goals as goal

pub returns : goal.returns
returns c = λ file input fine. imply-fine c.args.self.now.cells file input fine
