use Rattle.pim_top.proofs.commands.prove.Fine.{prove-fine}
use Rattle.pim_top.proofs.commands.prove.ProveWholeText.tell_fine.Goals as goal

pub returns : goal.returns
returns c = λ file input fine. prove-fine file input fine
