use Rattle.pim_top.proofs.commands.share.Fine.{share-fine}
use Rattle.pim_top.proofs.commands.share.ShareWholeText.tell_fine.Goals as goal

pub returns : goal.returns
returns c = λ file input fine. share-fine c.args.self.now.cells file input fine
