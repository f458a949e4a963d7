use Rattle.pim_top.proofs.commands.compile.Fine.{compile-fine}
use Rattle.pim_top.proofs.commands.compile.CompileWholeText.tell_fine.Goals as goal

pub returns : goal.returns
returns c = λ file input fine. compile-fine c.args.self.now.target c.args.self.now.level c.args.self.now.cells file input fine
