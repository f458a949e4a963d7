use Rattle.pim_isa.proofs.PrimedLemmas.{primed_from_front}
use Rattle.pim_isa.proofs.program.Program.primed_from_front.Goals as goal

pub returns : goal.returns
returns c = primed_from_front c.args.self.now.instrs
