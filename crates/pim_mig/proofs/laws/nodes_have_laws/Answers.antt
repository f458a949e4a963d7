use Rattle.pim_mig.proofs.Answers.{node_laws}
use Rattle.pim_mig.proofs.laws.nodes_have_laws.Goals as goal

pub returns : goal.returns
returns c = node_laws
