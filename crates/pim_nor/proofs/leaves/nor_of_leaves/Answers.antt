use Rattle.std.proofs.Common.{map}
use Rattle.pim_aig.specs.Literals.{complement}
use Rattle.pim_nor.specs.Leaves.{distinct}
use Rattle.pim_nor.specs.Named.{source}
use Rattle.pim_nor.proofs.Nors.{fold-reading}
use Rattle.pim_nor.proofs.leaves.nor_of_leaves.Goals as goal

pub loop-k-init : goal.loop-k-init
loop-k-init c = fold-reading (map (λ leaf. source c.args.inputs (complement leaf)) (distinct c.args.literals.now))
