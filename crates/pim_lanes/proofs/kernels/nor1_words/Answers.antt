use Rattle.std.proofs.Common.{arith}
use Rattle.pim_lanes.specs.inner.Rules.{nor1_word}
use Rattle.pim_lanes.proofs.RuleLemmas.{ruled_none, word_next}
use Rattle.pim_lanes.proofs.kernels.nor1_words.Goals as goal

pub loop-k-init : goal.loop-k-init
loop-k-init c = ruled_none nor1_word c.args.from _ _ _

pub loop-k-preserved : goal.loop-k-preserved
loop-k-preserved c = word_next nor1_word c.args.from c.loop-k.k _ _ _ _ (omega arith) (omega arith) c.loop-k.invariant
