use Rattle.std.proofs.Common.{arith}
use Rattle.std.proofs.lemmas.Grind.{common_steps}
use Rattle.pim_nor.proofs.Counting.{cleared_step, cleared_all}
use Rattle.pim_nor.proofs.singles.singles.Goals as goal

pub loop-out-preserved : goal.loop-out-preserved
loop-out-preserved c = record {
  len = grind (arith, common_steps);
  rest = λ n there. cleared_step c.outputs-out-items.result.now c.loop-out.counts.items c.loop-out.out-index c.node.result n _ _ c.loop-out-test.true (grind (arith, common_steps)) c.node.ensures (c.loop-out.invariant.rest n there);
}

pub returns : goal.returns
returns c =
    cleared_all c.args.aig.now c.outputs-out-items.ensures.sound c.outputs-out-items.result.now c.outputs-out-items.ensures.literals c.loop-out.counts.items c.loop-out.out-index c.loop-out-test.false (grind (arith, common_steps)) c.loop-out.invariant.rest
