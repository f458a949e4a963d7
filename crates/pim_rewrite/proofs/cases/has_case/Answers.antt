use Rattle.std.proofs.Common.{arith}
use Rattle.pim_rewrite.proofs.Frame.{none}
use Rattle.pim_rewrite.proofs.Loops.{case_step}
use Rattle.pim_rewrite.proofs.cases.has_case.Goals as goal

pub loop-node-preserved : goal.loop-node-preserved
loop-node-preserved c = record {
  whole = case_step c.args.reading.now c.loop-node.number c.loop-node.node-index c.nodes-nodes.result.now none c.is_case.result c.loop-node-test.true c.is_case.ensures c.if-is_case.false c.loop-node.invariant.whole;
  number = omega arith;
}
