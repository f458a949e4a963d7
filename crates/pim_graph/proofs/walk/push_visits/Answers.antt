use Rattle.std.proofs.Common.{arith}
use Rattle.pim_graph.proofs.Stacks.{push_visited}
use Rattle.pim_graph.proofs.walk.push_visits.Goals as goal

pub loop-k-preserved : goal.loop-k-preserved
loop-k-preserved c =
    push_visited c.args.gates.now c.args.stack.now.items c.loop-k.stack.items c.push.new.self.items c.loop-k.k (omega arith) (omega arith) c.loop-k.invariant c.in_ok-push.ensures.items
