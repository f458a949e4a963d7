use Rattle.std.proofs.Common.{arith, vec_len}
use Rattle.pim_graph.proofs.UsageSteps.{usages_step, usages_fit}
use Rattle.pim_graph.proofs.usages.usage.Goals as goal

pub loop-gate-preserved : goal.loop-gate-preserved
loop-gate-preserved c =
    let us = c.loop-gate.usages.items in
    record {
      rest = usages_step c.args.graph.now.kids us c.deref.result.now c.deref-in-loop-gate.result.now c.push.new.self.items c.loop-gate.gate c.usage_of.result c.children.result.now c.put_falling.new.list.items c.deref-in-loop-gate-2.result.now _ (omega arith) c.children.ensures.list c.deref.ensures.value c.deref-in-loop-gate.ensures.value c.deref-in-loop-gate-2.ensures.value c.in_ok-put_falling.ensures.list c.usage_of.ensures.usage c.in_ok-push.ensures.items c.loop-gate.invariant.rest;
      len = omega (arith, c.in_ok-push.ensures.len);
      fit = usages_fit us c.push.new.self.items c.usage_of.result (vec_len c.loop-gate.usages) (vec_len c.push.new.self) c.loop-gate.invariant.fit (omega (arith, c.usage_of.ensures.fits, c.deref-in-loop-gate.ensures.len)) (omega (arith, c.in_ok-push.ensures.len)) c.in_ok-push.ensures.items;
    }
