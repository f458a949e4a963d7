use Rattle.std.proofs.Common.{◌∙◌, arith}
use Rattle.std.proofs.lemmas.Grind.{common_steps}
use Rattle.pim_nor.proofs.Marking.{reached_marked, reached_unmarked}
use Rattle.pim_nor.specs.Leaves.{leaves}
use Rattle.pim_nor.specs.Named.{gate_at}
use Rattle.pim_nor.proofs.reach.reached.Goals as goal

pub loop-slot-preserved-then-index : goal.loop-slot-preserved-then-index
loop-slot-preserved-then-index c = record {
  rest = reached_marked (gate_at c.args.plan.now.graph (leaves c.args.plan.now.graph c.args.plan.now.width)) c.loop-slot.slot c.loop-slot.marks.items c.mark_read.new.marks.items c.index.result.now (omega arith) (grind (arith, common_steps)) c.index.ensures c.if-index.true (grind (arith, common_steps)) ∙ c.loop-slot.invariant.rest;
  len = grind (arith, common_steps);
}

pub loop-slot-preserved : goal.loop-slot-preserved
loop-slot-preserved c = record {
  rest = reached_unmarked (gate_at c.args.plan.now.graph (leaves c.args.plan.now.graph c.args.plan.now.width)) c.loop-slot.slot c.loop-slot.marks.items c.index.result.now (omega arith) (grind (arith, common_steps)) c.index.ensures c.if-index.false ∙ c.loop-slot.invariant.rest;
  len = grind (arith, common_steps);
}
