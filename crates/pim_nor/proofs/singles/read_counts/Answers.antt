use Rattle.std.proofs.Common.{arith}
use Rattle.std.proofs.lemmas.Grind.{common_steps}
use Rattle.pim_nor.proofs.Counting.{room_x, room_y, counted_step}
use Rattle.pim_nor.proofs.singles.read_counts.Goals as goal

pub count-requires-clause-room : goal.count-requires-clause-room
count-requires-clause-room c =
    room_x c.args.aig.now c.ands-and-items.ensures.sound c.ands-and-items.result.now c.ands-and-items.ensures.nodes c.loop-and.counts.items c.loop-and.and-index _ c.loop-and-test.true c.loop-and.invariant.rest

pub count-requires-in-loop-and-clause-room : goal.count-requires-in-loop-and-clause-room
count-requires-in-loop-and-clause-room c =
    room_y c.args.aig.now c.ands-and-items.ensures.sound c.ands-and-items.result.now c.ands-and-items.ensures.nodes c.loop-and.counts.items c.count.new.counts.items c.loop-and.and-index _ c.loop-and-test.true (grind (arith, common_steps)) c.loop-and.invariant.rest c.count.ensures.counts

pub loop-and-preserved : goal.loop-and-preserved
loop-and-preserved c = record {
  len = grind (arith, common_steps);
  rest = counted_step c.args.aig.now c.ands-and-items.ensures.sound c.ands-and-items.result.now c.ands-and-items.ensures.nodes c.loop-and.counts.items c.count.new.counts.items c.count-in-loop-and.new.counts.items c.loop-and.and-index _ c.loop-and-test.true (grind (arith, common_steps)) c.loop-and.invariant.rest c.count.ensures.counts c.count-in-loop-and.ensures.counts;
}
