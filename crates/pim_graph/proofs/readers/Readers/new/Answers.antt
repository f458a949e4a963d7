use Rattle.std.proofs.Common.{◌*◌, ◌≤◌, length, get_or, arith}
use Rattle.pim_graph.proofs.Placing.{length-placed}
use Rattle.pim_graph.proofs.ReadLemmas.{reads_step, reads_room}
use Rattle.pim_graph.proofs.readers.Readers.new.Goals as goal

pub count_reads-requires-clause-room : goal.count_reads-requires-clause-room
count_reads-requires-clause-room c = λ k d l.
    let small : get_or c.loop-gate.left.items k d ≤ 4 * c.loop-gate.gate-index = c.loop-gate.invariant.room k d l in
    omega (arith, length-placed c.args.graph.now c.args.order.now c.requires, c.len.ensures.sound.gates_fit)

pub loop-gate-preserved : goal.loop-gate-preserved
loop-gate-preserved c =
    let g = c.args.graph.now in
    let old = c.loop-gate.left.items in
    let new = c.count_reads.new.counts.items in
    let n = length g.kids in
    record {
      len = omega (arith, c.count_reads.ensures.len, c.loop-gate.invariant.len);
      counts = reads_step g c.args.order.now c.loop-gate.gate-index c.children.result.now old new n c.loop-gate-test.true c.children.ensures.list (λ x h. c.count_reads.ensures.counts x (omega (arith, c.loop-gate.invariant.len))) c.loop-gate.invariant.counts;
      room = reads_room c.children.result.now old new n c.loop-gate.gate-index (omega (arith, c.loop-gate.invariant.len)) (omega (arith, c.count_reads.ensures.len, c.loop-gate.invariant.len)) c.children.ensures.few (λ x h. c.count_reads.ensures.counts x (omega (arith, c.loop-gate.invariant.len))) c.loop-gate.invariant.room;
    }
