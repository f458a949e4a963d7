use Rattle.std.proofs.Common.{length, ap, arith}
use Rattle.pim_graph.specs.Graphs.{GraphView}
use Rattle.pim_rm3.proofs.GateOrders.{at_there, kids_count, order_few, order_there, over_sound}
use Rattle.pim_rm3.proofs.over.all_taken.Goals as goal

pub taken-requires-clause-there : goal.taken-requires-clause-there
taken-requires-clause-there c =
    at_there c.args.aig.now c.args.order.now c.loop-gate.gate-index (order_there c.args.aig.now c.args.graph.now c.requires.graph c.has_order.ensures.placed) c.requires.order c.loop-gate-test.true

pub returns-clause-sound : goal.returns-clause-sound
returns-clause-sound c =
    over_sound c.args.aig.now (order_there c.args.aig.now c.args.graph.now c.requires.graph c.has_order.ensures.placed)

pub returns-clause-there : goal.returns-clause-there
returns-clause-there c = order_there c.args.aig.now c.args.graph.now c.requires.graph c.has_order.ensures.placed

pub returns-clause-few : goal.returns-clause-few
returns-clause-few c =
    let few = order_few c.args.aig.now c.args.graph.now c.requires.graph c.has_order.ensures.few in
    let kids = kids_count c.args.aig.now in
    let same = ap (λ (v : GraphView). length v.kids) c.requires.graph in
    omega (arith, c.new.ensures.sound.gates_fit)

pub returns-clause-count : goal.returns-clause-count
returns-clause-count c = order_few c.args.aig.now c.args.graph.now c.requires.graph c.has_order.ensures.few
