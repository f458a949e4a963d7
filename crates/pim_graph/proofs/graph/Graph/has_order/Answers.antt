use Rattle.std.proofs.Common.{subst}
use Rattle.pim_graph.specs.Graphs.{IsGraph}
use Rattle.pim_graph.specs.Orders.{order}
use Rattle.pim_graph.proofs.Orderings.{order-IsPlaced}
use Rattle.pim_graph.proofs.Placing.{length-placed}
use Rattle.pim_graph.proofs.Reaching.{order_full}
use Rattle.pim_graph.proofs.graph.Graph.has_order.Goals as goal

pub returns-clause-placed : goal.returns-clause-placed
returns-clause-placed c = order-IsPlaced c.args.self.now (subst IsGraph c.self.view_is c.self.invariant.sound)

pub returns-clause-full : goal.returns-clause-full
returns-clause-full c = order_full c.args.self.now (subst IsGraph c.self.view_is c.self.invariant.sound)

pub returns-clause-few : goal.returns-clause-few
returns-clause-few c = length-placed c.args.self.now (order c.args.self.now) (order-IsPlaced c.args.self.now (subst IsGraph c.self.view_is c.self.invariant.sound))
