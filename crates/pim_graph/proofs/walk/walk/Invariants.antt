use Rattle.std.proofs.Common.{[], fold, length, slice_index}
use Rattle.pim_graph.specs.Graphs.{kids_of}
use Rattle.pim_graph.specs.Orders.{visited}
use Rattle.pim_graph.specs.Usages.{falling}
use Rattle.pim_graph.proofs.Stacks.{work}
use Rattle.pim_graph.proofs.Walks.{IsWalk}
use Rattle.pim_graph.proofs.walk.walk.Given as goal

abbrev pub invariant-steps : goal.invariant-steps
invariant-steps l =
    IsWalk (length l.graph.kids) (λ x. falling (slice_index l.usage) (kids_of l.graph x)) (fold (visited (λ x. falling (slice_index l.usage) (kids_of l.graph x))) [] l.gates) l.stack.items l.out.items l.seen.items

abbrev pub decreases-steps : goal.decreases-steps
decreases-steps l = work (λ x. falling (slice_index l.usage) (kids_of l.graph x)) l.stack.items l.out.items
