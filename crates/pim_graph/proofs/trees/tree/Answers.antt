use Rattle.pim_graph.proofs.TreeLaws.{answer_is_best, answer_is_least}
use Rattle.pim_graph.proofs.trees.tree.Goals as goal

pub returns-clause-best : goal.returns-clause-best
returns-clause-best c = answer_is_best c.args.graph.now c.in_ok-answer.ensures.1 c.in_ok-answer.answer c.in_ok-answer.ensures.0

pub returns-clause-least : goal.returns-clause-least
returns-clause-least c = answer_is_least c.args.graph.now c.in_ok-answer.ensures.1 c.in_ok-answer.answer c.in_ok-answer.ensures.0
