use Rattle.std.proofs.Common.{get_or}
use Rattle.std.proofs.lemmas.Bool.{iff_false}
use Rattle.pim_prove.specs.inner.Comparing.{words_at}
use Rattle.pim_prove.proofs.Lanes.{literal_complement, literal_plain}
use Rattle.pim_prove.proofs.values.Values.literal.Goals as goal

pub returns-then-is_complemented : goal.returns-then-is_complemented
returns-then-is_complemented c = λ j r within small.
    literal_complement (words_at c.args.self.now j) c.args.literal c.node.result (get_or c.node-block.result j 0) (get_or c.flipped.result j 0) r
    (c.is_complemented.ensures.0 c.if-is_complemented.true) c.node.ensures (c.node-block.ensures j within) (c.flipped.ensures j within) small

pub returns-else-is_complemented : goal.returns-else-is_complemented
returns-else-is_complemented c = λ j r within small.
    literal_plain (words_at c.args.self.now j) c.args.literal c.node.result (get_or c.node-block.result j 0) r
    (iff_false c.is_complemented.ensures c.if-is_complemented.false) c.node.ensures (c.node-block.ensures j within)
