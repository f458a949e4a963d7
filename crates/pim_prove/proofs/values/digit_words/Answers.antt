use Rattle.std.proofs.Common.{◌+◌, ◌*◌, arith}
use Rattle.pim_prove.proofs.Lanes.{block_word}
use Rattle.pim_prove.proofs.values.digit_words.Goals as goal

pub returns : goal.returns
returns c = λ j r within small.
    block_word c.fill_digits.new.column c.args.word j r c.args.k small (c.fill_digits.ensures (64 * j + r) (omega arith))
