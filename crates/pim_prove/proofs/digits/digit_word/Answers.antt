use Rattle.std.proofs.Common.{◌≤◌, ap, sym, ◌∙◌, arith, ◌+◌, ◌*◌}
use Rattle.pim_io.specs.Lanes.{is_set}
use Rattle.pim_prove.proofs.BitLemmas.{high_digit, pattern_0, pattern_1, pattern_2, pattern_3, pattern_4, pattern_5}
use Rattle.pim_prove.proofs.digits.digit_word.Goals as goal

pub returns-in-0 : goal.returns-in-0
returns-in-0 c = λ r small. pattern_0 c.args.word r small ∙ ap (is_set (64 * c.args.word + r)) (sym c.in-0.is)

pub returns-in-1 : goal.returns-in-1
returns-in-1 c = λ r small. pattern_1 c.args.word r small ∙ ap (is_set (64 * c.args.word + r)) (sym c.in-1.is)

pub returns-in-2 : goal.returns-in-2
returns-in-2 c = λ r small. pattern_2 c.args.word r small ∙ ap (is_set (64 * c.args.word + r)) (sym c.in-2.is)

pub returns-in-3 : goal.returns-in-3
returns-in-3 c = λ r small. pattern_3 c.args.word r small ∙ ap (is_set (64 * c.args.word + r)) (sym c.in-3.is)

pub returns-in-4 : goal.returns-in-4
returns-in-4 c = λ r small. pattern_4 c.args.word r small ∙ ap (is_set (64 * c.args.word + r)) (sym c.in-4.is)

pub returns-in-5 : goal.returns-in-5
returns-in-5 c = λ r small. pattern_5 c.args.word r small ∙ ap (is_set (64 * c.args.word + r)) (sym c.in-5.is)

pub returns-in_default : goal.returns-in_default
returns-in_default c = λ r small.
    let high : 6 ≤ c.args.k = omega arith in
    c.spread.ensures r small ∙ high_digit c.args.k c.args.word r high small
