use Rattle.std.proofs.Common.{◌≡◌, ap, sym, ◌∙◌, arith}
use Rattle.pim_io.specs.Lanes.{is_set}
use Rattle.pim_prove.proofs.BitLemmas.{is_set-ones, is_set-zero, is_set_one}
use Rattle.pim_prove.proofs.digits.spread.Goals as goal

pub returns-then-bit-eq1 : goal.returns-then-bit-eq1
returns-then-bit-eq1 c = λ r small.
    let one : c.args.bit ≡ 1 = omega arith in
    is_set-ones r small ∙ sym is_set_one ∙ ap (λ b. is_set b 0) (sym one)

pub returns-else-bit-eq1 : goal.returns-else-bit-eq1
returns-else-bit-eq1 c = λ r small.
    let none : c.args.bit ≡ 0 = omega arith in
    is_set-zero r ∙ sym (is_set-zero 0) ∙ ap (λ b. is_set b 0) (sym none)
