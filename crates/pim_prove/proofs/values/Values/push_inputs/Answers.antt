use Rattle.std.proofs.Common.{◌≡◌, ◌-◌, suc, get_or, arith}
use Rattle.pim_prove.specs.inner.Comparing.{words_at}
use Rattle.pim_prove.proofs.Lanes.{inputs_more, words_at-push}
use Rattle.pim_prove.proofs.values.Values.push_inputs.Goals as goal

pub loop-left-preserved : goal.loop-left-preserved
loop-left-preserved c =
    let old = c.loop-left.left in
    let one_more : old ≡ suc (old - 1) = omega arith in
    record {
      few = omega (arith, c.loop-left.invariant.few);
      all = λ j r within small.
          inputs_more (words_at c.loop-left.self-inside.blocks.items j) (words_at c.push.new.self.items j) (get_or c.digit_words.result j 0) old (old - 1) _ r _
          (words_at-push c.loop-left.self-inside.blocks.items c.push.new.self.items c.digit_words.result j c.in_ok-push.ensures.items)
          (c.digit_words.ensures j r within small) one_more (c.loop-left.invariant.all j r within small);
    }
