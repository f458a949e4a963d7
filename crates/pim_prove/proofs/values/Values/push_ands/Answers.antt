use Rattle.std.proofs.Common.{◌≡◌, List, ℕ, ◌++◌, [], ◌∷◌, get_or, ap, bit_and, ◌∙◌}
use Rattle.pim_prove.specs.inner.Comparing.{words_at}
use Rattle.pim_prove.proofs.Lanes.{ands_more, words_at-push}
use Rattle.pim_prove.proofs.values.Values.push_ands.Goals as goal

pub loop-and-preserved : goal.loop-and-preserved
loop-and-preserved c = λ j r within small.
    let x = c.literal.result in
    let y = c.literal-in-loop-and.result in
    let words = words_at c.loop-and.self j in
    let block = c.both-block.result in
    let new : words_at c.push.new.self.items j ≡ words_at c.loop-and.self j ++ bit_and (get_or c.literal.result j 0) (get_or c.literal-in-loop-and.result j 0) ∷ [] =
    words_at-push c.loop-and.self c.push.new.self.items block j
    (c.in_ok-push.ensures.items ∙ ap (λ (bs : List (List ℕ)). bs ++ block ∷ []) c.self.view_is)
    ∙ ap (λ (w : ℕ). words_at c.loop-and.self j ++ w ∷ []) (c.both-block.ensures j within) in
    ands_more c.args.ands.now c.loop-and.and-index (record { x = record { 0 = 0 }; y = record { 0 = 0 } }) words (words_at c.push.new.self.items j)
    (get_or x j 0) (get_or y j 0) r _ c.loop-and-test.true new (c.literal.ensures j r within small) (c.literal-in-loop-and.ensures j r within small)
    (c.loop-and.invariant j r within small)
