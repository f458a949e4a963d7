use Rattle.std.proofs.Common.{◌≡◌, ℕ, ◌+◌, ◌*◌, ◌<◌, ◌++◌, [], ◌∷◌, replicate, ap, ◌∙◌}
use Rattle.std.proofs.lemmas.Result.{IfOk-weaker}
use Rattle.pim_aig.specs.Values.{values_from}
use Rattle.pim_prove.specs.declared.blocks.TheConstants.{BLOCK}
use Rattle.pim_prove.specs.inner.Comparing.{HasBlock, lanes_of, words_at}
use Rattle.pim_prove.proofs.Lanes.{evaluated, zeros_at}
use Rattle.pim_prove.proofs.values.Values.evaluate.Goals as goal

pub returns : goal.returns
returns c =
    let g = c.args.aig.now in
    let begun : c.push.new.self.items ≡ replicate 8 0 ∷ [] = c.in_ok-push.ensures.items ∙ ap (λ bs. bs ++ replicate 8 0 ∷ []) c.clear.ensures.items in
    IfOk-weaker c.push_ands.result
    (λ _. (j r : ℕ) → j < BLOCK → r < 64 → lanes_of (words_at c.push_ands.new.self j) r ≡ values_from (lanes_of (words_at c.push_inputs.new.self j) r) c.ands.result.now)
    (λ _. HasBlock g c.push_ands.new.self c.args.word)
    (λ _ pushed j r within small.
    evaluated g (64 * (c.args.word + j) + r) r (words_at c.push.new.self.items j) (words_at c.push_inputs.new.self j) (words_at c.push_ands.new.self j)
    c.inputs.result c.ands.result.now (zeros_at c.push.new.self.items 8 j begun)
    (c.in_ok-push_inputs.ensures j r within small) c.inputs.ensures.count c.ands.ensures.nodes (pushed j r within small))
    c.push_ands.ensures
