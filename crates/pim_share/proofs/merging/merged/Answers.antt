use Rattle.std.proofs.Common.{◌≡◌, ◌∙◌, length, ap, arith}
use Rattle.pim_share.specs.Turns.{after_turns, laid}
use Rattle.pim_share.proofs.Frames.{length-after_turns}
use Rattle.pim_share.proofs.Laying.{length-laid}
use Rattle.pim_share.proofs.merging.merged.Goals as goal

-- as many parts are left as there are
pub overflow_cast-result : goal.overflow_cast-result
overflow_cast-result c =
    let parts = c.args.parts.now in
    let turns = c.args.turns.now in
    let left = c.deref.ensures.value ∙ c.in_ok-add_turns.ensures.left ∙ ap (λ l. after_turns l turns) c.in_ok-left.ensures in
    let long : length c.deref.result.now ≡ length parts = ap length left ∙ length-after_turns turns (laid 0 parts) ∙ length-laid parts 0 in
    record { fits = omega (arith, long, c.in-Some.ensures.inside, c.requires.few_parts) }
