use Rattle.std.proofs.Common.{ℕ, List, [], ◌∷◌, ◌++◌, ap, sym, ◌∙◌, arith}
use Rattle.pim_life.proofs.Drawings.{range_push}
use Rattle.pim_life.proofs.tree_line.numbers.Goals as goal

pub loop-number-preserved : goal.loop-number-preserved
loop-number-preserved c =
    c.in_ok-push.ensures.items ∙ ap (λ (xs : List ℕ). xs ++ c.loop-number.number ∷ []) c.loop-number.invariant
    ∙ sym (range_push 0 c.loop-number.number c.loop-number.number (omega arith))
