use Rattle.std.proofs.Common.{Bool, cond, eqb, sym, ap, ◌∙◌}
use Rattle.std.specs.Int.{w8}
use Rattle.pim_io.specs.Lanes.{is_set}
use Rattle.pim_vectors.proofs.BitLemmas.{is_set-set, is_set-clear}
use Rattle.pim_vectors.proofs.eights.with_bit.Goals as goal

pub returns-then-bit : goal.returns-then-bit
returns-then-bit c = λ i small.
    is_set-set w8 c.args.byte c.args.place i c.requires
    ∙ ap (λ (b : Bool). cond (eqb i c.args.place) b (is_set c.args.byte i)) (sym c.if-bit.true)

pub returns-else-bit : goal.returns-else-bit
returns-else-bit c = λ i small.
    is_set-clear w8 c.args.byte c.args.place i c.requires small
    ∙ ap (λ (b : Bool). cond (eqb i c.args.place) b (is_set c.args.byte i)) (sym c.if-bit.false)
