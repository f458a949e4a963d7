use Rattle.std.proofs.Common.{Bool, cond, eqb, sym, ap, ◌∙◌}
use Rattle.std.specs.Int.{w64}
use Rattle.pim_io.specs.Lanes.{is_set}
use Rattle.pim_vectors.proofs.BitLemmas.{is_set-set, is_set-clear}
use Rattle.pim_vectors.proofs.bits.with_bit.Goals as goal

pub returns-then-bit : goal.returns-then-bit
returns-then-bit c = λ i small.
    is_set-set w64 c.args.word c.args.place i c.requires
    ∙ ap (λ (b : Bool). cond (eqb i c.args.place) b (is_set c.args.word i)) (sym c.if-bit.true)

pub returns-else-bit : goal.returns-else-bit
returns-else-bit c = λ i small.
    is_set-clear w64 c.args.word c.args.place i c.requires small
    ∙ ap (λ (b : Bool). cond (eqb i c.args.place) b (is_set c.args.word i)) (sym c.if-bit.false)
