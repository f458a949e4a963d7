use Rattle.std.proofs.Common.{ℕ, ap, ◌∙◌, arith, below_more, get_or-set_same, get_or-set_other}
use Rattle.std.proofs.lemmas.List.FromFn.{fill_by_all}
use Rattle.pim_io.specs.Bits.{digit_of}
use Rattle.pim_vectors.specs.inner.Cells.{staged_at}
use Rattle.pim_vectors.proofs.eights.unpack_lane.Goals as goal

pub loop-k-preserved : goal.loop-k-preserved
unfolding staged_at
loop-k-preserved c =
    let k = c.loop-k.k in
    let line = c.loop-k.line in
    below_more _ _
    (λ j small. get_or-set_other line k j c.digit.result 0 (λ e. omega arith) ∙ c.loop-k.invariant j small)
    (get_or-set_same line k c.digit.result 0 (omega arith) ∙ c.digit.ensures ∙ ap digit_of c.bit.ensures)

pub returns : goal.returns
returns c =
    fill_by_all (λ (k : ℕ). digit_of (staged_at c.args.columns c.args.bytes.now k c.args.index)) c.loop-k.line c.args.columns 0 (omega arith)
    (λ k small. c.loop-k.invariant k (omega arith))
