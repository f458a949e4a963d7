use Rattle.std.proofs.Common.{ℕ, length, ap, ◌∙◌, arith, below_more, get_or-set_same, get_or-set_other}
use Rattle.std.proofs.lemmas.List.FromFn.{fill_by_all}
use Rattle.pim_io.specs.Bits.{digit_of}
use Rattle.pim_vectors.specs.inner.Cells.{lane_at}
use Rattle.pim_vectors.proofs.lanes.unpack_lane.Goals as goal

pub loop-column-preserved : goal.loop-column-preserved
unfolding lane_at
loop-column-preserved c =
    let k = c.loop-column.column in
    let line = c.loop-column.line in
    below_more _ _
    (λ j small. get_or-set_other line k j c.digit.result 0 (λ e. omega arith) ∙ c.loop-column.invariant j small)
    (get_or-set_same line k c.digit.result 0 (omega arith) ∙ c.digit.ensures ∙ ap digit_of c.bit.ensures)

pub returns : goal.returns
returns c =
    fill_by_all (λ (k : ℕ). digit_of (lane_at c.args.words c.args.buffer.now k c.args.index)) c.loop-column.line (length c.args.line.now) 0 (omega arith)
    (λ k small. c.loop-column.invariant k (omega arith))
