use Rattle.std.proofs.Common.{◌≡◌, ℕ, ◌+◌, ◌-◌, ◌*◌, ◌<◌, ◌≤◌, ◌++◌, length, refl, sym, ap, ◌∙◌, arith}
use Rattle.pim_lanes.proofs.ColumnLemmas.{low_within, high_start, column_in_slice, column_in-low, column_in-high, length-column_in}
use Rattle.pim_lanes.proofs.columns.column_beside.Goals as goal

pub returns-then-c-t-clause-value : goal.returns-then-c-t-clause-value
returns-then-c-t-clause-value c = λ target long.
    let w : ℕ = c.args.words in
    let low : c.args.c * w + w ≤ c.args.t * w = low_within w c.args.c c.args.t c.if-c-t.true in
    column_in_slice w c.args.below.now c.args.c _ refl
    ∙ sym (column_in-low w c.args.below.now (target ++ c.args.above.now) c.args.c (omega arith))

-- where the column begins in those above
start_is : (c : goal.After-result-2-1) → c.args.c * c.args.words - length c.args.below.now - c.args.words ≡ (c.args.c - c.args.t - 1) * c.args.words
start_is c =
    let above : c.args.t < c.args.c = omega arith in
    omega (arith, high_start c.args.words c.args.c c.args.t above)

pub returns-clause-value : goal.returns-clause-value
returns-clause-value c = λ target long.
    let above : c.args.t < c.args.c = omega arith in
    column_in_slice c.args.words c.args.above.now (c.args.c - c.args.t - 1) _ (start_is c)
    ∙ sym (column_in-high c.args.words c.args.t c.args.c c.args.below.now target c.args.above.now c.requires.front long above)

pub returns-clause-long : goal.returns-clause-long
returns-clause-long c =
    let w : ℕ = c.args.words in
    let above : c.args.t < c.args.c = omega arith in
    let n : ℕ = c.args.c - c.args.t - 1 in
    ap length (column_in_slice w c.args.above.now n _ (start_is c))
    ∙ length-column_in w c.args.above.now n (omega (arith, high_start w c.args.c c.args.t above))
