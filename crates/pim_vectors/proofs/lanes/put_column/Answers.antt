use Rattle.std.proofs.Common.{◌≡◌, ℕ, ◌+◌, ◌-◌, ◌*◌, List, ◌++◌, take, drop, refl, ap, ◌∙◌, arith}
use Rattle.pim_vectors.specs.inner.Cells.{lane_at}
use Rattle.pim_vectors.proofs.TileLemmas.{lane_at-put}
use Rattle.pim_vectors.proofs.lanes.put_column.Goals as goal

pub returns : goal.returns
returns c = λ k r small.
    let w : ℕ = c.args.words in
    let buffer : List ℕ = c.args.buffer.now in
    let start : ℕ = c.args.column * w in
    let count : start + w - start ≡ w = omega arith in
    ap (λ (n : ℕ). lane_at w (take start buffer ++ (c.copy_from_slice.new.self ++ drop n (drop start buffer))) k r) count
    ∙ ap (λ (l : List ℕ). lane_at w (take start buffer ++ (l ++ drop w (drop start buffer))) k r) c.copy_from_slice.ensures.after
    ∙ lane_at-put w c.args.column buffer c.args.new.now start refl c.requires.within c.requires.long k r small
