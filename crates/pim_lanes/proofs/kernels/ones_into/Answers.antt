use Rattle.std.proofs.Common.{◌≡◌, ℕ, ◌-◌, ◌^◌, List, length, replicate, ap, ◌∙◌, arith}
use Rattle.pim_io.specs.Lanes.{lane}
use Rattle.pim_lanes.proofs.RuleLemmas.{lane-ones}
use Rattle.pim_lanes.proofs.kernels.ones_into.Goals as goal

pub returns : goal.returns
returns c = λ r small.
    let n : ℕ = length c.args.t.now in
    let words : c.fill.new.self ≡ replicate n (2 ^ 64 - 1) = c.fill.ensures.after (λ y same. same) in
    ap (λ (ws : List ℕ). lane ws r) words ∙ lane-ones n r (omega (arith, c.fill.ensures.len))
