use Rattle.std.proofs.Common.{◌≡◌, ℕ, subst, inl, inr, arith, slice_index_or}
use Rattle.std.proofs.lemmas.Bool.{cases_lt}
use Rattle.std.proofs.lemmas.List.Elements.{at_read}
use Rattle.pim_isa.specs.Sound.{IsProgram}
use Rattle.pim_share.proofs.Laying.{needed_step}
use Rattle.pim_share.proofs.merging.needed.Goals as goal

pub loop-part-preserved : goal.loop-part-preserved
loop-part-preserved c =
    let parts = c.args.parts.now in
    let i = c.loop-part.part-index in
    let part = c.part-item.result in
    let step = needed_step parts i part c.loop-part-test.true c.part-item.is in
    let here = at_read parts IsProgram i part c.loop-part-test.true c.part-item.is c.cells.ensures.valid in (
      omega (arith, c.loop-part.invariant.0, c.cells.ensures.value, step),
      omega (arith, c.loop-part.invariant.1, c.cells.ensures.value, c.cells.ensures.valid.small),
      λ k d low. elim (cases_lt k i) [
        | inl below ↦ c.loop-part.invariant.2 k d below
        | inr above ↦ let same : i ≡ k = omega arith in subst (λ (n : ℕ). IsProgram (slice_index_or parts n d)) same (here d)
      ],
    )
