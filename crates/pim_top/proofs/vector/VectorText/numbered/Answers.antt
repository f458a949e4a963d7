use Rattle.std.proofs.Common.{◌≡◌, ◌∙◌, ℕ, zero, suc, ◌-◌, ◌<◌, ◌/◌, ◌%◌, ◌^◌, List, [], ◌∷◌, ◌++◌, ap, append_assoc, arith, sym}
use Rattle.std.specs.Prelude.{◌==◌}
use Rattle.pim_io.specs.Bits.{digit_of, line_of}
use Rattle.pim_prove.specs.Vectors.{digits}
use Rattle.pim_top.proofs.vector.VectorText.numbered.Goals as goal

-- the first of the digits, and those behind it
digits-next : (left number : ℕ) → 0 < left → line_of (digits left number) ≡ digit_of (number / 2 ^ (left - 1) % 2 == 1) ∷ line_of (digits (left - 1) number)
digits-next zero number h = absurd (let z : ⊥ = omega (arith, h) in z)
digits-next (suc k) number h =
    let before : suc k - 1 ≡ k = omega arith in
    ap (λ (j : ℕ). digit_of (number / 2 ^ j % 2 == 1) ∷ line_of (digits j number)) (sym before)

pub loop-left-preserved : goal.loop-left-preserved
loop-left-preserved c =
    let left = c.loop-left.left in
    let number = c.args.number in
    let old = c.loop-left.text.items in
    let next = line_of (digits (left - 1) number) in
    let bit = c.digit_of.result in
    let one : line_of (digits left number) ≡ bit ∷ next = digits-next left number c.loop-left-test.true ∙ ap (λ (b : ℕ). b ∷ next) (sym c.digit_of.ensures) in
    record {
      few = omega (arith, c.loop-left.invariant.few);
      rest = ap (λ (t : List ℕ). t ++ next) c.in_ok-push.ensures.items ∙ append_assoc old (bit ∷ []) next ∙ ap (λ (t : List ℕ). old ++ t) (sym one) ∙ c.loop-left.invariant.rest;
    }
