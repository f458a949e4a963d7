-- An instruction of the IMPLY machine does what its majority does.
use Rattle.std.proofs.Common.{◌≡◌, ℕ, zero, suc, ◌<◌, Bool, true, false, ◌||◌, eqb, List, [], ◌∷◌, set, refl, ap, arith}
use Rattle.std.specs.Prelude.{All}
use Rattle.std.proofs.lemmas.Bool.{ne_eqb}
use Rattle.pim_isa.specs.Steps.{bit, majority, step}
use Rattle.pim_lanes.specs.Banks.{FitsCells}
use Rattle.pim_imply.specs.Machines.{istep}
use Rattle.pim_imply.specs.Validity.{IsFit}
use Rattle.pim_imply.specs.declared.instr.ImplyInstr.{ImplyInstr}
use Rattle.pim_imply.specs.declared.instr.ImplyInstr.TheVariants.{False, Imp}
use Rattle.pim_batch.specs.inner.Majorities.{as_majority}

majority_with_one : (a b : Bool) → majority true a b ≡ (a || b)
majority_with_one true b = refl
majority_with_one false true = refl
majority_with_one false false = refl

pub step_as : (m : List Bool) (i : ImplyInstr) → step m (as_majority i) ≡ istep m i
step_as m (False q) = refl
step_as m (Imp p q) = ap (λ (b : Bool). set m q b) (majority_with_one _ (bit m q))

two_below : (cells q : ℕ) → q < cells → All (λ c. c < cells) (q ∷ q ∷ [])
two_below cells q h zero d l = h
two_below cells q h (suc zero) d l = h
two_below cells q h (suc (suc k)) d l = absurd (omega arith)

three_below : (cells p q : ℕ) → p < cells → q < cells → All (λ c. c < cells) (q ∷ q ∷ p ∷ [])
three_below cells p q g h zero d l = h
three_below cells p q g h (suc zero) d l = h
three_below cells p q g h (suc (suc zero)) d l = g
three_below cells p q g h (suc (suc (suc k))) d l = absurd (omega arith)

pub fits_majority : (cells : ℕ) (i : ImplyInstr) → IsFit cells i → FitsCells cells (as_majority i)
fits_majority cells (False q) h = record { within = two_below cells q h; apart = refl }
fits_majority cells (Imp p q) h =
    let other : eqb p q ≡ false = ne_eqb p q h.2 in
    record { within = three_below cells p q h.0 h.1; apart = rw other refl }
