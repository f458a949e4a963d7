use Rattle.std.proofs.Common.{◌≡◌, ◌==◌, ◌⊎◌, refl, arith}
use Rattle.std.specs.List.{list_all}
use Rattle.std.proofs.lemmas.Bool.Decides.{Decides-at, Decides-by_and, Decides-eqb, Decides-or}
use Rattle.std.proofs.lemmas.Grind.{common_steps}
use Rattle.pim_vectors.proofs.fits.are_digits.Invariants.{is_digit}
use Rattle.pim_vectors.proofs.fits.are_digits.Goals as goal

pub returns : goal.returns
returns c =
    Decides-at c.loop-b.fit _ (grind (arith, common_steps, c.loop-b.invariant))
    (Decides-by_and is_digit (λ b. (b ≡ 48) ⊎ (b ≡ 49)) (list_all is_digit)
    (λ b. Decides-or (b == 48) (b == 49) (Decides-eqb b 48) (Decides-eqb b 49)) refl (λ _ _. refl) c.args.line.now)
