use Rattle.std.proofs.Common.{◌≡◌, ℕ, Bool, true, false, List, length, sym, refl}
use Rattle.std.specs.Prelude.{◌↔◌}
use Rattle.pim_vectors.specs.Tiles.{IsVector}
use Rattle.pim_top.specs.Judged.{is_vector}
use Rattle.pim_top.proofs.WalkStates.{vector-no, vector-yes}
use Rattle.pim_top.proofs.commands.debug.fits.Goals as goal

fits_is : (r : Bool) (n : ℕ) (line : List ℕ) → ((r ≡ true) ↔ IsVector n line) → r ≡ is_vector n line
fits_is true n line h = sym (vector-yes n line (h.0 refl))
fits_is false n line h = sym (vector-no n line (λ v. let t = h.1 v in cc))

pub returns : goal.returns
returns c =
    rw (← c.inputs.ensures.value) (fits_is c.vector_fits.result (length c.inputs.result.now) c.args.line.now c.vector_fits.ensures)
