-- Inner: bytes that are taken behind those that are held.
use Rattle.std.specs.Prelude.{◌≡◌, ℕ, ◌++◌, List, Option}
use Rattle.pim_io.specs.Outside.{Told}
use Rattle.pim_vectors.specs.Next.{LinesView}

-- bytes were taken, and nothing was handed out
pub record Took (old : LinesView) (before now : Option (List ℕ)) (new : LinesView) : Type 0 where
  pub longest : new.longest ≡ old.longest
  pub given : new.given ≡ old.given
  pub place : new.place ≡ old.place
  pub bytes : Told before now (λ b n. new.held ++ n ≡ old.held ++ b)
