-- The NOR of some pins, read one after another.
use Rattle.std.proofs.Common.{◌≡◌, List, [], ◌∷◌, fold, refl}
use Rattle.pim_nor.specs.declared.network.Pin.{Pin}
use Rattle.pim_nor.specs.declared.network.Gate.TheVariants.{One, Nor4}
use Rattle.pim_nor.specs.Named.{nor_of}
use Rattle.pim_nor.specs.inner.Reading.{reading}

reading_no_more : (a b c d : Pin) (ps : List Pin) → fold reading (Nor4 a b c d) ps ≡ Nor4 a b c d
reading_no_more a b c d [] = refl
reading_no_more a b c d (p ∷ ps) = reading_no_more a b c d ps

pub fold-reading : (ps : List Pin) → fold reading One ps ≡ nor_of ps
fold-reading [] = refl
fold-reading (a ∷ []) = refl
fold-reading (a ∷ b ∷ []) = refl
fold-reading (a ∷ b ∷ c ∷ []) = refl
fold-reading (a ∷ b ∷ c ∷ d ∷ ps) = reading_no_more a b c d ps
