-- The first place at which a test passes, where none does.
use Rattle.std.proofs.Common.{◌≡◌, Bool, List, length, None, arith}
use Rattle.std.specs.List.{position, position_or_len}
use Rattle.std.proofs.lemmas.Bool.Decides.{nat_tests}
use Rattle.std.proofs.lemmas.List.Sums.{prefix_len-le-length}

pub no_place : {X : Type 0} (p : X → Bool) (xs : List X) → position p xs ≡ None → length xs ≡ position_or_len p xs
no_place p xs none = grind (arith, nat_tests, prefix_len-le-length)
