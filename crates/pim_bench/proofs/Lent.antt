-- A list that was written whole by way of a part as long as it.
use Rattle.std.proofs.Common.{◌≡◌, ◌++◌, ℕ, List, length, take, drop, arith}
use Rattle.std.proofs.lemmas.List.{length-append, length-take-le}

pub length-written : (n : ℕ) (old new : List ℕ) → length old ≡ n → length new ≡ n → length (take n (new ++ drop (length new) old)) ≡ n
length-written n old new long same =
    length-take-le n (new ++ drop (length new) old) (omega (arith, length-append new (drop (length new) old), same))
