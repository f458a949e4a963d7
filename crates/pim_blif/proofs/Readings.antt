-- Words of a statement, as loops and calls take them.
use Rattle.std.proofs.Common.{◌≡◌, ℕ, List, ◌++◌, Result, Ok, length, take, min, ap, ◌∙◌, arith}
use Rattle.std.proofs.lemmas.List.{take_min}
use Rattle.pim_blif.specs.declared.fault.BlifFault.{BlifFault}
use Rattle.pim_io.specs.Readings.{◌>>=◌}

-- what was numbered before, and what is still numbered
abbrev pub with_numbers : List ℕ → Result (List ℕ × List (List ℕ)) BlifFault → Result (List ℕ × List (List ℕ)) BlifFault
with_numbers front reading = reading >>= λ x. Ok (front ++ x.0, x.1)

-- the first bytes of a word, as many as there are
pub first_bytes : (word : List ℕ) (n : ℕ) → n ≡ min (length word) 4096 → take n word ≡ take 4096 word
first_bytes word n e =
    let f : n ≡ min 4096 (length word) = omega arith in
    ap (λ k. take k word) f ∙ take_min 4096 word
