-- Digits that are written one after the other.
use Rattle.std.proofs.Common.{◌≡◌, ℕ, suc, ◌+◌, ◌-◌, ◌%◌, ◌/◌, ◌<◌, ◌≤◌, ◌++◌, List, [], ◌∷◌, length, take, set, sym, ap, ◌∙◌, arith}
use Rattle.std.proofs.lemmas.List.{append_assoc, append-nil, length-set, take_all, take_more_set}
use Rattle.pim_adder.specs.Drawn.{digits}

-- one digit more
pub digits_more : (out : List ℕ) (i rest : ℕ) (whole : List ℕ) → i < length out → take i out ++ digits (length out - i) rest ≡ whole → take (i + 1) (set out i (48 + rest % 2)) ++ digits (length (set out i (48 + rest % 2)) - (i + 1)) (rest / 2) ≡ whole
digits_more out i rest whole within so_far =
    let here = 48 + rest % 2 in
    let count : length out - i ≡ suc (length (set out i here) - (i + 1)) = omega (arith, length-set out i here) in
    let more = digits (length (set out i here) - (i + 1)) (rest / 2) in
    ap (λ (l : List ℕ). l ++ more) (take_more_set out i here within) ∙ append_assoc (take i out) (here ∷ []) more ∙ ap (λ (n : ℕ). take i out ++ digits n rest) (sym count) ∙ so_far

-- all digits were written
pub digits_all : (out : List ℕ) (i rest : ℕ) (whole : List ℕ) → length out ≤ i → take i out ++ digits (length out - i) rest ≡ whole → out ≡ whole
digits_all out i rest whole all so_far =
    let none : length out - i ≡ 0 = omega arith in
    sym (take_all i out all) ∙ sym (append-nil (take i out)) ∙ ap (λ (n : ℕ). take i out ++ digits n rest) (sym none) ∙ so_far
