-- Vectors and their numbers: each vector has one, and numbers that are 2 ^ n apart have one vector.
use Rattle.std.proofs.Common.{◌≡◌, ℕ, zero, suc, ◌+◌, ◌*◌, ◌/◌, ◌%◌, ◌^◌, ◌<◌, Bool, true, false, cond, eqb, List, [], ◌∷◌, length, refl, ap, ◌∙◌, arith}
use Rattle.std.proofs.Math.Nat.{add-mul-div_right, div-eq_of_lt, one-le-pow, pow-suc}
use Rattle.std.proofs.lemmas.Nat.{div-mul-add}
use Rattle.pim_prove.specs.Vectors.{digits}

two_more : (n : ℕ) → 2 ^ suc n ≡ 2 ^ n + 2 ^ n
two_more n = pow-suc 2 n ∙ double (2 ^ n)
  where
    double : (x : ℕ) → x * 2 ≡ x + x
    double x = omega arith

pub positive : (n : ℕ) → 0 < 2 ^ n
positive n = one-le-pow n 2 (omega arith)

-- 2 ^ (n + 1) more leave digit n as it is
digit_again : (n y : ℕ) → (2 ^ suc n + y) / 2 ^ n % 2 ≡ y / 2 ^ n % 2
digit_again n y =
    let sum : 2 ^ suc n + y ≡ y + 2 * 2 ^ n = omega (arith, two_more n) in
    let split : (y + 2 * 2 ^ n) / 2 ^ n ≡ y / 2 ^ n + 2 = add-mul-div_right y 2 (positive n) in
    ap (λ m. m / 2 ^ n % 2) sum ∙ ap (λ m. m % 2) split ∙ even (y / 2 ^ n)
  where
    even : (x : ℕ) → (x + 2) % 2 ≡ x % 2
    even x = omega arith

pub digits_again : (n y : ℕ) → digits n (2 ^ n + y) ≡ digits n y
digits_again zero y = refl
digits_again (suc n) y =
    let sum : 2 ^ suc n + y ≡ 2 ^ n + (2 ^ n + y) = omega (arith, two_more n) in
    ap (λ d. eqb d 1 ∷ digits n (2 ^ suc n + y)) (digit_again n y)
    ∙ ap (λ bs. eqb (y / 2 ^ n % 2) 1 ∷ bs) (ap (digits n) sum ∙ digits_again n (2 ^ n + y) ∙ digits_again n y)

pub length-digits : (n x : ℕ) → length (digits n x) ≡ n
length-digits zero x = refl
length-digits (suc n) x = ap suc (length-digits n x)

-- ---- the number of a vector

unfoldable pub number : List Bool → ℕ
number [] = 0
number (b ∷ bs) = cond b (2 ^ length bs + number bs) (number bs)

pub number_small : (bits : List Bool) → number bits < 2 ^ length bits
unfolding number
number_small [] = omega arith
number_small (true ∷ bs) = omega (arith, two_more (length bs), number_small bs)
number_small (false ∷ bs) = omega (arith, two_more (length bs), number_small bs)

pub digits-number : (bits : List Bool) → digits (length bits) (number bits) ≡ bits
unfolding number
digits-number [] = refl
digits-number (true ∷ bs) =
    let n = length bs in
    let sum : 2 ^ n + number bs ≡ 1 * 2 ^ n + number bs = omega arith in
    let one : (2 ^ n + number bs) / 2 ^ n ≡ 1 = ap (λ m. m / 2 ^ n) sum ∙ div-mul-add 1 (2 ^ n) (number bs) (number_small bs) in
    ap (λ d. eqb (d % 2) 1 ∷ digits n (2 ^ n + number bs)) one
    ∙ ap (λ cs. true ∷ cs) (digits_again n (number bs) ∙ digits-number bs)
digits-number (false ∷ bs) =
    let n = length bs in
    let none : number bs / 2 ^ n ≡ 0 = div-eq_of_lt (number_small bs) in
    ap (λ d. eqb (d % 2) 1 ∷ digits n (number bs)) none ∙ ap (λ cs. false ∷ cs) (digits-number bs)
