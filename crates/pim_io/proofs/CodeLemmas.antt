-- Seven-bit codes, read from the front and written from the low part on.
use Rattle.std.proofs.Common.{◌≡◌, ℕ, zero, suc, ◌+◌, ◌*◌, ◌/◌, ◌%◌, ◌^◌, ◌<◌, ◌≤◌, Bool, true, false, cond, List, [], ◌∷◌, ◌++◌, length, refl, ap, sym, ◌∙◌, arith, get_or, set, take, drop, nat_lt, nat_le, add-one}
use Rattle.std.proofs.lemmas.Bool.Decides.{nat_tests}
use Rattle.std.proofs.lemmas.Bool.{false≢true}
use Rattle.std.proofs.lemmas.List.{append_assoc, length-append, length-take-le, drop_at, take_at, take_more, take_more_set}
use Rattle.std.proofs.lemmas.List.Sums.{prefix_len_is, prefix_len_stops}
use Rattle.std.proofs.Math.Nat.{pow-suc, one-le-pow, mul-le-mul_right}
use Rattle.pim_io.specs.declared.codes.Code.TheVariants.{Got, Long, Short}
use Rattle.pim_io.specs.Codes.{code_value, high_len, is_high, code_past, first_code, code_at, code_within, code_of}

-- the bytes begin with a code of k + 1 bytes
pub first_code-got : (bytes : List ℕ) (at k : ℕ) → k < 5 → k < length bytes → ((j : ℕ) → j < k → is_high (get_or bytes j 0) ≡ true) → is_high (get_or bytes k 0) ≡ false → first_code bytes at ≡ cond (nat_lt (code_value (take (k + 1) bytes)) (2 ^ 32)) (Got (code_value (take (k + 1) bytes)) (at + k + 1)) Long
first_code-got bytes at k small l before found =
    let high : high_len bytes ≡ k = prefix_len_is is_high bytes k 0 (omega arith) before (λ _. found) in
    let low : nat_le 5 k ≡ false = grind (arith, nat_tests) in
    let within : nat_lt k (length bytes) ≡ true = grind (arith, nat_tests) in
    ap (code_past bytes at) high ∙ rw (low, within) refl

-- the bytes end inside a code
pub first_code-short : (bytes : List ℕ) (at : ℕ) → length bytes < 5 → ((j : ℕ) → j < length bytes → is_high (get_or bytes j 0) ≡ true) → first_code bytes at ≡ Short
first_code-short bytes at small before =
    let high : high_len bytes ≡ length bytes = prefix_len_is is_high bytes (length bytes) 0 (omega arith) before (λ h. absurd (omega arith)) in
    let low : nat_le 5 (length bytes) ≡ false = grind (arith, nat_tests) in
    let within : nat_lt (length bytes) (length bytes) ≡ false = grind (arith, nat_tests) in
    ap (code_past bytes at) high ∙ rw (low, within) refl

-- five bytes that are all high begin no code
pub high_len-five : (bytes : List ℕ) → 5 ≤ length bytes → ((j : ℕ) → j < 5 → is_high (get_or bytes j 0) ≡ true) → 5 ≤ high_len bytes
high_len-five bytes l before =
    let stops : high_len bytes < 5 → ⊥ = λ small. false≢true (sym (prefix_len_stops is_high bytes 0 (omega arith)) ∙ before (high_len bytes) small) in
    omega (arith, stops)

pub first_code-long : (bytes : List ℕ) (at : ℕ) → 5 ≤ length bytes → ((j : ℕ) → j < 5 → is_high (get_or bytes j 0) ≡ true) → first_code bytes at ≡ Long
first_code-long bytes at l before =
    let five : 5 ≤ high_len bytes = high_len-five bytes l before in
    let long : nat_le 5 (high_len bytes) ≡ true = grind (arith, nat_tests) in
    rw long refl

-- one byte more
pub code_value-push : (bytes : List ℕ) (b : ℕ) → code_value (bytes ++ b ∷ []) ≡ code_value bytes + (b % 128) * 128 ^ length bytes
code_value-push [] b = omega arith
code_value-push (c ∷ bytes) b =
    let more = code_value-push bytes b in
    rw pow-suc (omega arith)

-- the value of one byte more
pub code_value-take : (bytes : List ℕ) (k value scale : ℕ) → k < length bytes → value ≡ code_value (take k bytes) → scale ≡ 128 ^ k → code_value (take (k + 1) bytes) ≡ value + (get_or bytes k 0 % 128) * scale
code_value-take bytes k value scale l v s =
    let count : length (take k bytes) ≡ k = length-take-le k bytes (omega arith) in
    let more = ap code_value (take_more bytes k 0 l) in
    let pushed = code_value-push (take k bytes) (get_or bytes k 0) in
    let power : 128 ^ length (take k bytes) ≡ scale = ap (λ (n : ℕ). 128 ^ n) count ∙ sym s in
    cc

-- a value of so many digits in base 128, and one more
pub digit-more : (value scale x : ℕ) → value < scale → x < 128 → value + x * scale < scale * 128
digit-more value scale x l h = let most : x * scale ≤ 127 * scale = mul-le-mul_right scale (omega arith) in omega arith

pub power-more : (scale k : ℕ) → scale ≡ 128 ^ k → scale * 128 ≡ 128 ^ (k + 1)
power-more scale k e = ap (λ (n : ℕ). n * 128) e ∙ sym (pow-suc 128 k) ∙ ap (λ (n : ℕ). 128 ^ n) (sym (add-one k))

-- the code of a number says it, and its bytes but the last are high
high_len-code_step : (n value : ℕ) (rest : List ℕ) → value < 128 ^ suc (suc n) → (b : Bool) → nat_lt value 128 ≡ b → (value / 128 < 128 ^ suc n → high_len (code_within n (value / 128) ++ rest) + 1 ≡ length (code_within n (value / 128))) → high_len (code_within (suc n) value ++ rest) + 1 ≡ length (code_within (suc n) value)
high_len-code_step n value rest h true e more =
    let low : is_high value ≡ false = grind (arith, nat_tests) in
    rw e (rw low refl)
high_len-code_step n value rest h false e more =
    let high : is_high (value % 128 + 128) ≡ true = grind (arith, nat_tests) in
    let power : 128 ^ suc (suc n) ≡ 128 ^ suc n * 128 = pow-suc 128 (suc n) in
    let below : value < 128 ^ suc n * 128 = omega arith in
    let tail = more (omega arith) in
    rw e (rw high (omega arith))

pub high_len-code_within : (n value : ℕ) (rest : List ℕ) → value < 128 ^ suc n → high_len (code_within n value ++ rest) + 1 ≡ length (code_within n value)
high_len-code_within zero value rest h =
    let low : is_high value ≡ false = grind (arith, nat_tests) in
    rw low refl
high_len-code_within (suc n) value rest h = high_len-code_step n value rest h (nat_lt value 128) refl (λ l. high_len-code_within n (value / 128) rest l)

code_value-code_step : (n value : ℕ) → value < 128 ^ suc (suc n) → (b : Bool) → nat_lt value 128 ≡ b → (value / 128 < 128 ^ suc n → code_value (code_within n (value / 128)) ≡ value / 128) → code_value (code_within (suc n) value) ≡ value
code_value-code_step n value h true e more =
    let low : value < 128 = grind (arith, nat_tests) in
    rw e (omega arith)
code_value-code_step n value h false e more =
    let power : 128 ^ suc (suc n) ≡ 128 ^ suc n * 128 = pow-suc 128 (suc n) in
    let below : value < 128 ^ suc n * 128 = omega arith in
    let tail = more (omega arith) in
    rw e (omega arith)

pub code_value-code_within : (n value : ℕ) → value < 128 ^ suc n → code_value (code_within n value) ≡ value
code_value-code_within zero value h = omega arith
code_value-code_within (suc n) value h = code_value-code_step n value h (nat_lt value 128) refl (λ l. code_value-code_within n (value / 128) l)

length-code_step : (n value : ℕ) → (b : Bool) → nat_lt value 128 ≡ b → length (code_within n (value / 128)) ≤ n + 1 → length (code_within (suc n) value) ≤ suc n + 1
length-code_step n value true e more = rw e (omega arith)
length-code_step n value false e more = rw e (omega arith)

pub length-code_within : (n value : ℕ) → length (code_within n value) ≤ n + 1
length-code_within zero value = omega arith
length-code_within (suc n) value = length-code_step n value (nat_lt value 128) refl (length-code_within n (value / 128))

-- a code is read back, whatever follows
pub first_code-code_within : (n value at : ℕ) (rest : List ℕ) → n ≤ 4 → value < 128 ^ suc n → value < 2 ^ 32 → first_code (code_within n value ++ rest) at ≡ Got value (at + length (code_within n value))
first_code-code_within n value at rest most h fits =
    let code = code_within n value in
    let high : high_len (code ++ rest) + 1 ≡ length code = high_len-code_within n value rest h in
    let count : length code ≤ n + 1 = length-code_within n value in
    let whole : length (code ++ rest) ≡ length code + length rest = length-append code rest in
    let low : nat_le 5 (high_len (code ++ rest)) ≡ false = grind (arith, nat_tests) in
    let within : nat_lt (high_len (code ++ rest)) (length (code ++ rest)) ≡ true = grind (arith, nat_tests) in
    let says : code_value (take (high_len (code ++ rest) + 1) (code ++ rest)) ≡ value = ap code_value (take_at code rest _ (sym high)) ∙ code_value-code_within n value h in
    let small : nat_lt value (2 ^ 32) ≡ true = grind (arith, nat_tests) in
    rw (low, within, says, small) (ap (Got value) (omega arith))

pub code_at-code_of : (out rest : List ℕ) (value : ℕ) → value < 2 ^ 32 → code_at (out ++ code_of value ++ rest) (length out) ≡ Got value (length out + length (code_of value))
unfolding code_of code_at
code_at-code_of out rest value h =
    let cut : drop (length out) (out ++ code_within 4 value ++ rest) ≡ code_within 4 value ++ rest = ap (drop (length out)) (append_assoc out (code_within 4 value) rest) ∙ drop_at out (code_within 4 value ++ rest) (length out) refl in
    ap (λ (bytes : List ℕ). first_code bytes (length out)) cut ∙ first_code-code_within 4 value (length out) rest (omega arith) (omega arith) h

-- the code of a number, byte by byte
pub code_within-more : (n rest : ℕ) → 128 ≤ rest → code_within (suc n) rest ≡ (rest % 128 + 128) ∷ code_within n (rest / 128)
code_within-more n rest h = let high : nat_lt rest 128 ≡ false = grind (arith, nat_tests) in rw high refl

pub code_within-last : (n rest : ℕ) → rest < 128 → code_within n rest ≡ rest ∷ []
code_within-last zero rest h = refl
code_within-last (suc n) rest h = let low : nat_lt rest 128 ≡ true = grind (arith, nat_tests) in rw low refl

pub take-more : (bytes code : List ℕ) (len n rest : ℕ) → len < length bytes → 128 ≤ rest → take len bytes ++ code_within (suc n) rest ≡ code → take (len + 1) (set bytes len (rest % 128 + 128)) ++ code_within n (rest / 128) ≡ code
take-more bytes code len n rest l h e =
    let byte = rest % 128 + 128 in
    ap (λ (front : List ℕ). front ++ code_within n (rest / 128)) (take_more_set bytes len byte l) ∙ append_assoc (take len bytes) (byte ∷ []) (code_within n (rest / 128)) ∙ ap (λ (back : List ℕ). take len bytes ++ back) (sym (code_within-more n rest h)) ∙ e

pub take-last : (bytes code : List ℕ) (len n rest : ℕ) → len < length bytes → rest < 128 → take len bytes ++ code_within n rest ≡ code → take (len + 1) (set bytes len rest) ≡ code
take-last bytes code len n rest l h e =
    take_more_set bytes len rest l ∙ ap (λ (back : List ℕ). take len bytes ++ back) (sym (code_within-last n rest h)) ∙ e

-- no shorter run of bytes says a number than its code
pub code_value-take-lt : (n : ℕ) (bytes : List ℕ) → code_value (take n bytes) < 128 ^ n
code_value-take-lt zero bytes = omega arith
code_value-take-lt (suc n) [] = let power = one-le-pow (suc n) 128 (omega arith) in omega arith
code_value-take-lt (suc n) (b ∷ bytes) =
    let rest = code_value-take-lt n bytes in
    let power : 128 ^ suc n ≡ 128 ^ n * 128 = pow-suc 128 n in
    omega arith

length-code_shorter : (n value m : ℕ) → value < 128 ^ suc m → (b : Bool) → nat_lt value 128 ≡ b → ((k : ℕ) → value / 128 < 128 ^ suc k → length (code_within n (value / 128)) ≤ suc k) → length (code_within (suc n) value) ≤ suc m
length-code_shorter n value m h true e more = rw e (omega arith)
length-code_shorter n value zero h false e more = let high : 128 ≤ value = grind (arith, nat_tests) in absurd (omega arith)
length-code_shorter n value (suc m) h false e more =
    let power : 128 ^ suc (suc m) ≡ 128 ^ suc m * 128 = pow-suc 128 (suc m) in
    let below : value < 128 ^ suc m * 128 = omega arith in
    let tail = more m (omega arith) in
    rw e (omega arith)

pub length-code_within-le : (n value m : ℕ) → value < 128 ^ suc m → length (code_within n value) ≤ suc m
length-code_within-le zero value m h = omega arith
length-code_within-le (suc n) value m h = length-code_shorter n value m h (nat_lt value 128) refl (λ k l. length-code_within-le n (value / 128) k l)

got_at : (long within small : Bool) (value' next' value next : ℕ) → cond long Long (cond within (cond small (Got value' next') Long) Short) ≡ Got value next → (value' ≡ value) × (next' ≡ next)
got_at true within small value' next' value next e = absurd cc
got_at false false small value' next' value next e = absurd cc
got_at false true false value' next' value next e = absurd cc
got_at false true true value' next' value next e = (cc, cc)

pub length-code_of-le : (bytes : List ℕ) (value next : ℕ) → code_at bytes 0 ≡ Got value next → length (code_of value) ≤ next
unfolding code_of code_at
length-code_of-le bytes value next e =
    let n = high_len bytes in
    let got : (code_value (take (n + 1) bytes) ≡ value) × (0 + n + 1 ≡ next) = got_at (nat_le 5 n) (nat_lt n (length bytes)) (nat_lt (code_value (take (n + 1) bytes)) (2 ^ 32)) _ _ value next e in
    let below : code_value (take (n + 1) bytes) < 128 ^ (n + 1) = code_value-take-lt (n + 1) bytes in
    let same : 128 ^ (n + 1) ≡ 128 ^ suc n = ap (λ (k : ℕ). 128 ^ k) (add-one n) in
    let least : length (code_within 4 value) ≤ suc n = length-code_within-le 4 value n (omega arith) in
    omega arith
