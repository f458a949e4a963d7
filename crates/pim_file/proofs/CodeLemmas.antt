-- Seven-bit codes as this form has them: each number in its shortest spelling.
use Rattle.std.proofs.Common.{◌≡◌, ℕ, zero, suc, ◌+◌, ◌-◌, ◌*◌, ◌/◌, ◌%◌, ◌^◌, ◌<◌, ◌≤◌, Bool, true, false, cond, not, ◌||◌, eqb, List, [], ◌∷◌, ◌++◌, length, refl, ap, sym, ◌∙◌, arith, get_or, take, nat_lt, nat_le, add-one, subst, length-append}
use Rattle.std.specs.Str.{bytes_eq}
use Rattle.std.proofs.lemmas.Bool.Decides.{nat_tests}
use Rattle.std.proofs.lemmas.Bool.{false≢true, eq-eqb, ne_eqb}
use Rattle.std.proofs.lemmas.List.{take_at}
use Rattle.std.proofs.Math.Nat.{pow-suc}
use Rattle.pim_io.specs.declared.codes.Code.TheVariants.{Got, Long, Short}
use Rattle.pim_io.specs.Codes.{code_value, high_len, is_high, code_at, code_within, code_of}

-- the tests of a code that is read
pub got_at : (long within small : Bool) (value' next' value next : ℕ) → cond long Long (cond within (cond small (Got value' next') Long) Short) ≡ Got value next → (long ≡ false) × (within ≡ true) × (small ≡ true) × (value' ≡ value) × (next' ≡ next)
got_at true within small value' next' value next e = absurd cc
got_at false false small value' next' value next e = absurd cc
got_at false true false value' next' value next e = absurd cc
got_at false true true value' next' value next e = (refl, refl, refl, cc, cc)

pub code_within-last : (n rest : ℕ) → rest < 128 → code_within n rest ≡ rest ∷ []
code_within-last zero rest h = refl
code_within-last (suc n) rest h = let low : nat_lt rest 128 ≡ true = grind (arith, nat_tests) in rw low refl

pub code_within-more : (n rest : ℕ) → 128 ≤ rest → code_within (suc n) rest ≡ (rest % 128 + 128) ∷ code_within n (rest / 128)
code_within-more n rest h = let high : nat_lt rest 128 ≡ false = grind (arith, nat_tests) in rw high refl

-- how many high bytes come first

none_high : (b : ℕ) (bytes : List ℕ) → high_len (b ∷ bytes) ≡ 0 → b < 128
none_high b bytes e = by_test (is_high b) refl e
  where
    by_test : (t : Bool) → is_high b ≡ t → cond t (1 + high_len bytes) 0 ≡ 0 → b < 128
    by_test true is e = absurd (omega arith)
    by_test false is e = grind (arith, nat_tests)

one_high : (b : ℕ) (bytes : List ℕ) (h : ℕ) → high_len (b ∷ bytes) ≡ suc h → (128 ≤ b) × (high_len bytes ≡ h)
one_high b bytes h e = by_test (is_high b) refl e
  where
    by_test : (t : Bool) → is_high b ≡ t → cond t (1 + high_len bytes) 0 ≡ suc h → (128 ≤ b) × (high_len bytes ≡ h)
    by_test true is e = (grind (arith, nat_tests), omega arith)
    by_test false is e = absurd (omega arith)

-- a code that says 0 ends in 0
zero_ends : (h : ℕ) (bytes : List ℕ) → high_len bytes ≡ h → h < length bytes → code_value (take (suc h) bytes) ≡ 0 → get_or bytes h 0 ≡ 0
zero_ends h [] e l v = absurd (omega arith)
zero_ends zero (b ∷ bytes) e l v = let low = none_high b bytes e in omega arith
zero_ends (suc h) (b ∷ bytes) e l v = zero_ends h bytes (one_high b bytes h e).1 (omega arith) (omega arith)

-- the bytes of a code are those of the shortest code of its number where they are one, or the last isn't 0

same_byte : (b c : ℕ) (xs ys : List ℕ) → b ≡ c → bytes_eq (b ∷ xs) (c ∷ ys) ≡ bytes_eq xs ys
same_byte b c xs ys e = let t = eq-eqb b c e in rw t refl

other_byte : (b c : ℕ) (xs ys : List ℕ) → (b ≡ c → ⊥) → bytes_eq (b ∷ xs) (c ∷ ys) ≡ false
other_byte b c xs ys ne = let t = ne_eqb b c ne in rw t refl

last_test : (h : ℕ) (bytes : List ℕ) → high_len bytes ≡ h → h < length bytes → (code_value (take (suc h) bytes) ≡ 0 → ⊥) → (eqb h 0 || not (eqb (get_or bytes h 0) 0)) ≡ not (eqb (get_or bytes h 0) 0)
last_test h [] e l some = absurd (omega arith)
last_test zero (b ∷ bytes) e l some =
    let low = none_high b bytes e in
    let other : eqb b 0 ≡ false = ne_eqb b 0 (λ is. some (omega arith)) in
    rw other refl
last_test (suc h) (b ∷ bytes) e l some =
    let more : eqb (suc h) 0 ≡ false = ne_eqb (suc h) 0 (λ is. omega arith) in
    rw more refl

module _ (h n b : ℕ) (bytes : List ℕ) (high : 128 ≤ b) (small : b < 256) where
  grown : (value : ℕ) → value ≡ code_value (take (suc h) bytes) → (value ≡ 0 → ⊥) → bytes_eq (b ∷ take (suc h) bytes) (code_within (suc n) (b % 128 + 128 * value)) ≡ bytes_eq (take (suc h) bytes) (code_within n value)
  grown value v some =
      let more : 128 ≤ b % 128 + 128 * value = omega arith in
      let first : b ≡ (b % 128 + 128 * value) % 128 + 128 = omega arith in
      let others : (b % 128 + 128 * value) / 128 ≡ value = omega arith in
      rw (code_within-more n (b % 128 + 128 * value) more, others) (same_byte _ _ (take (suc h) bytes) (code_within n value) first)

  ungrown : bytes_eq (b ∷ take (suc h) bytes) (code_within (suc n) (b % 128 + 128 * 0)) ≡ false
  ungrown =
      let less : b % 128 + 128 * 0 < 128 = omega arith in
      rw (code_within-last (suc n) (b % 128 + 128 * 0) less) (other_byte b (b % 128 + 128 * 0) (take (suc h) bytes) [] (λ e. omega arith))

pub shortest : (h n : ℕ) (bytes : List ℕ) → high_len bytes ≡ h → h < length bytes → h ≤ n → ((j : ℕ) → get_or bytes j 0 < 256) → (eqb h 0 || not (eqb (get_or bytes h 0) 0)) ≡ bytes_eq (take (suc h) bytes) (code_within n (code_value (take (suc h) bytes)))
shortest h n [] e l fuel small = absurd (omega arith)
shortest zero n (b ∷ bytes) e l fuel small =
    let low = none_high b bytes e in
    let value : b % 128 + 128 * 0 ≡ b = omega arith in
    rw (value, code_within-last n b low) (sym (same_byte b b [] [] refl))
shortest (suc h) zero (b ∷ bytes) e l fuel small = absurd (omega arith)
shortest (suc h) (suc n) (b ∷ bytes) e l fuel small =
    let high = one_high b bytes h e in
    let value = code_value (take (suc h) bytes) in
    let inner = shortest h n bytes high.1 (omega arith) (omega arith) (λ j. small (suc j)) in
    let more : eqb (suc h) 0 ≡ false = ne_eqb (suc h) 0 (λ is. omega arith) in
    rw more (by_value (eqb value 0) refl high.0 high.1 inner)
  where
    by_value : (t : Bool) → eqb (code_value (take (suc h) bytes)) 0 ≡ t → 128 ≤ b → high_len bytes ≡ h → (eqb h 0 || not (eqb (get_or bytes h 0) 0)) ≡ bytes_eq (take (suc h) bytes) (code_within n (code_value (take (suc h) bytes))) → not (eqb (get_or bytes h 0) 0) ≡ bytes_eq (b ∷ take (suc h) bytes) (code_within (suc n) (b % 128 + 128 * code_value (take (suc h) bytes)))
    by_value true is high same inner =
        let none : code_value (take (suc h) bytes) ≡ 0 = grind (arith, nat_tests) in
        let last = eq-eqb (get_or bytes h 0) 0 (zero_ends h bytes same (omega arith) none) in
        rw (none, last) (sym (ungrown h n b bytes high (small 0)))
    by_value false is high same inner =
        let some : code_value (take (suc h) bytes) ≡ 0 → ⊥ = λ none. false≢true (sym is ∙ eq-eqb _ _ none) in
        sym (last_test h bytes same (omega arith) some) ∙ inner ∙ sym (grown h n b bytes high (small 0) (code_value (take (suc h) bytes)) refl some)

-- the same in the words of the reader

same_test : (h : ℕ) → eqb (suc h) 1 ≡ eqb h 0
same_test zero = refl
same_test (suc h) =
    let a : eqb (suc (suc h)) 1 ≡ false = ne_eqb _ _ (λ e. omega arith) in
    let b : eqb (suc h) 0 ≡ false = ne_eqb _ _ (λ e. omega arith) in
    a ∙ sym b

to_next : (bytes : List ℕ) (h value next : ℕ) → next ≡ suc h → code_value (take (suc h) bytes) ≡ value → (eqb h 0 || not (eqb (get_or bytes h 0) 0)) ≡ bytes_eq (take (suc h) bytes) (code_within 4 (code_value (take (suc h) bytes))) → (eqb next 1 || not (eqb (get_or bytes (next - 1) 0) 0)) ≡ bytes_eq (take next bytes) (code_within 4 value)
to_next bytes h value next n v own =
    let before : suc h - 1 ≡ h = omega arith in
    rw (n, same_test h, before, ← v) own

pub shortest_code : (bytes : List ℕ) (value next : ℕ) → ((j : ℕ) → get_or bytes j 0 < 256) → code_at bytes 0 ≡ Got value next → (eqb next 1 || not (eqb (get_or bytes (next - 1) 0) 0)) ≡ bytes_eq (take next bytes) (code_of value)
unfolding code_of code_at
shortest_code bytes value next small e =
    let h = high_len bytes in
    let got = got_at (nat_le 5 h) (nat_lt h (length bytes)) (nat_lt (code_value (take (h + 1) bytes)) (2 ^ 32)) _ _ value next e in
    let few : h < 5 = grind (arith, nat_tests, got.0) in
    let within : h < length bytes = grind (arith, nat_tests, got.1) in
    let own = shortest h 4 bytes refl within (omega arith) small in
    to_next bytes h value next (sym got.4 ∙ omega arith) (ap (λ (n : ℕ). code_value (take n bytes)) (sym (add-one h)) ∙ got.3) own

-- the shortest code of a number is read as it, whatever follows

record IsCode (n value : ℕ) (rest : List ℕ) : Type 0 where
  high : high_len (code_within n value ++ rest) + 1 ≡ length (code_within n value)
  says : code_value (code_within n value) ≡ value
  short : length (code_within n value) ≤ n + 1

one_byte : (n value : ℕ) (rest : List ℕ) → value < 128 → IsCode n value rest
one_byte n value rest h =
    let code = code_within-last n value h in
    let low : is_high value ≡ false = grind (arith, nat_tests) in
    record { high = rw (code, low) refl; says = rw code (omega arith); short = rw code (omega arith) }

code_is : (n value : ℕ) (rest : List ℕ) → value < 128 ^ suc n → IsCode n value rest
code_is zero value rest h = one_byte zero value rest (omega arith)
code_is (suc n) value rest h = by_size (nat_lt value 128) refl (λ l. code_is n (value / 128) rest l)
  where
    by_size : (t : Bool) → nat_lt value 128 ≡ t → (value / 128 < 128 ^ suc n → IsCode n (value / 128) rest) → IsCode (suc n) value rest
    by_size true is more = one_byte (suc n) value rest (grind (arith, nat_tests))
    by_size false is more =
        let large : 128 ≤ value = grind (arith, nat_tests) in
        let code = code_within-more n value large in
        let power : 128 ^ suc (suc n) ≡ 128 ^ suc n * 128 = pow-suc 128 (suc n) in
        let tail = more (omega arith) in
        let tail_high = tail.high in
        let tail_says = tail.says in
        let tail_short = tail.short in
        let first : is_high (value % 128 + 128) ≡ true = grind (arith, nat_tests) in
        record {
          high = rw code (rw first (omega arith));
          says = rw code (omega arith);
          short = rw code (omega arith);
        }

pub code_is_read : (value : ℕ) (rest : List ℕ) → value < 2 ^ 32 → code_at (code_of value ++ rest) 0 ≡ Got value (length (code_of value))
unfolding code_of code_at
code_is_read value rest h =
    let code = code_within 4 value in
    let is = code_is 4 value rest (omega arith) in
    let high = is.high in
    let short = is.short in
    let whole : length (code ++ rest) ≡ length code + length rest = length-append code rest in
    let low : nat_le 5 (high_len (code ++ rest)) ≡ false = grind (arith, nat_tests) in
    let within : nat_lt (high_len (code ++ rest)) (length (code ++ rest)) ≡ true = grind (arith, nat_tests) in
    let says : code_value (take (high_len (code ++ rest) + 1) (code ++ rest)) ≡ value = ap code_value (take_at code rest _ (sym high)) ∙ is.says in
    let small : nat_lt value (2 ^ 32) ≡ true = grind (arith, nat_tests) in
    rw (low, within, says, small) (ap (Got value) (omega arith))

pub code_is_some : (value : ℕ) → 1 ≤ length (code_of value)
unfolding code_of
code_is_some value = by_size (nat_lt value 128) refl
  where
    by_size : (t : Bool) → nat_lt value 128 ≡ t → 1 ≤ length (code_within 4 value)
    by_size true is = rw (code_within-last 4 value (grind (arith, nat_tests))) (omega arith)
    by_size false is = rw (code_within-more 3 value (grind (arith, nat_tests))) (omega arith)

-- a number that is read is below 2 ^ 32
pub code_is_small : (bytes : List ℕ) (value next : ℕ) → code_at bytes 0 ≡ Got value next → value < 2 ^ 32
unfolding code_at
code_is_small bytes value next e =
    let h = high_len bytes in
    let got = got_at (nat_le 5 h) (nat_lt h (length bytes)) (nat_lt (code_value (take (h + 1) bytes)) (2 ^ 32)) _ _ value next e in
    let small : code_value (take (h + 1) bytes) < 2 ^ 32 = grind (arith, nat_tests, got.2) in
    subst (λ (n : ℕ). n < 2 ^ 32) got.3 small
