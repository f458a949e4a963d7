-- A text that passed the range of a number is read as a number in it.
use Rattle.std.proofs.Common.{◌≡◌, ◌≤◌, ◌==◌, ℕ, Bool, [], ◌∷◌, drop, cond, refl, sym, ap, subst, true, false, arith, pos}
use Rattle.std.specs.Prelude.{Some, None, unwrap_or}
use Rattle.std.specs.Str.Parse.{IsNumeral, digits_value, starts_with_minus, without_leading_plus}
use Rattle.std.proofs.lemmas.Bool.{ne_eqb}
use Rattle.std.proofs.lemmas.Int.{ints}
use Rattle.std.proofs.lemmas.Str.Parse.{digit_from_value}
use Rattle.clap.specs.Lexer.{without_minus}
use Rattle.clap.specs.Matches.{found_of, one_text}
use Rattle.clap.specs.Values.{IsSignedIn}
use Rattle.clap.specs.Walk.{Text}
use Rattle.clap.specs.declared.parser.matches.ArgMatches.{ArgMatches}
use Rattle.pim_words.specs.inner.Matches.{HasNumber}

without_minus-cond : (t : Text) → without_minus t ≡ cond (starts_with_minus t) (drop 1 t) t
without_minus-cond [] = refl
without_minus-cond (x ∷ xs) = go (x == 45)
  where
    go : (b : Bool) → unwrap_or (cond b (Some xs) None) (x ∷ xs) ≡ cond b xs (x ∷ xs)
    go true = refl
    go false = refl

pub no_plus : (ds : Text) → IsNumeral 10 ds → without_leading_plus ds ≡ ds
no_plus [] h = refl
no_plus (d ∷ ds) h =
    let plus : (d == 43) ≡ false = ne_eqb _ _ (λ e. omega (arith, digit_from_value d h.1.0)) in
    ap (λ (b : Bool). drop (cond b 1 0) (d ∷ ds)) plus

module _ (low high : ℕ) where
  abbrev IsNumber : Text → Type 0
  IsNumber t = IsNumeral 10 (without_leading_plus t) × (low ≤ digits_value 10 (without_leading_plus t)) × (digits_value 10 (without_leading_plus t) ≤ high)

  number_read : (t : Text) → IsSignedIn (pos low) (pos high) t → IsNumber (without_minus t)
  number_read t passed = subst IsNumber (sym (without_minus-cond t)) (go (starts_with_minus t) refl)
    where
      go : (b : Bool) → starts_with_minus t ≡ b → IsNumber (cond (starts_with_minus t) (drop 1 t) t)
      go true minus =
          let least = rw minus at passed.2 in
          let most = rw minus at passed.3 in
          let numeral : IsNumeral 10 (drop 1 t) = rw minus at passed.0 in
          let large : low ≤ digits_value 10 (drop 1 t) = omega (arith, ints) in
          let small : digits_value 10 (drop 1 t) ≤ high = omega (arith, ints) in
          let same : IsNumber (drop 1 t) = rw (no_plus (drop 1 t) numeral) (numeral, large, small) in
          rw minus same
      go false minus =
          let least = rw minus at passed.2 in
          let most = rw minus at passed.3 in
          let numeral : IsNumeral 10 (without_leading_plus t) = rw minus at passed.0 in
          let large : low ≤ digits_value 10 (without_leading_plus t) = omega (arith, ints) in
          let small : digits_value 10 (without_leading_plus t) ≤ high = omega (arith, ints) in
          let same : IsNumber t = (numeral, large, small) in
          rw minus same

-- the text of an argument that passed its range is a number in it
pub has_number : (name : Text) (low high : ℕ) (m : ArgMatches) (t : Text) → IsSignedIn (pos low) (pos high) t → one_text (found_of m) name ≡ Some (without_minus t)
    → HasNumber name low high m
has_number name low high m t passed is =
    let number = number_read low high t passed in
    record {
      text = without_minus t;
      is_value = is;
      is_number = number.0;
      least = number.1;
      most = number.2;
    }
