use Rattle.std.proofs.Common.{◌≡◌, ℕ, ◌+◌, ◌*◌, ◌%◌, ◌<◌, ◌^◌, true, false, length, take, get_or, nat_lt, sym, ap, ◌∙◌, refl, arith, below_more}
use Rattle.std.proofs.lemmas.Bool.Decides.{nat_tests}
use Rattle.pim_io.specs.Codes.{code_value, is_high}
use Rattle.pim_io.proofs.CodeLemmas.{first_code-got, first_code-short, first_code-long, code_value-take, digit-more, power-more}
use Rattle.pim_io.proofs.codes.first_code.Goals as goal

pub returns-then-k-bytes-clause-value : goal.returns-then-k-bytes-clause-value
returns-then-k-bytes-clause-value c =
    let bytes = c.args.bytes.now in
    let before = c.loop-k.invariant.4 in
    sym (first_code-short bytes c.args.at (omega arith) (λ j h. before j (omega arith)))

pub returns-in_default-clause-value : goal.returns-in_default-clause-value
returns-in_default-clause-value c =
    let bytes = c.args.bytes.now in
    let k = c.loop-k.k in
    let keeps = c.loop-k.invariant in
    let within : k < length bytes = omega (arith, keeps.3) in
    let low : is_high (get_or bytes k 0) ≡ false = grind (arith, nat_tests) in
    let got = first_code-got bytes c.args.at k (omega arith) within keeps.4 low in
    let digit : c.loop-k.value + (get_or bytes k 0 % 128) * c.loop-k.scale ≡ c.loop-k.value + c.from.result * c.loop-k.scale = ap (λ (n : ℕ). c.loop-k.value + n * c.loop-k.scale) (sym c.from.ensures) in
    let value = code_value-take bytes k c.loop-k.value c.loop-k.scale within keeps.2 keeps.0 ∙ digit in
    let large : nat_lt (code_value (take (k + 1) bytes)) (2 ^ 32) ≡ false = grind (arith, nat_tests, c.in_default.ensures) in
    sym (got ∙ rw large refl)

pub returns-then-b-lt128-clause-value : goal.returns-then-b-lt128-clause-value
returns-then-b-lt128-clause-value c =
    let bytes = c.args.bytes.now in
    let k = c.loop-k.k in
    let keeps = c.loop-k.invariant in
    let within : k < length bytes = omega (arith, keeps.3) in
    let low : is_high (get_or bytes k 0) ≡ false = grind (arith, nat_tests) in
    let got = first_code-got bytes c.args.at k (omega arith) within keeps.4 low in
    let digit : c.loop-k.value + (get_or bytes k 0 % 128) * c.loop-k.scale ≡ c.loop-k.value + c.from.result * c.loop-k.scale = ap (λ (n : ℕ). c.loop-k.value + n * c.loop-k.scale) (sym c.from.ensures) in
    let is = c.in-Ok.ensures in
    let value : code_value (take (k + 1) bytes) ≡ c.in-Ok.value = code_value-take bytes k c.loop-k.value c.loop-k.scale within keeps.2 keeps.0 ∙ digit ∙ sym is.1 in
    let small : nat_lt c.in-Ok.value (2 ^ 32) ≡ true = grind (arith, nat_tests) in
    sym (got ∙ rw (value, small) refl)

pub loop-k-preserved : goal.loop-k-preserved
loop-k-preserved c =
    let bytes = c.args.bytes.now in
    let k = c.loop-k.k in
    let keeps = c.loop-k.invariant in
    let within : k < length bytes = omega (arith, keeps.3) in
    let digit : c.from.result < 128 = omega arith in
    let high : is_high (get_or bytes k 0) ≡ true = grind (arith, nat_tests) in
    let value = code_value-take bytes k c.loop-k.value c.loop-k.scale within keeps.2 keeps.0 in
    let digits : c.loop-k.value + (get_or bytes k 0 % 128) * c.loop-k.scale ≡ c.loop-k.value + c.from.result * c.loop-k.scale = ap (λ (n : ℕ). c.loop-k.value + n * c.loop-k.scale) (sym c.from.ensures) in
    (power-more c.loop-k.scale k keeps.0, digit-more c.loop-k.value c.loop-k.scale c.from.result keeps.1 digit, sym (value ∙ digits), omega arith, below_more _ _ keeps.4 high)

pub returns-clause-value : goal.returns-clause-value
returns-clause-value c =
    let before = c.loop-k.invariant.4 in
    sym (first_code-long c.args.bytes.now c.args.at (omega arith) (λ j h. before j (omega arith)))
