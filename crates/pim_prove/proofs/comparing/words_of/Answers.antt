use Rattle.std.proofs.Common.{◌≡◌, ◌≤◌, ◌<◌, ◌*◌, ◌^◌, ◌-◌, ◌%◌, ap, ◌∙◌, arith}
use Rattle.std.proofs.Math.Nat.{pow-le-pow_right, mod-eq_of_lt}
use Rattle.std.proofs.lemmas.Nat.{pow-add}
use Rattle.pim_prove.proofs.comparing.words_of.Goals as goal

pub returns-then-inputs-lt6-clause-enough : goal.returns-then-inputs-lt6-clause-enough
returns-then-inputs-lt6-clause-enough c =
    let low : c.args.inputs ≤ 6 = omega arith in
    let most : 2 ^ c.args.inputs ≤ 2 ^ 6 = pow-le-pow_right (omega arith) low in
    omega (arith, most)

pub returns-else-inputs-lt6-clause-enough : goal.returns-else-inputs-lt6-clause-enough
returns-else-inputs-lt6-clause-enough c =
    let n = c.args.inputs in
    let low : n - 6 ≤ 14 = omega arith in
    let most : 2 ^ (n - 6) ≤ 2 ^ 14 = pow-le-pow_right (omega arith) low in
    let fits : 1 * 2 ^ (n - 6) < 4294967296 = omega (arith, most) in
    let same : 1 * 2 ^ (n - 6) % 4294967296 ≡ 1 * 2 ^ (n - 6) = mod-eq_of_lt fits in
    let split : 2 ^ n ≡ 64 * 2 ^ (n - 6) = ap (λ k. 2 ^ k) (omega arith) ∙ pow-add 2 6 (n - 6) in
    omega (arith, same, split)

pub returns-else-inputs-lt6-clause-few : goal.returns-else-inputs-lt6-clause-few
returns-else-inputs-lt6-clause-few c =
    let n = c.args.inputs in
    let low : n - 6 ≤ 14 = omega arith in
    let most : 2 ^ (n - 6) ≤ 2 ^ 14 = pow-le-pow_right (omega arith) low in
    let fits : 1 * 2 ^ (n - 6) < 4294967296 = omega (arith, most) in
    let same : 1 * 2 ^ (n - 6) % 4294967296 ≡ 1 * 2 ^ (n - 6) = mod-eq_of_lt fits in
    omega (arith, same, most)
