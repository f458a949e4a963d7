use Rattle.std.proofs.Common.{◌≡◌, ℕ, suc, ◌+◌, ◌-◌, ◌^◌, ◌<◌, ◌++◌, List, length, sym, ap, ◌∙◌, refl, arith, vec_len, length-append, length-set}
use Rattle.pim_io.specs.declared.codes.Code.TheVariants.{Got}
use Rattle.pim_io.specs.Codes.{code_within, code_of, code_at}
use Rattle.pim_io.proofs.CodeLemmas.{code_at-code_of, take-more, take-last, length-code_of-le}
use Rattle.pim_io.proofs.codes.put_code.Goals as goal

pub loop-rest-init : goal.loop-rest-init
unfolding code_of
loop-rest-init c =
    (omega arith, refl, λ e. absurd (omega arith), λ e. absurd (omega arith), λ e. absurd (omega arith), λ e. absurd (omega arith), λ n e. let four : n ≡ 4 = omega arith in ap (λ (m : ℕ). code_within m c.args.value) four)

pub loop-rest-preserved : goal.loop-rest-preserved
loop-rest-preserved c =
    let l = c.loop-rest in
    let keeps = l.invariant in
    let full : l.len ≡ 4 → ⊥ = λ e. let small : l.rest < 2 ^ 4 = keeps.5 e in omega arith in
    let room : l.len < 4 = omega (arith, full) in
    let within : l.len < length l.bytes = omega arith in
    (omega arith, length-set l.bytes l.len _ ∙ keeps.1, λ e. omega arith, λ e. let small : l.rest < 2 ^ 25 = keeps.2 (omega arith) in omega arith, λ e. let small : l.rest < 2 ^ 18 = keeps.3 (omega arith) in omega arith, λ e. let small : l.rest < 2 ^ 11 = keeps.4 (omega arith) in omega arith, λ n e. take-more l.bytes (code_of c.args.value) l.len n l.rest within c.loop-rest-test.true (keeps.6 (suc n) (omega arith)))

appended : (c : goal.In_ok-extend_from_slice) → c.extend_from_slice.new.self.items ≡ c.args.out.now.items ++ code_of c.args.value
appended c =
    let l = c.loop-rest in
    let keeps = l.invariant in
    let within : l.len < length l.bytes = omega arith in
    let made = c.in_ok-extend_from_slice.ensures in
    made.items ∙ ap (λ (code : List ℕ). c.args.out.now.items ++ code) (take-last l.bytes (code_of c.args.value) l.len (4 - l.len) l.rest within c.loop-rest-test.false (keeps.6 (4 - l.len) (omega arith)))

pub returns-clause-appended : goal.returns-clause-appended
returns-clause-appended c = appended c

-- how many bytes the vector has then
count : (c : goal.In_ok-extend_from_slice) → vec_len c.extend_from_slice.new.self ≡ vec_len c.args.out.now + length (code_of c.args.value)
count c = omega (arith, ap length (appended c), length-append c.args.out.now.items (code_of c.args.value))

pub returns-clause-shortest : goal.returns-clause-shortest
returns-clause-shortest c = λ bytes next e.
    omega (arith, count c, length-code_of-le bytes c.args.value next e)

pub returns-clause-reads_back : goal.returns-clause-reads_back
returns-clause-reads_back c = λ rest.
    let out = c.args.out.now in
    let new = c.extend_from_slice.new.self in
    let value = c.args.value in
    let before : vec_len out ≡ length out.items = omega arith in
    let now : vec_len new ≡ length out.items + length (code_of value) = omega (arith, count c) in
    ap (λ (items : List ℕ). code_at (items ++ rest) (vec_len out)) (appended c) ∙ ap (λ (n : ℕ). code_at (out.items ++ code_of value ++ rest) n) before ∙ code_at-code_of out.items rest value c.ranges.value.fits ∙ ap (Got value) (sym now)
