-- How many lines of one length a text can have.
use Rattle.std.proofs.Common.{◌≡◌, ℕ, zero, suc, ◌+◌, ◌-◌, ◌*◌, ◌/◌, ◌<◌, ◌≤◌, ◌⊎◌, inl, inr, Bool, true, false, cond, eqb, List, [], ◌∷◌, ◌++◌, length, take, get_or, length-append, subst, arith}
use Rattle.std.specs.Prelude.{All}
use Rattle.std.proofs.Math.Nat.{suc-mul}
use Rattle.std.proofs.lemmas.Bool.{cases_lt}
use Rattle.std.proofs.lemmas.List.{length-take}
use Rattle.std.proofs.lemmas.Nat.{le-div}
use Rattle.pim_io.specs.Lines.{without_return}
use Rattle.pim_io.specs.declared.limits.TheConstants.{MAX_INPUT}
use Rattle.pim_lanes.specs.declared.limits.TheConstants.{LARGE_WORDS}
use Rattle.pim_vectors.specs.Lines.{last_line, lines, lines_after}
use Rattle.pim_batch.specs.ImplyTables.{imply_rows}

-- each of these lines has so many characters
abbrev AreOf : ℕ → List (List ℕ) → Type 0
AreOf inputs ls = All (λ l. length l ≡ inputs) ls

-- with a newline for each, they have no more bytes than these and one
abbrev FitIn : ℕ → List (List ℕ) → ℕ → Type 0
FitIn inputs ls bytes = length ls * (inputs + 1) ≤ bytes + 1

fit_more : (inputs : ℕ) (line : List ℕ) (ls : List (List ℕ)) (bytes : ℕ) → AreOf inputs (line ∷ ls) →
    (AreOf inputs ls → FitIn inputs ls bytes) → (all : ℕ) → length line + bytes + 1 ≤ all → FitIn inputs (line ∷ ls) all
fit_more inputs line ls bytes are rest all room =
    let here : length line ≡ inputs = are 0 [] (omega arith) in
    let there : FitIn inputs ls bytes = rest (λ k d small. are (suc k) d (omega arith)) in
    omega (arith, here, there, suc-mul (length ls) (inputs + 1))

length-without_return : (text : List ℕ) → length (without_return text) ≤ length text
length-without_return text =
    elim (eqb (get_or text (length text - 1) 0) 13) as (λ x. length (cond x (take (length text - 1) text) text) ≤ length text) [
      | true ↦ omega (arith, length-take (length text - 1) text)
      | false ↦ omega arith
    ]

fit_last : (inputs : ℕ) (text : List ℕ) → AreOf inputs (last_line text) → FitIn inputs (last_line text) (length text)
fit_last inputs [] are = omega arith
fit_last inputs (b ∷ text) are = let here : length (b ∷ text) ≡ inputs = are 0 [] (omega arith) in omega (arith, here)

fit_after : (inputs : ℕ) (text bytes : List ℕ) → AreOf inputs (lines_after text bytes) → FitIn inputs (lines_after text bytes) (length text + length bytes)
fit_after inputs text [] are = let none : length text + 0 ≡ length text = omega arith in rw none (fit_last inputs text are)
fit_after inputs text (b ∷ bytes) are =
    let A : List (List ℕ) = without_return text ∷ lines_after [] bytes in
    let B : List (List ℕ) = lines_after (text ++ b ∷ []) bytes in
    let all : ℕ = length text + length (b ∷ bytes) in
    let both : (x : Bool) → AreOf inputs (cond x A B) → FitIn inputs (cond x A B) all =
    λ (x : Bool).
    elim x as (λ x. AreOf inputs (cond x A B) → FitIn inputs (cond x A B) all) [
      | true ↦ λ are.
          let start : length {A = ℕ} [] + length bytes ≡ length bytes = omega arith in
          fit_more inputs (without_return text) (lines_after [] bytes) (length bytes) are
          (λ rest. subst (FitIn inputs (lines_after [] bytes)) start (fit_after inputs [] bytes rest)) all (omega (arith, length-without_return text))
      | false ↦ λ are.
          let same : length (text ++ b ∷ []) + length bytes ≡ all = omega (arith, length-append text (b ∷ [])) in
          subst (FitIn inputs B) same (fit_after inputs (text ++ b ∷ []) bytes are)
    ] in
    both (eqb b 10) are

-- they are fewer than a tile has rows, where that isn't the largest
fewer : (n d most : ℕ) → n * (d + 1) ≤ most + 1 → n < most / (d + 1) + 2
fewer zero d most fit = omega arith
fewer (suc n) d most fit = omega (arith, le-div n most (d + 1) (omega arith) (omega (arith, suc-mul n (d + 1))))

pub never_full : (inputs rows : ℕ) → rows ≡ imply_rows inputs → (text : List ℕ) → length text ≤ MAX_INPUT → AreOf inputs (lines text) →
    (rows ≡ 64 * LARGE_WORDS) ⊎ (length (lines text) < rows)
never_full inputs rows is text small are =
    let few : length (lines text) < MAX_INPUT / (inputs + 1) + 2 = fewer (length (lines text)) inputs MAX_INPUT (omega (arith, fit_after inputs [] text are)) in
    elim (cases_lt (MAX_INPUT / (inputs + 1) + 2) (64 * LARGE_WORDS)) [
      | inl short ↦ inr (omega (arith, few))
      | inr long ↦ inl (omega arith)
    ]
