-- Lines of bytes that stand one behind another, and which of them are judged.
use Rattle.std.proofs.Common.{◌≡◌, ℕ, zero, suc, ◌+◌, ◌-◌, ◌<◌, ◌≤◌, Bool, true, false, cond, ltb, List, [], ◌∷◌, ◌++◌, length, take, refl, sym, ap, ◌∙◌, subst, arith, append_assoc, append-nil, length-append}
use Rattle.std.proofs.Math.Seq.{take-append-add}
use Rattle.pim_io.specs.Lines.{is_newline, without_return}
use Rattle.pim_vectors.specs.Lines.{last_line, line_len, lines, lines_after}
use Rattle.pim_top.specs.Judged.{last_piece, last_piece_after, settled}

-- ---- bytes behind bytes that end a line
pub piece-append : (text xs ys : List ℕ) → last_piece_after text xs ≡ [] → last_piece_after text (xs ++ ys) ≡ last_piece ys
piece-append text [] ys h = ap (λ (t : List ℕ). last_piece_after t ys) h
piece-append text (b ∷ xs) ys h =
    elim (is_newline b) as (λ v. cond v (last_piece_after [] xs) (last_piece_after (text ++ b ∷ []) xs) ≡ [] → cond v (last_piece_after [] (xs ++ ys)) (last_piece_after (text ++ b ∷ []) (xs ++ ys)) ≡ last_piece ys) [
      | true ↦ λ e. piece-append [] xs ys e
      | false ↦ λ e. piece-append (text ++ b ∷ []) xs ys e
    ] h

pub lines-append : (text xs ys : List ℕ) → last_piece_after text xs ≡ [] → lines_after text (xs ++ ys) ≡ lines_after text xs ++ lines ys
lines-append text [] ys h =
    subst (λ (t : List ℕ). lines_after t ys ≡ last_line t ++ lines ys) (sym h) refl
lines-append text (b ∷ xs) ys h =
    elim (is_newline b) as (λ v. cond v (last_piece_after [] xs) (last_piece_after (text ++ b ∷ []) xs) ≡ [] →
    cond v (without_return text ∷ lines_after [] (xs ++ ys)) (lines_after (text ++ b ∷ []) (xs ++ ys))
    ≡ cond v (without_return text ∷ lines_after [] xs) (lines_after (text ++ b ∷ []) xs) ++ lines ys) [
      | true ↦ λ e. ap (λ (ls : List (List ℕ)). without_return text ∷ ls) (lines-append [] xs ys e)
      | false ↦ λ e. lines-append (text ++ b ∷ []) xs ys e
    ] h

-- ---- bytes without a newline
pub piece-none : (text xs : List ℕ) → line_len xs ≡ length xs → last_piece_after text xs ≡ text ++ xs
piece-none text [] h = sym (append-nil text)
piece-none text (b ∷ xs) h =
    elim (is_newline b) as (λ v. cond v 0 (1 + line_len xs) ≡ suc (length xs) → cond v (last_piece_after [] xs) (last_piece_after (text ++ b ∷ []) xs) ≡ text ++ (b ∷ xs)) [
      | true ↦ λ e. absurd (let z : ⊥ = omega (arith, e) in z)
      | false ↦ λ e. let k : line_len xs ≡ length xs = omega (arith, e) in piece-none (text ++ b ∷ []) xs k ∙ append_assoc text (b ∷ []) xs
    ] h

pub lines-none : (text xs : List ℕ) → line_len xs ≡ length xs → lines_after text xs ≡ last_line (text ++ xs)
lines-none text [] h = ap last_line (sym (append-nil text))
lines-none text (b ∷ xs) h =
    elim (is_newline b) as (λ v. cond v 0 (1 + line_len xs) ≡ suc (length xs) → cond v (without_return text ∷ lines_after [] xs) (lines_after (text ++ b ∷ []) xs) ≡ last_line (text ++ (b ∷ xs))) [
      | true ↦ λ e. absurd (let z : ⊥ = omega (arith, e) in z)
      | false ↦ λ e. let k : line_len xs ≡ length xs = omega (arith, e) in lines-none (text ++ b ∷ []) xs k ∙ ap last_line (append_assoc text (b ∷ []) xs)
    ] h

pub line_len-le : (xs : List ℕ) → line_len xs ≤ length xs
line_len-le [] = omega arith
line_len-le (b ∷ xs) =
    let k = line_len-le xs in
    elim (is_newline b) as (λ v. cond v 0 (1 + line_len xs) ≤ suc (length xs)) [ true ↦ omega arith | false ↦ omega (arith, k) ]

pub piece-le : (text xs : List ℕ) → length (last_piece_after text xs) ≤ length text + length xs
piece-le text [] = omega arith
piece-le text (b ∷ xs) =
    let j = piece-le [] xs in
    let k = piece-le (text ++ b ∷ []) xs in
    elim (is_newline b) as (λ v. length (cond v (last_piece_after [] xs) (last_piece_after (text ++ b ∷ []) xs)) ≤ length text + suc (length xs)) [
      | true ↦ omega (arith, j)
      | false ↦ omega (arith, k, length-append text (b ∷ []))
    ]

-- ---- the first line of bytes that have a newline
-- the text of a first line, and that its newline ends a line
pub record IsFirst (text xs : List ℕ) : Type 0 where
  pub edge : last_piece_after text (take (line_len xs + 1) xs) ≡ []
  pub line : lines_after text (take (line_len xs + 1) xs) ≡ without_return (text ++ take (line_len xs) xs) ∷ []

-- the same where the newline stands behind n bytes
abbrev EndsAt : List ℕ → List ℕ → ℕ → Type 0
EndsAt text xs n = (last_piece_after text (take (n + 1) xs) ≡ []) × (lines_after text (take (n + 1) xs) ≡ without_return (text ++ take n xs) ∷ [])

first-by : (text : List ℕ) (b : ℕ) (xs : List ℕ) → (line_len xs < length xs → IsFirst (text ++ b ∷ []) xs) → (v : Bool) → is_newline b ≡ v → cond (is_newline b) 0 (1 + line_len xs) < suc (length xs) → IsFirst text (b ∷ xs)
first-by text b xs rest true e k =
    let n : cond (is_newline b) 0 (1 + line_len xs) ≡ 0 = ap (λ (v : Bool). cond v 0 (1 + line_len xs)) e in
    let f : EndsAt text (b ∷ xs) 0 = (ap (λ (v : Bool). cond v [] (text ++ b ∷ [])) e, ap (λ (v : Bool). cond v (without_return text ∷ []) (last_line (text ++ b ∷ []))) e ∙ ap (λ (t : List ℕ). without_return t ∷ []) (sym (append-nil text))) in
    let g : EndsAt text (b ∷ xs) (line_len (b ∷ xs)) = subst (EndsAt text (b ∷ xs)) (sym n) f in
    record { edge = g.0; line = g.1 }
first-by text b xs rest false e k =
    let n : cond (is_newline b) 0 (1 + line_len xs) ≡ suc (line_len xs) = ap (λ (v : Bool). cond v 0 (1 + line_len xs)) e ∙ omega arith in
    let small : line_len xs < length xs = omega (arith, n, k) in
    let w = rest small in
    let j = line_len xs in
    let next : take (suc j + 1) (b ∷ xs) ≡ b ∷ take (j + 1) xs = ap (λ (i : ℕ). take i (b ∷ xs)) (let s : suc j + 1 ≡ suc (j + 1) = omega arith in s) in
    let f : EndsAt text (b ∷ xs) (suc j) = (
      ap (last_piece_after text) next ∙ ap (λ (v : Bool). cond v (last_piece_after [] (take (j + 1) xs)) (last_piece_after (text ++ b ∷ []) (take (j + 1) xs))) e ∙ w.edge,
      ap (lines_after text) next ∙ ap (λ (v : Bool). cond v (without_return text ∷ lines_after [] (take (j + 1) xs)) (lines_after (text ++ b ∷ []) (take (j + 1) xs))) e ∙ w.line
          ∙ ap (λ (t : List ℕ). without_return t ∷ []) (append_assoc text (b ∷ []) (take j xs)),
    ) in
    let g : EndsAt text (b ∷ xs) (line_len (b ∷ xs)) = subst (EndsAt text (b ∷ xs)) (sym n) f in
    record { edge = g.0; line = g.1 }

pub first-line : (text xs : List ℕ) → line_len xs < length xs → IsFirst text xs
first-line text [] h = absurd (omega arith)
first-line text (b ∷ xs) h = first-by text b xs (λ small. first-line (text ++ b ∷ []) xs small) (is_newline b) refl h

-- the first newline of a front is that of the whole
pub line_len-take : (n : ℕ) (xs : List ℕ) → line_len (take n xs) < length (take n xs) → line_len (take n xs) ≡ line_len xs
line_len-take zero xs h = absurd (omega arith)
line_len-take (suc n) [] h = refl
line_len-take (suc n) (b ∷ xs) h =
    elim (is_newline b) as (λ v. cond v 0 (1 + line_len (take n xs)) < suc (length (take n xs)) → cond v 0 (1 + line_len (take n xs)) ≡ cond v 0 (1 + line_len xs)) [
      | true ↦ λ e. refl
      | false ↦ λ e. let k = line_len-take n xs (omega (arith, e)) in ap (λ (j : ℕ). 1 + j) k
    ] h

-- ---- what is settled behind bytes that end a line
pub settled-append : (width : ℕ) (xs ys : List ℕ) → last_piece xs ≡ [] → settled width (xs ++ ys) ≡ xs ++ settled width ys
settled-append width xs ys h =
    let p = last_piece ys in
    let same : last_piece (xs ++ ys) ≡ p = piece-append [] xs ys h in
    let small : length p ≤ length ys = omega (arith, piece-le [] ys) in
    let n : length (xs ++ ys) - length p ≡ length xs + (length ys - length p) = omega (arith, length-append xs ys, small) in
    let cut : take (length (xs ++ ys) - length p) (xs ++ ys) ≡ xs ++ take (length ys - length p) ys =
    ap (λ (i : ℕ). take i (xs ++ ys)) n ∙ take-append-add xs ys (length ys - length p) in
    ap (λ (q : List ℕ). cond (ltb (length q) (width + 2)) (take (length (xs ++ ys) - length q) (xs ++ ys)) (xs ++ ys)) same
    ∙ (elim (ltb (length p) (width + 2)) as (λ v. cond v (take (length (xs ++ ys) - length p) (xs ++ ys)) (xs ++ ys) ≡ xs ++ cond v (take (length ys - length p) ys) ys) [
      | true ↦ cut
      | false ↦ refl
    ])
