-- Lists in which no number comes twice, and the places of numbers.
use Rattle.std.proofs.Common.{◌≡◌, ◌≢◌, ℕ, zero, suc, ◌+◌, ◌<◌, ◌≤◌, ◌++◌, ◌||◌, Bool, true, false, cond, eqb, List, [], ◌∷◌, Option, Some, None, length, get_or, take, refl, ap, sym, ◌∙◌, ⊎_elim, arith}
use Rattle.std.specs.Prelude.{is_some, option_map, find, AllPairs}
use Rattle.std.proofs.lemmas.List.{append_assoc, append-nil, get_or-take, get_or_default, length-take-le, length-append, get_or-append-add}
use Rattle.std.proofs.lemmas.Bool.Decides.{eqb_tells}
use Rattle.pim_net.specs.Drivers.{place}
use Rattle.pim_net.specs.Faults.{first_repeat}
use Rattle.pim_net.proofs.Tables.{place-append}

none_of : (p : Option ℕ) → is_some p ≡ false → p ≡ None
none_of None h = refl
none_of (Some k) h = cc

or_false : (a b : Bool) → (a || b) ≡ false → (a ≡ false) × (b ≡ false)
or_false true b h = cc
or_false false b h = (refl, h)

first_parts : (before xs : List ℕ) (x : ℕ) → first_repeat before (x ∷ xs) ≡ None → (is_some (place x before) ≡ false) × (first_repeat (before ++ x ∷ []) xs ≡ None)
first_parts before xs x h = by (is_some (place x before)) refl h
  where
    by : (b : Bool) → is_some (place x before) ≡ b → cond b (Some x) (first_repeat (before ++ x ∷ []) xs) ≡ None → (is_some (place x before) ≡ false) × (first_repeat (before ++ x ∷ []) xs ≡ None)
    by true is h = cc
    by false is h = (is, h)

none_parts : (p : ℕ → Bool) (x : ℕ) (xs : List ℕ) → find p (x ∷ xs) ≡ None → (p x ≡ false) × (find p xs ≡ None)
none_parts p x xs h = by (p x) refl h
  where
    by : (b : Bool) → p x ≡ b → cond b (Some x) (find p xs) ≡ None → (p x ≡ false) × (find p xs ≡ None)
    by true is h = cc
    by false is h = (is, h)

-- where nothing repeats, no number stands before its place
pub fresh_at : (before xs : List ℕ) (j : ℕ) → first_repeat before xs ≡ None → j < length xs → is_some (place (get_or xs j 0) (before ++ take j xs)) ≡ false
fresh_at before [] j h within = absurd (omega arith)
fresh_at before (x ∷ xs) zero h within = ap (λ l. is_some (place x l)) (append-nil before) ∙ (first_parts before xs x h).0
fresh_at before (x ∷ xs) (suc j) h within =
    ap (λ l. is_some (place (get_or xs j 0) l)) (sym (append_assoc before (x ∷ []) (take j xs))) ∙ fresh_at (before ++ x ∷ []) xs j (first_parts before xs x h).1 (omega arith)

eqb_same : (a : ℕ) → eqb a a ≡ true
eqb_same a = ⊎_elim (λ (h : (eqb a a ≡ true) × (a ≡ a)). h.0) (λ (h : (eqb a a ≡ false) × (a ≢ a)). absurd (h.1 refl)) (eqb_tells a a)

-- a number of the list has a place
pub place_has : (xs : List ℕ) (i : ℕ) → i < length xs → is_some (place (get_or xs i 0) xs) ≡ true
place_has [] i within = absurd (omega arith)
place_has (x ∷ xs) zero within = ap (λ b. is_some (cond b (Some 0) (option_map suc (place x xs)))) (eqb_same x)
place_has (x ∷ xs) (suc i) within = some_if (eqb x (get_or xs i 0)) (place (get_or xs i 0) xs) (place_has xs i (omega arith))
  where
    some_if : (b : Bool) (p : Option ℕ) → is_some p ≡ true → is_some (cond b (Some 0) (option_map suc p)) ≡ true
    some_if true p h = refl
    some_if false (Some k) h = refl
    some_if false None h = cc

map_suc : (p : Option ℕ) (k : ℕ) → option_map suc p ≡ Some k → (j : ℕ) × (p ≡ Some j) × (k ≡ suc j)
map_suc None k h = cc
map_suc (Some j) k h = (j, refl, (let e : suc j ≡ k = cc in sym e))

-- the number stands at its place
pub place_is : (s : ℕ) (xs : List ℕ) (k : ℕ) → place s xs ≡ Some k → (k < length xs) × (get_or xs k 0 ≡ s)
place_is s [] k h = cc
place_is s (x ∷ xs) k h =
    ⊎_elim
    (λ (e : (eqb x s ≡ true) × (x ≡ s)).
    let at : Some 0 ≡ Some k = sym (ap (λ b. cond b (Some 0) (option_map suc (place s xs))) e.0) ∙ h in
    let zeroth : 0 ≡ k = cc in
    (omega (arith, zeroth), ap (λ n. get_or (x ∷ xs) n 0) (sym zeroth) ∙ e.1))
    (λ (e : (eqb x s ≡ false) × (x ≢ s)).
    let w = map_suc (place s xs) k (sym (ap (λ b. cond b (Some 0) (option_map suc (place s xs))) e.0) ∙ h) in
    let r = place_is s xs w.0 w.1 in
    (omega (arith, w.2, r.0), ap (λ n. get_or (x ∷ xs) n 0) w.2 ∙ r.1))
    (eqb_tells x s)

-- a number that doesn't stand before k, and stands there, has its first place there
pub place_first : (s : ℕ) (xs : List ℕ) (k : ℕ) → k < length xs → place s (take k xs) ≡ None → get_or xs k 0 ≡ s → place s xs ≡ Some k
place_first s [] k within none at = absurd (omega arith)
place_first s (x ∷ xs) zero within none at = ap (λ b. cond b (Some 0) (option_map suc (place s xs))) (ap (λ n. eqb n s) at ∙ eqb_same s)
place_first s (x ∷ xs) (suc k) within none at =
    ⊎_elim
    (λ (e : (eqb x s ≡ true) × (x ≡ s)).
    let no : Some 0 ≡ None = sym (ap (λ b. cond b (Some 0) (option_map suc (place s (take k xs)))) e.0) ∙ none in absurd (let z : ⊥ = cc in z))
    (λ (e : (eqb x s ≡ false) × (x ≢ s)).
    let later = none_map (place s (take k xs)) (sym (ap (λ b. cond b (Some 0) (option_map suc (place s (take k xs)))) e.0) ∙ none) in
    ap (λ b. cond b (Some 0) (option_map suc (place s xs))) e.0 ∙ ap (option_map suc) (place_first s xs k (omega arith) later at))
    (eqb_tells x s)
  where
    none_map : (p : Option ℕ) → option_map suc p ≡ None → p ≡ None
    none_map None h = refl
    none_map (Some j) h = cc

-- the places of a signal of the second list, where nothing repeats in both
pub places : (inputs signals : List ℕ) (k : ℕ) → first_repeat [] (inputs ++ signals) ≡ None → k < length signals → (place (get_or signals k 0) inputs ≡ None) × (place (get_or signals k 0) signals ≡ Some k)
places inputs signals k h within =
    let s = get_or signals k 0 in
    let here : get_or (inputs ++ signals) (length inputs + k) 0 ≡ s = get_or-append-add inputs signals k 0 in
    let fresh = fresh_at [] (inputs ++ signals) (length inputs + k) h (omega (arith, length-append inputs signals)) in
    let before : take (length inputs + k) (inputs ++ signals) ≡ inputs ++ take k signals = take_past inputs signals k in
    let none : (is_some (place s inputs) || is_some (place s (take k signals))) ≡ false =
    sym (place-append s inputs (take k signals)) ∙ ap (λ l. is_some (place s l)) (sym before) ∙ ap (λ n. is_some (place n (take (length inputs + k) (inputs ++ signals)))) (sym here) ∙ fresh in
    let w = or_false (is_some (place s inputs)) (is_some (place s (take k signals))) none in
    (none_of (place s inputs) w.0, place_first s signals k within (none_of (place s (take k signals)) w.1) refl)
  where
    take_past : (xs ys : List ℕ) (k : ℕ) → take (length xs + k) (xs ++ ys) ≡ xs ++ take k ys
    take_past [] ys k = ap (λ n. take n ys) (let e : 0 + k ≡ k = omega arith in e)
    take_past (x ∷ xs) ys k = ap (λ n. take n (x ∷ (xs ++ ys))) (let e : suc (length xs) + k ≡ suc (length xs + k) = omega arith in e) ∙ ap (λ l. x ∷ l) (take_past xs ys k)

-- where nothing repeats, all are different
pub all_apart : (xs : List ℕ) → first_repeat [] xs ≡ None → AllPairs ◌≢◌ xs
all_apart xs h i j d lt within =
    λ (same : get_or xs i d ≡ get_or xs j d).
    let di = get_or_default xs i d 0 (omega arith) in
    let dj = get_or_default xs j d 0 within in
    let fresh = fresh_at [] xs j h within in
    let at : get_or (take j xs) i 0 ≡ get_or xs j 0 = get_or-take j xs i 0 lt ∙ sym di ∙ same ∙ dj in
    let has = place_has (take j xs) i (omega (arith, length-take-le j xs (let le : j ≤ length xs = omega arith in le))) in
    let both : true ≡ false = sym has ∙ ap (λ n. is_some (place n (take j xs))) at ∙ fresh in
    let no : ⊥ = cc in no

-- where nothing is found, nothing passes
pub find_none : (p : ℕ → Bool) (xs : List ℕ) → find p xs ≡ None → (j : ℕ) → j < length xs → p (get_or xs j 0) ≡ false
find_none p [] h j within = absurd (omega arith)
find_none p (x ∷ xs) h zero within = (none_parts p x xs h).0
find_none p (x ∷ xs) h (suc j) within = find_none p xs (none_parts p x xs h).1 j (omega arith)
