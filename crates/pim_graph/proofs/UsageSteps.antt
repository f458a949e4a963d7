-- The usages of one more gate.
use Rattle.std.proofs.Common.{◌≡◌, ℕ, ◌+◌, ◌*◌, ◌<◌, ◌≤◌, zero, suc, Bool, true, false, cond, ltb, List, [], ◌∷◌, ◌++◌, length, get_or, drop, fold, map, slice_index, All, sym, ◌∙◌, ap, subst, arith}
use Rattle.std.proofs.lemmas.List.{drop_more}
use Rattle.std.proofs.lemmas.List.Elements.{All-push}
use Rattle.pim_graph.specs.Usages.{insert_falling, falling, usage_of, usages_from}

-- the usages go on after one more gate
pub usages_step : (kids : List (List ℕ)) (us u1 u2 more : List ℕ) (gate u : ℕ) (ks fs f2 whole : List ℕ) → gate < length kids → ks ≡ get_or kids gate [] → u1 ≡ us → u2 ≡ us → f2 ≡ fs → fs ≡ falling (slice_index u1) ks → u ≡ usage_of (map (slice_index u2) f2) → more ≡ us ++ u ∷ [] → usages_from us (drop gate kids) ≡ whole → usages_from more (drop (gate + 1) kids) ≡ whole
usages_step kids us u1 u2 more gate u ks fs f2 whole h k e1 e2 e3 f is pushed rest =
    let order : f2 ≡ falling (slice_index us) (get_or kids gate []) = e3 ∙ (f ∙ (ap (λ (xs : List ℕ). falling (slice_index xs) ks) e1 ∙ ap (falling (slice_index us)) k)) in
    let value : u ≡ usage_of (map (slice_index us) (falling (slice_index us) (get_or kids gate []))) = is ∙ (ap (λ (xs : List ℕ). usage_of (map (slice_index xs) f2)) e2 ∙ ap (λ (xs : List ℕ). usage_of (map (slice_index us) xs)) order) in
    ap (λ (xs : List ℕ). usages_from xs (drop (gate + 1) kids)) (pushed ∙ ap (λ (n : ℕ). us ++ n ∷ []) value) ∙ (ap (λ (ks : List (List ℕ)). usages_from us ks) (sym (drop_more kids gate [] h)) ∙ rest)

-- the usages stay small
pub usages_fit : (us more : List ℕ) (u m n : ℕ) → All (λ x. x ≤ m * 4 + 1) us → u ≤ (m + 1) * 4 + 1 → n ≡ m + 1 → more ≡ us ++ u ∷ [] → All (λ x. x ≤ n * 4 + 1) more
usages_fit us more u m n h k e pushed =
    let P : List ℕ → Type 0 = λ xs. All (λ x. x ≤ n * 4 + 1) xs in
    let old : All (λ x. x ≤ n * 4 + 1) us = λ j d l. let b : get_or us j d ≤ m * 4 + 1 = h j d l in omega arith in
    let new : u ≤ n * 4 + 1 = omega arith in
    subst P (sym pushed) (All-push (λ x. x ≤ n * 4 + 1) us u old new)

All-front : (P : ℕ → Type 0) (x : ℕ) (xs : List ℕ) → P x → All P xs → All P (x ∷ xs)
All-front P x xs p h zero d l = p
All-front P x xs p h (suc k) d l = h k d (omega arith)

-- a list by falling key has the same elements
All-insert_falling : (P : ℕ → Type 0) (key : ℕ → ℕ) (xs : List ℕ) (x : ℕ) → All P xs → P x → All P (insert_falling key xs x)
All-insert_falling P key [] x h p = All-push P [] x h p
All-insert_falling P key (y ∷ ys) x h p =
    elim (ltb (key y) (key x)) as (λ (b : Bool). All P (cond b (x ∷ y ∷ ys) (y ∷ insert_falling key ys x))) [
      | true ↦ All-front P x (y ∷ ys) p h
      | false ↦ All-front P y (insert_falling key ys x) (h 0 y (omega arith)) (All-insert_falling P key ys x (λ k d l. h (suc k) d (omega arith)) p)
    ]

All-fold_falling : (P : ℕ → Type 0) (key : ℕ → ℕ) (done xs : List ℕ) → All P done → All P xs → All P (fold (insert_falling key) done xs)
All-fold_falling P key done [] h k = h
All-fold_falling P key done (x ∷ xs) h k =
    All-fold_falling P key (insert_falling key done x) xs (All-insert_falling P key done x h (k 0 x (omega arith))) (λ j d l. k (suc j) d (omega arith))

pub All-falling : (P : ℕ → Type 0) (key : ℕ → ℕ) (xs : List ℕ) → All P xs → All P (falling key xs)
All-falling P key xs h = All-fold_falling P key [] xs (λ k d l. absurd (omega arith)) h
