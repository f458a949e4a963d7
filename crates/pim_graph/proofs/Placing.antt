-- Orders that hold each gate once, after its children.
use Rattle.std.proofs.Common.{◌≡◌, ◌≢◌, ℕ, ◌+◌, ◌<◌, ◌≤◌, zero, suc, Bool, true, false, cond, eqb, nat_lt, ◌||◌, List, [], ◌∷◌, ◌++◌, length, get_or, take, drop, count_by, All, refl, sym, ◌∙◌, ap, subst, arith, inl, inr}
use Rattle.std.specs.List.{IsDistinct, AllByRecursion, list_any}
use Rattle.std.proofs.lemmas.Bool.{cases_eq, false≢true}
use Rattle.std.proofs.lemmas.Bool.Decides.{nat_tests}
use Rattle.std.proofs.lemmas.List.{take_more, drop_more, length-take, get_or-take}
use Rattle.std.proofs.lemmas.List.Sums.{sum_by-cons, sum_by-append}
use Rattle.std.proofs.lemmas.Map.Steps.{length-le_from_distinct_below}
use Rattle.pim_graph.specs.Graphs.{GraphView, has, kids_of}
use Rattle.pim_graph.specs.Peaks.{IsPlaced}
use Rattle.pim_graph.specs.Readers.{occurrences, reads}
use Rattle.pim_graph.proofs.ReadLemmas.{has-occurrences, occurrences-push, one_at_most}

or_left : (a b : Bool) → (a || b) ≡ false → a ≡ false
or_left true b h = h
or_left false b h = refl

or_right : (a b : Bool) → (a || b) ≡ false → b ≡ false
or_right true b h = absurd (false≢true (sym h))
or_right false b h = h

-- no number stands before itself
abbrev pub Once : List ℕ → Type 0
Once xs = (p : ℕ) → p < length xs → has (take p xs) (get_or xs p 0) ≡ false

once_rest : (x : ℕ) (xs : List ℕ) → Once (x ∷ xs) → Once xs
once_rest x xs h = λ p l. or_right (eqb x (get_or xs p 0)) (has (take p xs) (get_or xs p 0)) (h (suc p) (omega arith))

apart : (x : ℕ) (xs : List ℕ) → ((p : ℕ) → p < length xs → eqb x (get_or xs p 0) ≡ false) → AllByRecursion (λ y. eqb x y ≡ false) xs
apart x [] h = tt
apart x (y ∷ ys) h = (h 0 (omega arith), apart x ys (λ p l. h (suc p) (omega arith)))

distinct : (xs : List ℕ) → Once xs → IsDistinct eqb xs
unfolding IsDistinct
distinct [] h = tt
distinct (x ∷ xs) h = (apart x xs (λ p l. or_left (eqb x (get_or xs p 0)) (has (take p xs) (get_or xs p 0)) (h (suc p) (omega arith))), distinct xs (once_rest x xs h))

eqb_apart : (a b : ℕ) → a ≢ b → eqb a b ≡ false
eqb_apart a b h = grind (arith, nat_tests)

any_below : (xs : List ℕ) (n q : ℕ) → All (λ x. x < n) xs → list_any (eqb q) xs ≡ true → q < n
any_below [] n q h e = absurd (false≢true e)
any_below (x ∷ xs) n q h e =
    elim (cases_eq q x) [
      | inl same ↦ let b : x < n = h 0 x (omega arith) in omega arith
      | inr ne ↦ any_below xs n q (λ k d l. h (suc k) d (omega arith)) (ap (λ (b : Bool). b || list_any (eqb q) xs) (sym (eqb_apart q x ne)) ∙ e)
    ]

-- an order has no more gates than the graph
pub length-placed : (g : GraphView) (order : List ℕ) → IsPlaced g order → length order ≤ length g.kids
length-placed g order placed =
    length-le_from_distinct_below order (length g.kids) (distinct order placed.once) (λ q e. any_below order (length g.kids) q placed.there e)

lt_not : (n : ℕ) → nat_lt 0 n ≡ false → n ≡ 0
lt_not n h = grind (arith, nat_tests)

lt_is : (n : ℕ) → nat_lt 0 n ≡ true → 0 < n
lt_is n h = grind (arith, nat_tests)

-- a gate stands at most once in the front of an order
pub once_at_most : (xs : List ℕ) → Once xs → (p c : ℕ) → p ≤ length xs → occurrences (take p xs) c ≤ 1
once_at_most xs once zero c h = omega arith
once_at_most xs once (suc p) c h =
    let x = get_or xs p 0 in
    let e : p + 1 ≡ suc p = omega arith in
    let cut : take (suc p) xs ≡ take p xs ++ x ∷ [] = ap (λ (n : ℕ). take n xs) (sym e) ∙ take_more xs p 0 (omega arith) in
    let sum : occurrences (take (suc p) xs) c ≡ occurrences (take p xs) c + cond (eqb x c) 1 0 = ap (λ (ys : List ℕ). occurrences ys c) cut ∙ occurrences-push (take p xs) x c in
    let before = once_at_most xs once p c (omega arith) in
    elim (cases_eq x c) [
      | inl same ↦
          let none : occurrences (take p xs) x ≡ 0 = lt_not (occurrences (take p xs) x) (sym (has-occurrences (take p xs) x) ∙ once p (omega arith)) in
          let same_count = ap (occurrences (take p xs)) same in
          let bit = one_at_most (eqb x c) in
          omega arith
      | inr ne ↦
          let bit = ap (λ (b : Bool). cond {A = ℕ} b 1 0) (eqb_apart x c ne) in
          omega arith
    ]

-- the children of a gate stand once before it
pub children_once : (g : GraphView) (order : List ℕ) (p : ℕ) (ks : List ℕ) → IsPlaced g order → p < length order → ks ≡ kids_of g (get_or order p 0) → All (λ c. occurrences (take p order) c ≡ 1) ks
children_once g order p ks placed h e =
    let P : List ℕ → Type 0 = λ xs. All (λ c. occurrences (take p order) c ≡ 1) xs in
    subst P (sym e) (λ k d l.
    let c = get_or (kids_of g (get_or order p 0)) k d in
    let there : has (take p order) c ≡ true = placed.after p h k d l in
    let some = lt_is (occurrences (take p order) c) (sym (has-occurrences (take p order) c) ∙ there) in
    let most = once_at_most order placed.once p c (omega arith) in
    omega arith)

pub count_below : (p q : ℕ → Bool) (n : ℕ) → ((y : ℕ) → y < n → p y ≡ q y) → (xs : List ℕ) → All (λ x. x < n) xs → count_by p xs ≡ count_by q xs
count_below p q n h [] all = refl
count_below p q n h (x ∷ xs) all =
    let a = sum_by-cons (λ v. cond {A = ℕ} (p v) 1 0) x xs in
    let b = sum_by-cons (λ v. cond {A = ℕ} (q v) 1 0) x xs in
    let d = ap (λ (v : Bool). cond {A = ℕ} v 1 0) (h x (all 0 x (omega arith))) in
    let e = count_below p q n h xs (λ k d l. all (suc k) d (omega arith)) in
    omega arith

pub count_push : (p : ℕ → Bool) (xs : List ℕ) (x : ℕ) → count_by p (xs ++ x ∷ []) ≡ count_by p xs + cond (p x) 1 0
count_push p xs x =
    let a = sum_by-append (λ v. cond {A = ℕ} (p v) 1 0) xs (x ∷ []) in
    let b = sum_by-cons (λ v. cond {A = ℕ} (p v) 1 0) x [] in
    omega arith

pub take-All : (xs : List ℕ) (n p : ℕ) → All (λ x. x < n) xs → All (λ x. x < n) (take p xs)
take-All xs n p h = λ k d l.
    let e = length-take p xs in
    let same : get_or (take p xs) k d ≡ get_or xs k d = get_or-take p xs k d (omega arith) in
    let b : get_or xs k d < n = h k d (omega arith) in
    omega arith

-- the reads that are left after one more gate
pub reads_left : (g : GraphView) (order : List ℕ) (p : ℕ) (ks left new : List ℕ) (n : ℕ) → p < length order → ks ≡ kids_of g (get_or order p 0) → ((x : ℕ) → x < n → get_or left x 0 ≡ reads g (drop p order) x) → ((x : ℕ) → x < n → get_or new x 0 + occurrences ks x ≡ get_or left x 0) → (x : ℕ) → x < n → get_or new x 0 ≡ reads g (drop (p + 1) order) x
reads_left g order p ks left new n h k before after x l =
    let a = before x l in
    let b = after x l in
    let d : reads g (drop p order) x ≡ occurrences (kids_of g (get_or order p 0)) x + reads g (drop (p + 1) order) x = ap (λ (ys : List ℕ). reads g ys x) (drop_more order p 0 h) in
    let e = ap (λ (xs : List ℕ). occurrences xs x) k in
    omega arith
