-- Counting marked numbers.
use Rattle.std.proofs.Common.{◌≡◌, ℕ, zero, suc, ◌+◌, ◌<◌, ◌≤◌, Bool, true, false, cond, eqb, ltb, not, ◌&&◌, List, [], ◌∷◌, length, refl, sym, ◌∙◌, ap, arith, inl, inr}
use Rattle.std.specs.List.{count_by, range_with_len}
use Rattle.std.proofs.lemmas.Bool.Decides.{eqb_tells}
use Rattle.std.proofs.lemmas.List.Sums.{sum_by-cons}
use Rattle.pim_mig.specs.Needs.{times}
use Rattle.pim_rewrite.proofs.Frame.{bool_cases, is_positive, one_if, times_self, true_not_false}

-- how many of the n numbers from a on are marked
abbrev pub counted : (ℕ → Bool) → ℕ → ℕ → ℕ
counted p a zero = 0
counted p a (suc n) = cond (p a) 1 0 + counted p (a + 1) n

pub counted_is : (p : ℕ → Bool) (a n : ℕ) → count_by p (range_with_len a n) ≡ counted p a n
counted_is p a zero = refl
counted_is p a (suc n) = sum_by-cons (λ x. cond (p x) 1 0) a (range_with_len (a + 1) n) ∙ ap (λ (k : ℕ). cond (p a) 1 0 + k) (counted_is p (a + 1) n)

-- marks that are the same count the same
pub counted_same : (p q : ℕ → Bool) (a n : ℕ) → ((i : ℕ) → p i ≡ q i) → counted p a n ≡ counted q a n
counted_same p q a zero same = refl
counted_same p q a (suc n) same =
    let e = counted_same p q (a + 1) n same in
    let f = ap one_if (same a) in
    omega arith

one_at_most : (b : Bool) → cond b 1 0 ≤ 1
one_at_most true = omega arith
one_at_most false = omega arith

pub counted_few : (p : ℕ → Bool) (a n : ℕ) → counted p a n ≤ n
counted_few p a zero = omega arith
counted_few p a (suc n) = omega (arith, counted_few p (a + 1) n, one_at_most (p a))

-- the numbers in two parts
pub counted_split : (p : ℕ → Bool) (a m n : ℕ) → counted p a (m + n) ≡ counted p a m + counted p (a + m) n
counted_split p a zero n =
    ap (counted p a) (let e : 0 + n ≡ n = omega arith in e) ∙ ap (λ (b : ℕ). counted p b n) (let e : a ≡ a + 0 = omega arith in e)
    ∙ (let v = counted p (a + 0) n in let e : v ≡ 0 + v = omega arith in e)
counted_split p a (suc m) n =
    let e = counted_split p (a + 1) m n in
    let f = ap (counted p a) (let z : suc m + n ≡ suc (m + n) = omega arith in z) in
    let g = ap (λ (b : ℕ). counted p b n) (let z : a + 1 + m ≡ a + suc m = omega arith in z) in
    omega arith

-- without one number
abbrev pub without : (ℕ → Bool) → ℕ → ℕ → Bool
without p t i = p i && not (eqb t i)

same_where_other : (b c : Bool) → c ≡ false → (b && not c) ≡ b
same_where_other true false h = refl
same_where_other false c h = refl
same_where_other true true h = absurd (true_not_false true refl h)

pub without_before : (p : ℕ → Bool) (t a n : ℕ) → t < a → counted (without p t) a n ≡ counted p a n
without_before p t a zero h = refl
without_before p t a (suc n) h =
    let e = without_before p t (a + 1) n (omega arith) in
    elim (eqb_tells t a) [
      | inl f ↦ absurd (omega (arith, f.1))
      | inr f ↦ let g = ap one_if (same_where_other (p a) (eqb t a) f.0) in omega arith
    ]

-- one marked number less
pub without_one : (p : ℕ → Bool) (t a n : ℕ) → a ≤ t → t < a + n → p t ≡ true → counted (without p t) a n + 1 ≡ counted p a n
without_one p t a zero low high marked = absurd (omega arith)
without_one p t a (suc n) low high marked = elim (eqb_tells t a) [
  | inl f ↦
      let e = without_before p t (a + 1) n (omega (arith, f.1)) in
      let here : p a ≡ true = ap p (sym f.1) ∙ marked in
      let g = ap one_if (ap (λ (b : Bool). p a && not b) f.0 ∙ ap (λ (b : Bool). b && false) here) in
      let k = ap one_if here in
      omega arith
  | inr f ↦
      let e = without_one p t (a + 1) n (omega (arith, f.1)) (omega arith) marked in
      let g = ap one_if (same_where_other (p a) (eqb t a) f.0) in
      omega arith
]

pub without_few : (p : ℕ → Bool) (t a n : ℕ) → counted p a n ≤ counted (without p t) a n + 1
without_few p t a zero = omega arith
without_few p t a (suc n) = elim (eqb_tells t a) [
  | inl f ↦
      let e = without_before p t (a + 1) n (omega (arith, f.1)) in
      omega (arith, one_at_most (p a))
  | inr f ↦
      let e = without_few p t (a + 1) n in
      let g = ap one_if (same_where_other (p a) (eqb t a) f.0) in
      omega arith
]

both : (a b : Bool) → (a && b) ≡ true → (a ≡ true) × (b ≡ true)
both true b h = (refl, h)
both false b h = absurd (true_not_false false h refl)

not_is : (b : Bool) → not b ≡ true → b ≡ false
not_is true h = sym h
not_is false h = refl

none_counted : (p : ℕ → Bool) (a n : ℕ) → ((i : ℕ) → a ≤ i → p i ≡ true → ⊥) → counted p a n ≡ 0
none_counted p a zero h = refl
none_counted p a (suc n) h =
    let e = none_counted p (a + 1) n (λ i b m. h i (omega arith) m) in
    elim (bool_cases (p a)) [
      | inl t ↦ absurd (h a (omega arith) t)
      | inr f ↦ let g = ap one_if f in omega arith
    ]

-- marked numbers that all stand in a list are no more than it has
pub in_list : (p : ℕ → Bool) (a n : ℕ) (xs : List ℕ) → ((i : ℕ) → a ≤ i → p i ≡ true → 0 < times i xs) → counted p a n ≤ length xs
in_list p a n [] h = let e = none_counted p a n (λ i b m. absurd (let z = h i b m in omega arith)) in omega arith
in_list p a n (x ∷ xs) h =
    let few = in_list (without p x) a n xs (λ i b m.
    let t = both (p i) (not (eqb x i)) m in
    let z = ap one_if (not_is (eqb x i) t.1) in
    let w = h i b t.0 in
    omega arith) in
    omega (arith, without_few p x a n)

-- a list that has no number twice
abbrev pub IsDistinct : List ℕ → Type 0
IsDistinct [] = Unit {0}
IsDistinct (x ∷ xs) = (times x xs ≡ 0) × IsDistinct xs

-- without all numbers of a list
abbrev pub without_all : (ℕ → Bool) → List ℕ → ℕ → Bool
without_all p xs i = p i && not (ltb 0 (times i xs))

and_no : (b : Bool) → (b && false) ≡ false
and_no true = refl
and_no false = refl

and_yes : (b : Bool) → (b && true) ≡ b
and_yes true = refl
and_yes false = refl

without_more : (p : ℕ → Bool) (x : ℕ) (xs : List ℕ) (i : ℕ) → without_all p (x ∷ xs) i ≡ without (without_all p xs) x i
without_more p x xs i = elim (eqb_tells x i) [
  | inl e ↦
      let a : ltb 0 (times i (x ∷ xs)) ≡ true = is_positive (times i (x ∷ xs)) (let z = ap one_if e.0 in omega arith) in
      ap (λ (b : Bool). p i && not b) a ∙ and_no (p i) ∙ sym (ap (λ (b : Bool). (p i && not (ltb 0 (times i xs))) && not b) e.0 ∙ and_no (p i && not (ltb 0 (times i xs))))
  | inr o ↦
      let a : times i (x ∷ xs) ≡ times i xs = let z = ap one_if o.0 in omega arith in
      ap (λ (k : ℕ). p i && not (ltb 0 k)) a ∙ sym (ap (λ (b : Bool). (p i && not (ltb 0 (times i xs))) && not b) o.0 ∙ and_yes (p i && not (ltb 0 (times i xs))))
]

-- all numbers of the list are marked, and among the n numbers from a on
pub record AreMarked (p : ℕ → Bool) (a n : ℕ) (xs : List ℕ) : Type 0 where
  pub low : (i : ℕ) → 0 < times i xs → a ≤ i
  pub high : (i : ℕ) → 0 < times i xs → i < a + n
  pub marked : (i : ℕ) → 0 < times i xs → p i ≡ true

more_times : (i x : ℕ) (xs : List ℕ) → 0 < times i xs → 0 < times i (x ∷ xs)
more_times i x xs h = omega arith

-- without the numbers of a list there are as many less as it has
pub without_list : (p : ℕ → Bool) (a n : ℕ) (xs : List ℕ) → IsDistinct xs → AreMarked p a n xs → counted (without_all p xs) a n + length xs ≡ counted p a n
without_list p a n [] d m =
    let e = counted_same (without_all p []) p a n (λ i. and_yes (p i)) in omega arith
without_list p a n (x ∷ xs) d m =
    let e = without_list p a n xs d.1 (record {
      low = λ i h. m.low i (more_times i x xs h);
      high = λ i h. m.high i (more_times i x xs h);
      marked = λ i h. m.marked i (more_times i x xs h);
    }) in
    let f = counted_same (without_all p (x ∷ xs)) (without (without_all p xs) x) a n (without_more p x xs) in
    let self = times_self x xs in
    let mark : without_all p xs x ≡ true = ap (λ (b : Bool). b && not (ltb 0 (times x xs))) (m.marked x self) ∙ ap (λ (k : ℕ). not (ltb 0 k)) d.0 in
    let g = without_one (without_all p xs) x a n (m.low x self) (m.high x self) mark in
    omega arith
