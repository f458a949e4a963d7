-- Lists of numbers, and what they have.
use Rattle.std.proofs.Common.{◌≡◌, ◌⊎◌, ℕ, zero, suc, ◌<◌, Bool, true, false, eqb, ◌||◌, refl, List, [], ◌∷◌, ◌++◌, length, get_or, take, drop, All, sym, ◌∙◌, ap, subst, arith, inl, inr}
use Rattle.std.proofs.lemmas.Bool.{false≢true}
use Rattle.std.proofs.lemmas.Bool.Decides.{nat_tests, eqb_tells}
use Rattle.pim_graph.specs.Graphs.{has}
use Rattle.pim_rm3.proofs.Rows.{bool_cases}

pub all_has : (P : ℕ → Type 0) (xs : List ℕ) (x : ℕ) → All P xs → has xs x ≡ true → P x
all_has P [] x all h = absurd (false≢true h)
all_has P (y ∷ ys) x all h = elim (eqb_tells y x) [
  | inl t ↦ subst P t.1 (all 0 x (omega arith))
  | inr f ↦ all_has P ys x (λ k d l. all (suc k) d (omega arith)) (sym (ap (λ (b : Bool). b || has ys x) f.0) ∙ h)
]

pub or_true : (b c : Bool) → c ≡ true → (b || c) ≡ true
or_true true c h = refl
or_true false c h = h

pub or_more : (x y r : Bool) → (y || r) ≡ true → ((x || y) || r) ≡ true
or_more true y r h = refl
or_more false y r h = h

-- what a list with one item more has is that item or was there before
pub split : (xs : List ℕ) (x y : ℕ) → has (xs ++ x ∷ []) y ≡ true → (has xs y ≡ true) ⊎ (x ≡ y)
split [] x y h = elim (eqb_tells x y) [
  | inl t ↦ inr t.1
  | inr f ↦ absurd (false≢true (sym (ap (λ (b : Bool). b || false) f.0) ∙ h))
]
split (z ∷ zs) x y h = elim (eqb_tells z y) [
  | inl t ↦ inl (ap (λ (b : Bool). b || has zs y) t.0)
  | inr f ↦ elim (split zs x y (sym (ap (λ (b : Bool). b || has (zs ++ x ∷ []) y) f.0) ∙ h)) [
    | inl q ↦ inl (ap (λ (b : Bool). b || has zs y) f.0 ∙ q)
    | inr e ↦ inr e
  ]
]

pub last : (xs : List ℕ) (x : ℕ) → has (xs ++ x ∷ []) x ≡ true
last [] x = let e : eqb x x ≡ true = grind (arith, nat_tests) in ap (λ (b : Bool). b || false) e
last (y ∷ ys) x = or_true (eqb y x) (has (ys ++ x ∷ []) x) (last ys x)

pub has_whole : (xs : List ℕ) (p : ℕ) → p < length xs → has xs (get_or xs p 0) ≡ true
has_whole [] p h = absurd (omega arith)
has_whole (x ∷ xs) zero h = let e : eqb x x ≡ true = grind (arith, nat_tests) in ap (λ (b : Bool). b || has xs x) e
has_whole (x ∷ xs) (suc p) h = or_true (eqb x (get_or xs p 0)) (has xs (get_or xs p 0)) (has_whole xs p (omega arith))

pub has_here : (x y : ℕ) (xs : List ℕ) → x ≡ y → has (x ∷ xs) y ≡ true
has_here x y xs h = let e : eqb x y ≡ true = grind (arith, nat_tests) in ap (λ (b : Bool). b || has xs y) e

pub has_one : (x y : ℕ) → has (x ∷ []) y ≡ true → x ≡ y
has_one x y h = elim (eqb_tells x y) [
  | inl t ↦ t.1
  | inr f ↦ absurd (false≢true (sym (ap (λ (b : Bool). b || false) f.0) ∙ h))
]

pub one_has : (x y : ℕ) → x ≡ y → has (x ∷ []) y ≡ true
one_has x y h = let e : eqb x y ≡ true = grind (arith, nat_tests) in ap (λ (b : Bool). b || false) e

pub has_front : (xs ys : List ℕ) (k : ℕ) → has xs k ≡ true → has (xs ++ ys) k ≡ true
has_front [] ys k h = absurd (false≢true h)
has_front (x ∷ xs) ys k h = elim (bool_cases (eqb x k)) [
  | inl t ↦ ap (λ (b : Bool). b || has (xs ++ ys) k) t
  | inr f ↦ or_true (eqb x k) (has (xs ++ ys) k) (has_front xs ys k (sym (ap (λ (b : Bool). b || has xs k) f) ∙ h))
]

pub has_back : (xs ys : List ℕ) (k : ℕ) → has ys k ≡ true → has (xs ++ ys) k ≡ true
has_back [] ys k h = h
has_back (x ∷ xs) ys k h = or_true (eqb x k) (has (xs ++ ys) k) (has_back xs ys k h)

-- one of two lists has what both together have
pub has_either : (xs ys : List ℕ) (k : ℕ) → has (xs ++ ys) k ≡ true → (has xs k ≡ true) ⊎ (has ys k ≡ true)
has_either [] ys k h = inr h
has_either (x ∷ xs) ys k h = elim (bool_cases (eqb x k)) [
  | inl t ↦ inl (ap (λ (b : Bool). b || has xs k) t)
  | inr f ↦ elim (has_either xs ys k (sym (ap (λ (b : Bool). b || has (xs ++ ys) k) f) ∙ h)) [
    | inl a ↦ inl (ap (λ (b : Bool). b || has xs k) f ∙ a)
    | inr b ↦ inr b
  ]
]

-- what a front or a rest of a list has
pub has_of_take : (xs : List ℕ) (p y : ℕ) → has (take p xs) y ≡ true → has xs y ≡ true
has_of_take [] zero y h = absurd (false≢true h)
has_of_take [] (suc p) y h = absurd (false≢true h)
has_of_take (x ∷ xs) zero y h = absurd (false≢true h)
has_of_take (x ∷ xs) (suc p) y h = elim (bool_cases (eqb x y)) [
  | inl t ↦ ap (λ (b : Bool). b || has xs y) t
  | inr f ↦ ap (λ (b : Bool). b || has xs y) f ∙ has_of_take xs p y (sym (ap (λ (b : Bool). b || has (take p xs) y) f) ∙ h)
]

pub in_drop : (xs : List ℕ) (p y : ℕ) → has (drop p xs) y ≡ true → has xs y ≡ true
in_drop [] zero y h = absurd (false≢true h)
in_drop [] (suc p) y h = absurd (false≢true h)
in_drop (x ∷ xs) zero y h = h
in_drop (x ∷ xs) (suc p) y h = or_true (eqb x y) (has xs y) (in_drop xs p y h)
