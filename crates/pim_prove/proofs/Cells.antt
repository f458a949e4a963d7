-- Cells of lists.
use Rattle.std.proofs.Common.{◌≡◌, ℕ, Bool, true, ◌||◌, eqb, List, [], ◌∷◌, ◌++◌, map, refl, ap, subst, inl, inr, ◌∙◌}
use Rattle.std.specs.Prelude.{All}
use Rattle.std.specs.List.{list_any}
use Rattle.std.proofs.lemmas.Bool.{false≢true, eqb-true, or_cases}
use Rattle.std.proofs.lemmas.List.Elements.{All-head, All-tail}
use Rattle.std.proofs.lemmas.List.Folds.{list_any-append}
use Rattle.pim_isa.specs.Validity.{has}

-- each of the cells is set
abbrev pub AllSet : (ℕ → Bool) → List ℕ → Type 0
AllSet set [] = Unit {0}
AllSet set (c ∷ cs) = (set c ≡ true) × AllSet set cs

pub AllSet-front : (set : ℕ → Bool) (xs ys : List ℕ) → AllSet set (xs ++ ys) → AllSet set xs
AllSet-front set [] ys all = tt
AllSet-front set (x ∷ xs) ys all = (all.0, AllSet-front set xs ys all.1)

pub AllSet-back : (set : ℕ → Bool) (xs ys : List ℕ) → AllSet set (xs ++ ys) → AllSet set ys
AllSet-back set [] ys all = all
AllSet-back set (x ∷ xs) ys all = AllSet-back set xs ys all.1

-- what holds of each element holds of one that is there
pub All-has : (P : ℕ → Type 0) (cs : List ℕ) → All P cs → (c : ℕ) → has c cs ≡ true → P c
All-has P [] all c there = absurd (false≢true there)
All-has P (d ∷ ds) all c there =
    elim (or_cases (eqb d c) (has c ds) there) [
      | inl same ↦ let Q : ℕ → Type 0 = P in subst Q (eqb-true d c same) (All-head P d ds all)
      | inr later ↦ All-has P ds (All-tail P d ds all) c later
    ]

-- a cell of the first list is one of both
pub has-front : (c : ℕ) (xs ys : List ℕ) → has c xs ≡ true → has c (xs ++ ys) ≡ true
has-front c xs ys there = list_any-append (λ d. eqb d c) xs ys ∙ ap (λ (b : Bool). b || has c ys) there

-- functions that agree on a list agree on each of its cells
pub same_at : (f g : ℕ → Bool) (cs : List ℕ) → map f cs ≡ map g cs → (c : ℕ) → has c cs ≡ true → f c ≡ g c
same_at f g [] same c there = absurd (false≢true there)
same_at f g (d ∷ ds) same c there =
    let first : f d ≡ g d = cc in
    let others : map f ds ≡ map g ds = cc in
    elim (or_cases (eqb d c) (has c ds) there) [
      | inl here ↦ subst (λ (x : ℕ). f x ≡ g x) (eqb-true d c here) first
      | inr later ↦ same_at f g ds others c later
    ]

-- and functions that agree on each set cell agree on a list of such
pub same_on : (f g : ℕ → Bool) (set : ℕ → Bool) → ((c : ℕ) → set c ≡ true → f c ≡ g c) → (cs : List ℕ) → AllSet set cs → map f cs ≡ map g cs
same_on f g set alike [] all = refl
same_on f g set alike (c ∷ cs) all =
    let first : f c ≡ g c = alike c all.0 in
    let others : map f cs ≡ map g cs = same_on f g set alike cs all.1 in
    cc

pub any_same : (f g : ℕ → Bool) (set : ℕ → Bool) → ((c : ℕ) → set c ≡ true → f c ≡ g c) → (cs : List ℕ) → AllSet set cs → list_any f cs ≡ list_any g cs
any_same f g set alike [] all = refl
any_same f g set alike (c ∷ cs) all =
    ap (λ (b : Bool). b || list_any f cs) (alike c all.0) ∙ ap (λ (b : Bool). g c || b) (any_same f g set alike cs all.1)
