-- Lists of gates and of the places of their NORs, as they grow.
use Rattle.std.proofs.Common.{◌≡◌, ◌⊎◌, ℕ, zero, suc, Bool, true, false, ◌||◌, eqb, cond, List, [], ◌∷◌, ◌++◌, length, Option, Some, None, inl, inr, refl, sym, ap, ◌∙◌, subst, arith}
use Rattle.std.specs.Prelude.{filter, slice_get, IsSomeAnd, MatchBool}
use Rattle.std.specs.List.{list_any}
use Rattle.std.proofs.lemmas.Bool.{false≢true, or_cases, or_parts, or_left, or_right, eqb-true, eq-eqb}
use Rattle.std.proofs.lemmas.List.{append-nil}
use Rattle.std.proofs.lemmas.List.Elements.{filter-append}
use Rattle.pim_graph.specs.Graphs.{has as among}
use Rattle.pim_isa.specs.Validity.{has}
use Rattle.pim_nor.specs.Network.{NorView, is_nor}
use Rattle.pim_simpler.specs.Following.{gate_at, nors_of, place_of}

-- ---- lists

pub same_bools : (a b : Bool) → (a ≡ true → b ≡ true) → (b ≡ true → a ≡ true) → a ≡ b
same_bools true b there back = sym (there refl)
same_bools false true there back = absurd (false≢true (back refl))
same_bools false false there back = refl

or_once : (a b c d : Bool) → b ≡ (c || d) → (a || b) ≡ ((a || c) || d)
or_once true b c d e = refl
or_once false b c d e = e

pub among-append : (xs ys : List ℕ) (x : ℕ) → among (xs ++ ys) x ≡ (among xs x || among ys x)
among-append [] ys x = refl
among-append (z ∷ zs) ys x = or_once (eqb z x) (among (zs ++ ys) x) (among zs x) (among ys x) (among-append zs ys x)

pub among-push : (placed : List ℕ) (g : ℕ) → among (placed ++ g ∷ []) g ≡ true
among-push placed g = among-append placed (g ∷ []) g ∙ or_right (among placed g) (eqb g g || false) (or_left (eqb g g) false (eq-eqb g g refl))

-- one element more: it stands among the first, or it is the last one
pub slice_get-push : {X : Type 0} (xs : List X) (x y : X) (j : ℕ) → slice_get (xs ++ x ∷ []) j ≡ Some y →
    (slice_get xs j ≡ Some y) ⊎ ((j ≡ length xs) × (x ≡ y))
slice_get-push [] x y zero e = inr (refl, cc)
slice_get-push [] x y (suc j) e = cc
slice_get-push (z ∷ zs) x y zero e = inl e
slice_get-push (z ∷ zs) x y (suc j) e =
    elim (slice_get-push zs x y j e) [
      | inl before ↦ inl before
      | inr last ↦ inr (ap suc last.0, last.1)
    ]

-- a test holds of one of the cells
pub any_from_has : (P : ℕ → Bool) (cs : List ℕ) (c : ℕ) → has c cs ≡ true → P c ≡ true → list_any P cs ≡ true
any_from_has P [] c there holds = cc
any_from_has P (d ∷ ds) c there holds =
    elim (or_cases (eqb d c) (has c ds) there) [
      | inl same ↦ or_left (P d) (list_any P ds) (ap P (eqb-true d c same) ∙ holds)
      | inr later ↦ or_right (P d) (list_any P ds) (any_from_has P ds c later holds)
    ]

pub MatchBool-map : (b : Bool) {P Q R S : Type 0} → (P → R) → (Q → S) → MatchBool b P Q → MatchBool b R S
MatchBool-map true f g m = f m
MatchBool-map false f g m = g m

pub IsSomeAnd-map : (o p : Option ℕ) (P Q : ℕ → Type 0) → ((q : ℕ) → o ≡ Some q → p ≡ Some q) → ((q : ℕ) → P q → Q q) →
    IsSomeAnd o P → IsSomeAnd p Q
IsSomeAnd-map None p P Q there then some = absurd some
IsSomeAnd-map (Some q) p P Q there then some =
    let F : Option ℕ → Type 0 = λ o. IsSomeAnd o Q in
    subst F (sym (there q refl)) (then q some)

pub IsSomeAnd-from : (o : Option ℕ) (P : ℕ → Type 0) (q : ℕ) → o ≡ Some q → P q → IsSomeAnd o P
IsSomeAnd-from o P q is holds = let F : Option ℕ → Type 0 = λ o. IsSomeAnd o P in subst F (sym is) holds

-- ---- the NORs of an order

pub nors-push : (n : NorView) (placed : List ℕ) (g : ℕ) →
    nors_of n (placed ++ g ∷ []) ≡ nors_of n placed ++ cond (is_nor (gate_at n g)) (g ∷ []) []
nors-push n placed g = filter-append (λ (h : ℕ). is_nor (gate_at n h)) placed (g ∷ [])

-- one that takes an instruction, and one that takes none
pub nors-push_nor : (n : NorView) (placed : List ℕ) (g : ℕ) → is_nor (gate_at n g) ≡ true → nors_of n (placed ++ g ∷ []) ≡ nors_of n placed ++ g ∷ []
nors-push_nor n placed g is = nors-push n placed g ∙ ap (λ (b : Bool). nors_of n placed ++ cond b (g ∷ []) []) is

pub nors-push_one : (n : NorView) (placed : List ℕ) (g : ℕ) → is_nor (gate_at n g) ≡ false → nors_of n (placed ++ g ∷ []) ≡ nors_of n placed
nors-push_one n placed g is =
    nors-push n placed g ∙ ap (λ (b : Bool). nors_of n placed ++ cond b (g ∷ []) []) is ∙ append-nil (nors_of n placed)

not_kept : (b : Bool) (x g : ℕ) (ys : List ℕ) → eqb x g ≡ false → among ys g ≡ false → among (cond b (x ∷ ys) ys) g ≡ false
not_kept true x g ys here rest = ap (λ (b : Bool). b || among ys g) here ∙ rest
not_kept false x g ys here rest = rest

pub filter-fresh : (p : ℕ → Bool) (xs : List ℕ) (g : ℕ) → among xs g ≡ false → among (filter p xs) g ≡ false
filter-fresh p [] g fresh = refl
filter-fresh p (x ∷ xs) g fresh =
    let both = or_parts (eqb x g) (among xs g) fresh in
    not_kept (p x) x g (filter p xs) both.0 (filter-fresh p xs g both.1)

pub nors-fresh : (n : NorView) (placed : List ℕ) (g : ℕ) → among placed g ≡ false → among (nors_of n placed) g ≡ false
nors-fresh n placed g fresh = filter-fresh (λ (h : ℕ). is_nor (gate_at n h)) placed g fresh

-- ---- where the NOR of a gate stands

-- what was found stays found
abbrev pub Keeps : List ℕ → List ℕ → List ℕ → List ℕ → Type 0
Keeps gs ps hs qs = (g q : ℕ) → place_of gs ps g ≡ Some q → place_of hs qs g ≡ Some q

found_first : (b : Bool) (p : ℕ) (o u : Option ℕ) (q : ℕ) → (o ≡ Some q → u ≡ Some q) → cond b (Some p) o ≡ Some q → cond b (Some p) u ≡ Some q
found_first true p o u q rest is = is
found_first false p o u q rest is = rest is

pub Keeps-append : (gs ps hs qs : List ℕ) → Keeps gs ps (gs ++ hs) (ps ++ qs)
Keeps-append [] ps hs qs g q e = cc
Keeps-append (x ∷ xs) [] hs qs g q e = cc
Keeps-append (x ∷ xs) (p ∷ ps) hs qs g q e =
    found_first (eqb x g) p (place_of xs ps g) (place_of (xs ++ hs) (ps ++ qs) g) q (Keeps-append xs ps hs qs g q) e

-- the last gate has the last place, if it isn't one of the others
pub place_of-push : (gs ps : List ℕ) (g q : ℕ) → among gs g ≡ false → length gs ≡ length ps → place_of (gs ++ g ∷ []) (ps ++ q ∷ []) g ≡ Some q
place_of-push [] [] g q fresh same = ap (λ (b : Bool). cond b (Some q) None) (eq-eqb g g refl)
place_of-push [] (p ∷ ps) g q fresh same = absurd (omega arith)
place_of-push (x ∷ xs) [] g q fresh same = absurd (omega arith)
place_of-push (x ∷ xs) (p ∷ ps) g q fresh same =
    let both = or_parts (eqb x g) (among xs g) fresh in
    ap (λ (b : Bool). cond b (Some p) (place_of (xs ++ g ∷ []) (ps ++ q ∷ []) g)) both.0
    ∙ place_of-push xs ps g q both.1 (omega arith)
