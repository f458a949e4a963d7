-- The order with temporaries holds one value more at once, at most, than the order without.
use Rattle.std.proofs.Common.{◌≡◌, ℕ, suc, ◌+◌, ◌*◌, ◌<◌, ◌≤◌, max, Bool, true, false, cond, eqb, ◌||◌, List, [], ◌∷◌, ◌++◌, length, get_or, take, count_by, append_assoc, Option, Some, None, refl, sym, ◌∙◌, ap, arith, inl, inr}
use Rattle.std.proofs.lemmas.Bool.{false≢true}
use Rattle.std.proofs.lemmas.Bool.Decides.{eqb_tells}
use Rattle.std.proofs.lemmas.List.{flat_map_more}
use Rattle.std.proofs.lemmas.List.Sums.{sum_by-append, sum_by-cons}
use Rattle.pim_aig.specs.declared.literal.Lit.{Lit}
use Rattle.pim_graph.specs.Graphs.{GraphView, has, kids_of}
use Rattle.pim_graph.specs.Peaks.{needed, peak, peak_from, read_by}
use Rattle.pim_mig.specs.Graph.{MigView, size}
use Rattle.pim_rm3.specs.Steps.{mig_gates, mig_graph, step_of}
use Rattle.pim_rm3.specs.Temporaries.{full_graph, full_order, gate_number, own_temporary, temporary_of, with_temporary}
use Rattle.pim_rm3.proofs.Lists.{or_true, or_more, split, has_here, has_front, has_back, has_either}
use Rattle.pim_rm3.proofs.FullOrders.{flat, needed_alone, temporary_needed}
use Rattle.pim_rm3.proofs.FullSound.{IsOrdered, below, no_true}

-- no gate stands twice in both lists together
abbrev Apart : List ℕ → List ℕ → Type 0
Apart earlier [] = Unit {0}
Apart earlier (x ∷ later) = (has earlier x ≡ false) × Apart (earlier ++ x ∷ []) later

never_both : (earlier later : List ℕ) (l : ℕ) → Apart earlier later → has earlier l ≡ true → has later l ≡ true → ⊥
never_both earlier [] l a h k = false≢true k
never_both earlier (x ∷ later) l a h k = elim (eqb_tells x l) [
  | inl t ↦ false≢true (sym a.0 ∙ (ap (has earlier) t.1 ∙ h))
  | inr f ↦ never_both (earlier ++ x ∷ []) later l a.1 (has_front earlier (x ∷ []) l h) (sym (ap (λ (b : Bool). b || has later l) f.0) ∙ k)
]

moved_on : (earlier mid : List ℕ) (x y : ℕ) → has (earlier ++ x ∷ mid) y ≡ false → has ((earlier ++ x ∷ []) ++ mid) y ≡ false
moved_on earlier mid x y h = no_true (has ((earlier ++ x ∷ []) ++ mid) y) (λ t. elim (has_either (earlier ++ x ∷ []) mid y t) [
  | inl a ↦ elim (split earlier x y a) [
    | inl b ↦ false≢true (sym h ∙ has_front earlier (x ∷ mid) y b)
    | inr e ↦ false≢true (sym h ∙ has_back earlier (x ∷ mid) y (has_here x y mid e))
  ]
  | inr b ↦ false≢true (sym h ∙ has_back earlier (x ∷ mid) y (or_true (eqb x y) (has mid y) b))
])

once_apart : (earlier later : List ℕ) → ((p : ℕ) → p < length later → has (earlier ++ take p later) (get_or later p 0) ≡ false) → Apart earlier later
once_apart earlier [] once = tt
once_apart earlier (x ∷ later) once = (
  no_true (has earlier x) (λ t. false≢true (sym (once 0 (omega arith)) ∙ has_front earlier [] x t)),
  once_apart (earlier ++ x ∷ []) later (λ p h. moved_on earlier (take p later) x (get_or later p 0) (once (suc p) (omega arith))),
)

-- ---- counts
counted : (q : ℕ → Bool) (x : ℕ) (xs : List ℕ) → count_by q (x ∷ xs) ≡ cond (q x) 1 0 + count_by q xs
counted q x xs = sum_by-cons (λ v. cond {A = ℕ} (q v) 1 0) x xs

count_append : (q : ℕ → Bool) (xs ys : List ℕ) → count_by q (xs ++ ys) ≡ count_by q xs + count_by q ys
count_append q xs ys = sum_by-append (λ v. cond {A = ℕ} (q v) 1 0) xs ys

none_counted : (q : ℕ → Bool) → count_by q [] ≡ 0
none_counted q = refl

own_counted : (q : ℕ → Bool) (x : ℕ) (o : Option Lit) → q (2 * x) ≡ false → count_by q (own_temporary x o) ≡ 0
own_counted q x None h = refl
own_counted q x (Some e) h = counted q (2 * x) [] ∙ ap (λ (b : Bool). cond {A = ℕ} b 1 0 + count_by q []) h

no_more : (a b : Bool) → (a ≡ true → b ≡ true) → cond {A = ℕ} a 1 0 ≤ cond {A = ℕ} b 1 0
no_more true true h = omega arith
no_more true false h = absurd (false≢true (h refl))
no_more false true h = omega arith
no_more false false h = omega arith

at_most_one : (b : Bool) → cond {A = ℕ} b 1 0 ≤ 1
at_most_one true = omega arith
at_most_one false = omega arith

count_flat : (g : MigView) (later xs ys : List ℕ) → ((n : ℕ) → needed (full_graph g) ys n ≡ true → needed (full_graph g) (flat g later) n ≡ true) → ((l : ℕ) → has later l ≡ true → l < 2 * size g) → ((l : ℕ) → has xs l ≡ true → has later l ≡ true → ⊥) → count_by (needed (full_graph g) ys) (flat g xs) ≤ count_by (needed (mig_graph g) later) xs
count_flat g later [] ys sub there apart = let a = none_counted (needed (full_graph g) ys) in omega arith
count_flat g later (x ∷ xs) ys sub there apart =
    let f = needed (full_graph g) ys in
    let h = needed (mig_graph g) later in
    let own = own_temporary x (temporary_of (step_of g x)) in
    let rest = count_flat g later xs ys sub there (λ l a b. apart l (or_true (eqb x l) (has xs l) a) b) in
    let unneeded : f (2 * x) ≡ false = no_true (f (2 * x)) (λ t. apart x (has_here x x xs refl) (temporary_needed g later x there (sub (2 * x) t))) in
    let one = no_more (f (gate_number x)) (h x) (λ t. needed_alone g later x there (sub (gate_number x) t)) in
    let a = count_append f (with_temporary g x) (flat g xs) in
    let b = count_append f own (gate_number x ∷ []) in
    let d = counted f (gate_number x) [] in
    let e = counted h x xs in
    let n = none_counted f in
    let o = own_counted f x (temporary_of (step_of g x)) unneeded in
    omega arith

count_push : (q : ℕ → Bool) (xs : List ℕ) (x : ℕ) → count_by q (xs ++ x ∷ []) ≤ count_by q xs + 1
count_push q xs x =
    let a = count_append q xs (x ∷ []) in
    let b = counted q x [] in
    let d = none_counted q in
    let e = at_most_one (q x) in
    omega arith

-- ---- peaks
peak_none : (v : GraphView) (earlier later : List ℕ) (x : ℕ) → peak_from v earlier (x ∷ later) ≡ max (count_by (needed v (x ∷ later)) earlier + 1) (peak_from v (earlier ++ x ∷ []) later)
peak_none v earlier later x = refl

peak_cons : (g : MigView) (earlier rest : List ℕ) (x : ℕ) (o : Option Lit) → temporary_of (step_of g x) ≡ o → ((l : ℕ) → has (x ∷ rest) l ≡ true → l < 2 * size g) → ((l : ℕ) → has earlier l ≡ true → has (x ∷ rest) l ≡ true → ⊥) → peak_from (full_graph g) (flat g (earlier ++ x ∷ [])) (flat g rest) ≤ peak_from (mig_graph g) (earlier ++ x ∷ []) rest + 1 → peak_from (full_graph g) (flat g earlier) ((own_temporary x o ++ gate_number x ∷ []) ++ flat g rest) ≤ peak_from (mig_graph g) earlier (x ∷ rest) + 1
peak_cons g earlier rest x None is there apart more =
    let v = full_graph g in
    let later = flat g rest in
    let whole : flat g (x ∷ rest) ≡ gate_number x ∷ later = ap (λ (o : Option Lit). (own_temporary x o ++ gate_number x ∷ []) ++ later) is in
    let here = count_flat g (x ∷ rest) earlier (gate_number x ∷ later) (λ n h. ap (λ (ys : List ℕ). needed v ys n) whole ∙ h) there apart in
    let grown : flat g (earlier ++ x ∷ []) ≡ flat g earlier ++ gate_number x ∷ [] = sym (flat_map_more (with_temporary g) [] earlier x) ∙ ap (λ (o : Option Lit). flat g earlier ++ (own_temporary x o ++ gate_number x ∷ [])) is in
    let on = ap (λ (ys : List ℕ). peak_from v ys later) grown in
    let a = peak_none v (flat g earlier) later (gate_number x) in
    let b = peak_none (mig_graph g) earlier rest x in
    omega arith
peak_cons g earlier rest x (Some e) is there apart more =
    let v = full_graph g in
    let later = flat g rest in
    let all = 2 * x ∷ (gate_number x ∷ later) in
    let whole : flat g (x ∷ rest) ≡ all = ap (λ (o : Option Lit). (own_temporary x o ++ gate_number x ∷ []) ++ later) is in
    let here = count_flat g (x ∷ rest) earlier all (λ n h. ap (λ (ys : List ℕ). needed v ys n) whole ∙ h) there apart in
    let next = count_flat g (x ∷ rest) earlier (gate_number x ∷ later) (λ n h.
    ap (λ (ys : List ℕ). needed v ys n) whole ∙ or_more (has (kids_of v (2 * x)) n) (read_by v (gate_number x ∷ later) n) (has v.roots n) h) there apart in
    let grown : flat g (earlier ++ x ∷ []) ≡ flat g earlier ++ 2 * x ∷ (gate_number x ∷ []) = sym (flat_map_more (with_temporary g) [] earlier x) ∙ ap (λ (o : Option Lit). flat g earlier ++ (own_temporary x o ++ gate_number x ∷ [])) is in
    let joined : (flat g earlier ++ 2 * x ∷ []) ++ gate_number x ∷ [] ≡ flat g (earlier ++ x ∷ []) = append_assoc (flat g earlier) (2 * x ∷ []) (gate_number x ∷ []) ∙ sym grown in
    let on = ap (λ (ys : List ℕ). peak_from v ys later) joined in
    let pushed = count_push (needed v (gate_number x ∷ later)) (flat g earlier) (2 * x) in
    let a = peak_none v (flat g earlier) (gate_number x ∷ later) (2 * x) in
    let d = peak_none v (flat g earlier ++ 2 * x ∷ []) later (gate_number x) in
    let b = peak_none (mig_graph g) earlier rest x in
    omega arith

peak_within : (g : MigView) (earlier later : List ℕ) → ((l : ℕ) → has later l ≡ true → l < 2 * size g) → Apart earlier later → peak_from (full_graph g) (flat g earlier) (flat g later) ≤ peak_from (mig_graph g) earlier later + 1
peak_within g earlier [] there apart = omega arith
peak_within g earlier (x ∷ rest) there apart =
    peak_cons g earlier rest x (temporary_of (step_of g x)) refl there (λ l a b. never_both earlier (x ∷ rest) l apart a b)
    (peak_within g (earlier ++ x ∷ []) rest (λ l h. there l (or_true (eqb x l) (has rest l) h)) apart.1)

pub full_peak : (g : MigView) → IsOrdered g → peak (full_graph g) (full_order g) ≤ peak (mig_graph g) (mig_gates g) + 1
full_peak g s = peak_within g [] (mig_gates g) (λ l h. below g l s h) (once_apart [] (mig_gates g) s.placed.once)
