-- An order that has each gate once has as many NORs as the network.
use Rattle.std.proofs.Common.{◌≡◌, ℕ, zero, suc, ◌+◌, ◌<◌, ◌≤◌, Bool, true, false, ◌||◌, eqb, cond, List, [], ◌∷◌, length, take, get_or, inl, inr, refl, sym, ap, ◌∙◌, subst, arith}
use Rattle.std.specs.Prelude.{filter, slice_index}
use Rattle.std.proofs.lemmas.Bool.{false≢true, or_cases, or_parts, or_left, or_right, eqb-true, eq-eqb, false_from_ne_true}
use Rattle.std.proofs.lemmas.List.Sums.{sum_by-cons}
use Rattle.pim_graph.specs.Graphs.{has as among}
use Rattle.pim_nor.specs.Network.{NorView, is_nor, nor_count}
use Rattle.pim_nor.specs.declared.network.Gate.{Gate}
use Rattle.pim_nor.specs.declared.network.Gate.TheVariants.{One}
use Rattle.pim_simpler.specs.Following.{gate_at, nors_of}
use Rattle.pim_simpler.proofs.Inits.{without, length-without, among-without}
use Rattle.pim_simpler.proofs.Placing.{filter-fresh}
use Rattle.pim_simpler.proofs.Stages.{among-filter}

abbrev AllApart : List ℕ → Type 0
AllApart [] = Unit {0}
AllApart (x ∷ xs) = (among xs x ≡ false) × AllApart xs

apart_within : (ys zs : List ℕ) → AllApart ys → ((y : ℕ) → among ys y ≡ true → among zs y ≡ true) → length ys ≤ length zs
apart_within [] zs apart each = omega arith
apart_within (y ∷ ys) zs apart each =
    let rest : length ys ≤ length (without y zs) =
    apart_within ys (without y zs) apart.1
    (λ x there. among-without y zs x (λ e. false≢true (sym apart.0 ∙ (ap (among ys) (sym e) ∙ there))) (each x (or_right (eqb y x) (among ys x) there))) in
    omega (arith, rest, length-without y zs (each y (or_left (eqb y y) (among ys y) (eq-eqb y y refl))))

record IsIndex (xs : List ℕ) (x q : ℕ) : Type 0 where
  within : q < length xs
  is : get_or xs q 0 ≡ x

index_of : (xs : List ℕ) (x : ℕ) → among xs x ≡ true → (q : ℕ) × IsIndex xs x q
index_of [] x there = absurd (false≢true there)
index_of (y ∷ ys) x there =
    elim (or_cases (eqb y x) (among ys x) there) [
      | inl same ↦ (0, record { within = omega arith; is = eqb-true y x same })
      | inr later ↦ let rest = index_of ys x later in (suc rest.0, record { within = omega (arith, rest.1.within); is = rest.1.is })
    ]

apart_from_once : (xs : List ℕ) → ((p : ℕ) → p < length xs → among (take p xs) (slice_index xs p) ≡ false) → AllApart xs
apart_from_once [] once = tt
apart_from_once (x ∷ xs) once = (
  false_from_ne_true (among xs x)
      (λ there.
      let at = index_of xs x there in
      let apart : (eqb x (get_or xs at.0 0) || among (take at.0 xs) (get_or xs at.0 0)) ≡ false = once (suc at.0) (omega (arith, at.1.within)) in
      false≢true (sym (or_parts (eqb x (get_or xs at.0 0)) (among (take at.0 xs) (get_or xs at.0 0)) apart).0 ∙ eq-eqb x (get_or xs at.0 0) (sym at.1.is))),
  apart_from_once xs (λ p within. (or_parts (eqb x (get_or xs p 0)) (among (take p xs) (get_or xs p 0)) (once (suc p) (omega arith))).1),
)

apart_either : (b : Bool) (x : ℕ) (ys : List ℕ) → among ys x ≡ false → AllApart ys → AllApart (cond b (x ∷ ys) ys)
apart_either true x ys new apart = (new, apart)
apart_either false x ys new apart = apart

filter_apart : (p : ℕ → Bool) (xs : List ℕ) → AllApart xs → AllApart (filter p xs)
filter_apart p [] apart = tt
filter_apart p (x ∷ xs) apart = apart_either (p x) x (filter p xs) (filter-fresh p xs x apart.0) (filter_apart p xs apart.1)

back_either : (p : ℕ → Bool) (b : Bool) (x : ℕ) (xs ys : List ℕ) (g : ℕ) → p x ≡ b → (among ys g ≡ true → (among xs g ≡ true) × (p g ≡ true)) → among (cond b (x ∷ ys) ys) g ≡ true → (among (x ∷ xs) g ≡ true) × (p g ≡ true)
back_either p true x xs ys g passes rest there =
    elim (or_cases (eqb x g) (among ys g) there) [
      | inl same ↦ (or_left (eqb x g) (among xs g) same, ap p (sym (eqb-true x g same)) ∙ passes)
      | inr later ↦ let both = rest later in (or_right (eqb x g) (among xs g) both.0, both.1)
    ]
back_either p false x xs ys g passes rest there = let both = rest there in (or_right (eqb x g) (among xs g) both.0, both.1)

filter_back : (p : ℕ → Bool) (xs : List ℕ) (g : ℕ) → among (filter p xs) g ≡ true → (among xs g ≡ true) × (p g ≡ true)
filter_back p [] g there = absurd (false≢true there)
filter_back p (x ∷ xs) g there = back_either p (p x) x xs (filter p xs) g refl (filter_back p xs g) there

-- ---- the numbers of a network's NORs

nor_numbers : ℕ → List Gate → List ℕ
nor_numbers k [] = []
nor_numbers k (g ∷ gs) = cond (is_nor g) (k ∷ nor_numbers (suc k) gs) (nor_numbers (suc k) gs)

length_either : (b : Bool) (k c : ℕ) (ys : List ℕ) → length ys ≡ c → length (cond b (k ∷ ys) ys) ≡ cond b 1 0 + c
length_either true k c ys same = omega arith
length_either false k c ys same = omega arith

nor_numbers-count : (k : ℕ) (gs : List Gate) → length (nor_numbers k gs) ≡ nor_count gs
unfolding nor_numbers
nor_numbers-count k [] = refl
nor_numbers-count k (g ∷ gs) =
    length_either (is_nor g) k (nor_count gs) (nor_numbers (suc k) gs) (nor_numbers-count (suc k) gs)
    ∙ sym (sum_by-cons (λ (d : Gate). cond (is_nor d) 1 0) g gs)

among_either : (b : Bool) (k g : ℕ) (ys : List ℕ) → among ys g ≡ true → among (cond b (k ∷ ys) ys) g ≡ true
among_either true k g ys there = or_right (eqb k g) (among ys g) there
among_either false k g ys there = there

nor_numbers-there : (k : ℕ) (gs : List Gate) (j g : ℕ) → j < length gs → k + j ≡ g → is_nor (get_or gs j One) ≡ true → among (nor_numbers k gs) g ≡ true
unfolding nor_numbers
nor_numbers-there k [] j g small at is = absurd (omega arith)
nor_numbers-there k (x ∷ gs) zero g small at is =
    ap (λ (b : Bool). among (cond b (k ∷ nor_numbers (suc k) gs) (nor_numbers (suc k) gs)) g) is ∙ or_left (eqb k g) (among (nor_numbers (suc k) gs) g) (eq-eqb k g (omega arith))
nor_numbers-there k (x ∷ gs) (suc j) g small at is =
    among_either (is_nor x) k g (nor_numbers (suc k) gs) (nor_numbers-there (suc k) gs j g (omega arith) (omega arith) is)

record IsNorAt (k : ℕ) (gs : List Gate) (g j : ℕ) : Type 0 where
  within : j < length gs
  at : k + j ≡ g
  is : is_nor (get_or gs j One) ≡ true

nor_either : (b : Bool) (k : ℕ) (x : Gate) (gs : List Gate) (ys : List ℕ) (g : ℕ) → is_nor x ≡ b → (among ys g ≡ true → (j : ℕ) × IsNorAt (suc k) gs g j) → among (cond b (k ∷ ys) ys) g ≡ true → (j : ℕ) × IsNorAt k (x ∷ gs) g j
nor_either true k x gs ys g is rest there =
    elim (or_cases (eqb k g) (among ys g) there) [
      | inl same ↦ (0, record { within = omega arith; at = omega (arith, eqb-true k g same); is = is })
      | inr later ↦ let r = rest later in (suc r.0, record { within = omega (arith, r.1.within); at = omega (arith, r.1.at); is = r.1.is })
    ]
nor_either false k x gs ys g is rest there = let r = rest there in (suc r.0, record { within = omega (arith, r.1.within); at = omega (arith, r.1.at); is = r.1.is })

nor_numbers-back : (k : ℕ) (gs : List Gate) (g : ℕ) → among (nor_numbers k gs) g ≡ true → (j : ℕ) × IsNorAt k gs g j
unfolding nor_numbers
nor_numbers-back k [] g there = absurd (false≢true there)
nor_numbers-back k (x ∷ gs) g there = nor_either (is_nor x) k x gs (nor_numbers (suc k) gs) g refl (nor_numbers-back (suc k) gs g) there

nor_numbers-apart : (k : ℕ) (gs : List Gate) → AllApart (nor_numbers k gs)
unfolding nor_numbers
nor_numbers-apart k [] = tt
nor_numbers-apart k (x ∷ gs) =
    apart_either (is_nor x) k (nor_numbers (suc k) gs)
    (false_from_ne_true (among (nor_numbers (suc k) gs) k) (λ there. let r = nor_numbers-back (suc k) gs k there in absurd (omega (arith, r.1.at))))
    (nor_numbers-apart (suc k) gs)

-- ---- the NORs of an order

pub nors_counted : (n : NorView) (order : List ℕ) → ((p : ℕ) → p < length order → among (take p order) (slice_index order p) ≡ false) →
    ((g : ℕ) → among order g ≡ true → g < length n.gates) → ((g : ℕ) → g < length n.gates → among order g ≡ true) → length (nors_of n order) ≡ nor_count n.gates
nors_counted n order once below every =
    let test : ℕ → Bool = λ g. is_nor (gate_at n g) in
    let there : length (nors_of n order) ≤ length (nor_numbers 0 n.gates) =
    apart_within (nors_of n order) (nor_numbers 0 n.gates) (filter_apart test order (apart_from_once order once))
    (λ g in_order. let both = filter_back test order g in_order in nor_numbers-there 0 n.gates g g (below g both.0) (omega arith) both.1) in
    let back : length (nor_numbers 0 n.gates) ≤ length (nors_of n order) =
    apart_within (nor_numbers 0 n.gates) (nors_of n order) (nor_numbers-apart 0 n.gates)
    (λ g is_number.
    let r = nor_numbers-back 0 n.gates g is_number in
    let same : r.0 ≡ g = omega (arith, r.1.at) in
    let P : ℕ → Type 0 = λ j. is_nor (get_or n.gates j One) ≡ true in
    among-filter test order g (every g (omega (arith, r.1.within, same))) (subst P same r.1.is)) in
    omega (arith, there, back, nor_numbers-count 0 n.gates)
