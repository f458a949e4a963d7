-- No order of a tree holds fewer gates at once than the usage of its root. For each gate there is a place of the order at which
-- the gates under it hold as many cells as its usage: of the places of its children with the greatest usages, the latest.
use Rattle.std.proofs.Common.{◌≡◌, ◌⊎◌, ℕ, ◌+◌, ◌<◌, ◌≤◌, zero, suc, Bool, true, false, cond, eqb, nat_lt, not, ◌&&◌, ◌||◌, List, [], ◌∷◌, ◌++◌, length, get_or, take, drop, count_by, map, refl, sym, ◌∙◌, ap, subst, arith, inl, inr, slice_index, length-drop, add-one}
use Rattle.std.specs.List.{flat_map}
use Rattle.std.proofs.lemmas.Bool.{cases_eq, cases_lt, cases_Bool, false≢true, eq-eqb, eqb-true, ne_eqb, or_cases, or_left, or_right}
use Rattle.std.proofs.lemmas.List.{take_more, drop_more, take_all, get_or-drop}
use Rattle.std.proofs.lemmas.List.Sums.{sum_by-append}
use Rattle.pim_graph.specs.Graphs.{GraphView, IsGraph, has, kids_of}
use Rattle.pim_graph.specs.Peaks.{needed, read_by, peak}
use Rattle.pim_graph.specs.Readers.{occurrences}
use Rattle.pim_graph.specs.Trees.{IsOrdering}
use Rattle.pim_graph.specs.Usages.{most_raised, usages}
use Rattle.pim_graph.proofs.Fallings.{usage_is, occ_falling}
use Rattle.pim_graph.proofs.Orderings.{has-append_left, has-get_or}
use Rattle.pim_graph.proofs.Peaking.{peak_bounds}
use Rattle.pim_graph.proofs.Placing.{count_push}
use Rattle.pim_graph.proofs.ReadLemmas.{has-occurrences, count_same, count_differs, one_at_most}
use Rattle.pim_graph.proofs.Reaching.{IsAt, All-has, place_of, has-earlier, has-later, reader_behind, read_by-has}
use Rattle.pim_graph.proofs.StableSorts.{AreAtMost, Falls, Falls-fold}
use Rattle.pim_graph.proofs.Sweeps.{cu, needed_behind}
use Rattle.pim_graph.proofs.TreeShapes.{IsReadOnce, below_has}
use Rattle.pim_graph.proofs.Unders.{under, under_is, fk, fk_below, single}

-- sums along lists

abbrev sums : (ℕ → ℕ) → List ℕ → ℕ
sums f [] = 0
sums f (x ∷ xs) = f x + sums f xs

sums-take : (f : ℕ → ℕ) (i : ℕ) (xs : List ℕ) → sums f (take i xs) ≤ sums f xs
sums-take f zero xs = omega arith
sums-take f (suc i) [] = omega arith
sums-take f (suc i) (x ∷ xs) = omega (arith, sums-take f i xs)

member-le : (f : ℕ → ℕ) (xs : List ℕ) (c : ℕ) → has xs c ≡ true → f c ≤ sums f xs
member-le f [] c h = absurd (false≢true h)
member-le f (x ∷ xs) c h = elim (or_cases (eqb x c) (has xs c) h) [
  | inl e ↦ let same = ap f (eqb-true x c e) in omega arith
  | inr rest ↦ omega (arith, member-le f xs c rest)
]

each_one : (f : ℕ → ℕ) (xs : List ℕ) → ((c : ℕ) → has xs c ≡ true → 1 ≤ f c) → length xs ≤ sums f xs
each_one f [] h = omega arith
each_one f (x ∷ xs) h =
    let first = h x (or_left (eqb x x) (has xs x) (eq-eqb x x refl)) in
    let rest = each_one f xs (λ c k. h c (or_right (eqb x c) (has xs c) k)) in
    omega arith

-- where each has one and one of them more, the sum has all of it
spread : (f : ℕ → ℕ) (xs : List ℕ) (m v : ℕ) → ((c : ℕ) → has xs c ≡ true → 1 ≤ f c) → has xs m ≡ true → v ≤ f m → v + length xs ≤ sums f xs + 1
spread f [] m v each h le = absurd (false≢true h)
spread f (x ∷ xs) m v each h le =
    let first = each x (or_left (eqb x x) (has xs x) (eq-eqb x x refl)) in
    let others : (c : ℕ) → has xs c ≡ true → 1 ≤ f c = λ c k. each c (or_right (eqb x c) (has xs c) k) in
    elim (or_cases (eqb x m) (has xs m) h) [
      | inl e ↦ let same = ap f (eqb-true x m e) in let rest = each_one f xs others in omega arith
      | inr there ↦ let rest = spread f xs m v others there le in omega arith
    ]

-- the usage that decides

raised_at : (h : ℕ) (us : List ℕ) → 0 < most_raised h us → (i : ℕ) × (i < length us) × (most_raised h us ≡ get_or us i 0 + h + i)
raised_at h [] some = absurd (omega arith)
raised_at h (u ∷ us) some = elim (cases_lt (u + h) (most_raised (suc h) us)) [
  | inl lt ↦
      let (i, within, is) = raised_at (suc h) us (omega arith) in
      (suc i, omega arith, omega arith)
  | inr le ↦ (0, omega arith, omega arith)
]

get_or-mapped : (f : ℕ → ℕ) (xs : List ℕ) (i : ℕ) → i < length xs → get_or (map f xs) i 0 ≡ f (get_or xs i 0)
get_or-mapped f [] i l = absurd (omega arith)
get_or-mapped f (x ∷ xs) zero l = refl
get_or-mapped f (x ∷ xs) (suc i) l = get_or-mapped f xs i (omega arith)

length-mapped : (f : ℕ → ℕ) (xs : List ℕ) → length (map f xs) ≡ length xs
length-mapped f [] = refl
length-mapped f (x ∷ xs) = omega (arith, length-mapped f xs)

most_at : (key : ℕ → ℕ) (n : ℕ) (xs : List ℕ) → AreAtMost key n xs → (i : ℕ) → i < length xs → key (get_or xs i 0) ≤ n
most_at key n [] h i l = absurd (omega arith)
most_at key n (x ∷ xs) h zero l = h.0
most_at key n (x ∷ xs) h (suc i) l = most_at key n xs h.1 i (omega arith)

-- in a falling list each number up to a place has at least the key there
falls_front : (key : ℕ → ℕ) (xs : List ℕ) → Falls key xs → (i : ℕ) → i < length xs → (c : ℕ) → has (take (suc i) xs) c ≡ true → key (get_or xs i 0) ≤ key c
falls_front key [] f i l c h = absurd (omega arith)
falls_front key (x ∷ xs) f zero l c h = elim (or_cases (eqb x c) false h) [
  | inl e ↦ let same = ap key (eqb-true x c e) in omega arith
  | inr none ↦ absurd (false≢true none)
]
falls_front key (x ∷ xs) f (suc i) l c h = elim (or_cases (eqb x c) (has (take (suc i) xs) c) h) [
  | inl e ↦ let same = ap key (eqb-true x c e) in let most = most_at key (key x) xs f.0 i (omega arith) in omega arith
  | inr rest ↦ falls_front key xs f.1 i (omega arith) c rest
]

has-front : (i : ℕ) (xs : List ℕ) (c : ℕ) → has (take i xs) c ≡ true → has xs c ≡ true
has-front zero xs c h = absurd (false≢true h)
has-front (suc i) [] c h = absurd (false≢true h)
has-front (suc i) (x ∷ xs) c h = elim (or_cases (eqb x c) (has (take i xs) c) h) [
  | inl e ↦ or_left (eqb x c) (has xs c) e
  | inr rest ↦ or_right (eqb x c) (has xs c) (has-front i xs c rest)
]

length-front : (i : ℕ) (xs : List ℕ) → i ≤ length xs → length (take i xs) ≡ i
length-front zero xs h = refl
length-front (suc i) [] h = absurd (omega arith)
length-front (suc i) (x ∷ xs) h = omega (arith, length-front i xs (omega arith))

-- lists that hold a number

has-append_right : (xs ys : List ℕ) (y : ℕ) → has ys y ≡ true → has (xs ++ ys) y ≡ true
has-append_right [] ys y h = h
has-append_right (x ∷ xs) ys y h = or_right (eqb x y) (has (xs ++ ys) y) (has-append_right xs ys y h)

has-append_cases : (xs ys : List ℕ) (y : ℕ) → has (xs ++ ys) y ≡ true → (has xs y ≡ true) ⊎ (has ys y ≡ true)
has-append_cases [] ys y h = inr h
has-append_cases (x ∷ xs) ys y h = elim (or_cases (eqb x y) (has (xs ++ ys) y) h) [
  | inl e ↦ inl (or_left (eqb x y) (has xs y) e)
  | inr rest ↦ elim (has-append_cases xs ys y rest) [ inl front ↦ inl (or_right (eqb x y) (has xs y) front) | inr back ↦ inr back ]
]

-- counts

count_append : (q : ℕ → Bool) (xs ys : List ℕ) → count_by q (xs ++ ys) ≡ count_by q xs + count_by q ys
count_append q xs ys = sum_by-append (λ v. cond (q v) 1 0) xs ys

count_flat : (q : ℕ → Bool) (f : ℕ → List ℕ) (cs : List ℕ) → count_by q (flat_map f cs) ≡ sums (λ c. count_by q (f c)) cs
count_flat q f [] = refl
count_flat q f (c ∷ cs) = omega (arith, count_append q (f c) (flat_map f cs), count_flat q f cs)

both : (a b : Bool) → (a && not b) ≡ true → (a ≡ true) × (b ≡ false)
both true true h = absurd (false≢true h)
both true false h = (refl, refl)
both false b h = absurd (false≢true h)

neither : (a b : Bool) → (a && not b) ≡ false → (true && a) ≡ (b && a)
neither true true h = refl
neither true false h = absurd (false≢true (sym h))
neither false true h = refl
neither false false h = refl

count_none : (xs : List ℕ) → count_by (λ y. false) xs ≡ 0
count_none [] = refl
count_none (x ∷ xs) = omega (arith, count_append (λ y. false) (x ∷ []) xs, count_none xs)

-- of numbers that stand once, no more are among some than these are
inner : (q : ℕ → Bool) (l : List ℕ) → ((y : ℕ) → occurrences l y ≤ 1) → (m : List ℕ) → count_by (λ y. has m y && q y) l ≤ count_by q m
inner q l once [] = let none = count_none l in omega arith
inner q l once (c ∷ m) =
    let more = inner q l once m in
    let whole = count_append q (c ∷ []) m in
    let most = once c in
    elim (cases_Bool (q c && not (has m c))) [
      | inl new ↦
          let parts = both (q c) (has m c) new in
          let bit = ap (λ (b : Bool). cond {A = ℕ} b 1 0) parts.0 in
          let first : ((eqb c c || has m c) && q c) ≡ true = rw (eq-eqb c c refl, parts.0) refl in
          let second : (has m c && q c) ≡ false = rw parts.1 refl in
          let differ = count_differs (λ y. has (c ∷ m) y && q y) (λ y. has m y && q y) c (λ y ne. let other : eqb c y ≡ false = ne_eqb c y (λ e. ne (sym e)) in rw other refl) first second l in
          omega arith
      | inr old ↦
          let same = count_same (λ y. has (c ∷ m) y && q y) (λ y. has m y && q y) (λ y. elim (cases_eq c y) [
            | inl e ↦ subst (λ (z : ℕ). ((eqb c z || has m z) && q z) ≡ (has m z && q z)) e (rw (eq-eqb c c refl) (neither (q c) (has m c) old))
            | inr ne ↦ let other : eqb c y ≡ false = ne_eqb c y ne in rw other refl
          ]) l in
          omega arith
    ]

module _ (g : GraphView) (sound : IsGraph g) (r : ℕ) (roots : g.roots ≡ r ∷ []) (last : r + 1 ≡ length g.kids) (read_once : IsReadOnce g r) (o : List ℕ) (is : IsOrdering g o) where
  abbrev kids : ℕ → List ℕ
  kids = fk g sound

  abbrev below : ℕ → List ℕ
  below = under kids

  -- a gate is held at a place: it stands there or before, and is needed from there on
  abbrev held_at : ℕ → ℕ → Bool
  held_at p y = has (take (suc p) o) y && needed g (drop p o) y

  -- how many of the gates under one are held at a place
  abbrev held : ℕ → ℕ → ℕ
  held x p = count_by (held_at p) (below x)

  -- what is held under a gate is held under its children, or it is the gate
  split : (x p : ℕ) → held x p ≡ sums (λ c. held c p) (kids x) + cond (held_at p x) 1 0
  split x p =
      let whole = ap (count_by (held_at p)) (under_is kids (fk_below g sound) x) in
      let pushed = count_push (held_at p) (flat_map below (kids x)) x in
      let flat = count_flat (held_at p) below (kids x) in
      omega arith

  -- the children by falling usage are the children
  child_of : (x c : ℕ) → has (kids x) c ≡ true → has (kids_of g x) c ≡ true
  child_of x c h =
      let same = occ_falling (slice_index (usages g)) (kids_of g x) c in
      has-occurrences (kids_of g x) c ∙ (ap (λ (n : ℕ). nat_lt 0 n) (sym same) ∙ (sym (has-occurrences (kids x) c) ∙ h))

  under_child : (x c y : ℕ) → has (kids x) c ≡ true → has (below c) y ≡ true → has (below x) y ≡ true
  under_child x c y h k =
      ap (λ (xs : List ℕ). has xs y) (under_is kids (fk_below g sound) x) ∙ has-append_left (flat_map below (kids x)) (x ∷ []) y (along (kids x) h)
    where
      along : (cs : List ℕ) → has cs c ≡ true → has (flat_map below cs) y ≡ true
      along [] e = absurd (false≢true e)
      along (d ∷ cs) e = elim (or_cases (eqb d c) (has cs c) e) [
        | inl same ↦ has-append_left (below d) (flat_map below cs) y (subst (λ (z : ℕ). has (below z) y ≡ true) (sym (eqb-true d c same)) k)
        | inr rest ↦ has-append_right (below d) (flat_map below cs) y (along cs rest)
      ]

  under_cases : (x y : ℕ) → has (below x) y ≡ true → ((c : ℕ) × (has (kids x) c ≡ true) × (has (below c) y ≡ true)) ⊎ (x ≡ y)
  under_cases x y h = elim (has-append_cases (flat_map below (kids x)) (x ∷ []) y (sym (ap (λ (xs : List ℕ). has xs y) (under_is kids (fk_below g sound) x)) ∙ h)) [
    | inl flat ↦ inl (along (kids x) flat)
    | inr itself ↦ elim (or_cases (eqb x y) false itself) [ inl e ↦ inr (eqb-true x y e) | inr none ↦ absurd (false≢true none) ]
  ]
    where
      along : (cs : List ℕ) → has (flat_map below cs) y ≡ true → (c : ℕ) × (has cs c ≡ true) × (has (below c) y ≡ true)
      along [] e = absurd (false≢true e)
      along (d ∷ cs) e = elim (has-append_cases (below d) (flat_map below cs) y e) [
        | inl first ↦ (d, or_left (eqb d d) (has cs d) (eq-eqb d d refl), first)
        | inr rest ↦ let (c, there, k) = along cs rest in (c, or_right (eqb d c) (has cs c) there, k)
      ]

  under_itself : (x : ℕ) → has (below x) x ≡ true
  under_itself x = ap (λ (xs : List ℕ). has xs x) (under_is kids (fk_below g sound) x) ∙ has-append_right (flat_map below (kids x)) (x ∷ []) x (or_left (eqb x x) false (eq-eqb x x refl))

  low_child : (x c : ℕ) → has (kids x) c ≡ true → c < x
  low_child x c h = below_has x (kids x) (fk_below g sound x) c h

  -- a gate stands behind each child that does
  ahead : (p x c : ℕ) → x < length g.kids → has (kids x) c ≡ true → has (drop p o) c ≡ true → has (drop p o) x ≡ true
  ahead p x c there h k =
      let (q, at) = place_of (drop p o) c k in
      let inside = at.within in
      let long = length-drop p o in
      let is_c : get_or o (p + q) 0 ≡ c = sym (get_or-drop p o q 0) ∙ at.is in
      let (s, at_s) = place_of o x (is.whole x there) in
      let inside_s = at_s.within in
      let reads : has (kids_of g (get_or o s 0)) (get_or o (p + q) 0) ≡ true = subst (λ (z : ℕ). has (kids_of g z) (get_or o (p + q) 0) ≡ true) (sym at_s.is) (subst (λ (z : ℕ). has (kids_of g x) z ≡ true) (sym is_c) (child_of x c h)) in
      let behind = reader_behind g o is.placed (p + q) s (omega arith) inside_s reads in
      subst (λ (z : ℕ). has (drop p o) z ≡ true) at_s.is (has-later o p s (omega arith) inside_s)

  -- what stands at a place up to another is in the front up to that one
  earlier : (p s : ℕ) → s < length o → s ≤ p → has (take (suc p) o) (get_or o s 0) ≡ true
  earlier p s l le = elim (cases_lt p (length o)) [
    | inl within ↦ has-earlier o (suc p) s (omega arith) (omega arith)
    | inr past ↦ ap (λ (xs : List ℕ). has xs (get_or o s 0)) (take_all (suc p) o (omega arith)) ∙ has-get_or o s 0 l
  ]

  -- under a gate that is needed, once one has begun, one is held
  pub some_below : (n x p y : ℕ) → x < n → x < length g.kids → needed g (drop p o) x ≡ true → has (below x) y ≡ true → has (take (suc p) o) y ≡ true → 1 ≤ held x p
  some_below zero x p y l there need h begun = absurd (omega arith)
  some_below (suc n) x p y l there need h begun = elim (cases_Bool (has (take (suc p) o) x)) [
    | inl here ↦
        let on : held_at p x ≡ true = rw (here, need) refl in
        let bit = ap (λ (b : Bool). cond {A = ℕ} b 1 0) on in
        let whole = split x p in
        omega arith
    | inr not_yet ↦ elim (under_cases x y h) [
      | inl (c, child, deep) ↦
          let (s, at_s) = place_of o x (is.whole x there) in
          let inside_s = at_s.within in
          let late : p < s = elim (cases_lt p s) [
            | inl lt ↦ lt
            | inr le ↦ absurd (false≢true (sym not_yet ∙ subst (λ (z : ℕ). has (take (suc p) o) z ≡ true) at_s.is (earlier p s inside_s le)))
          ] in
          let later : has (drop p o) x ≡ true = subst (λ (z : ℕ). has (drop p o) z ≡ true) at_s.is (has-later o p s (omega arith) inside_s) in
          let low = low_child x c child in
          let wanted : needed g (drop p o) c ≡ true = or_left (read_by g (drop p o) c) (has g.roots c) (read_by-has g (drop p o) x c later (child_of x c child)) in
          let one = some_below n c p y (omega arith) (omega arith) wanted deep begun in
          let sum = member-le (λ d. held d p) (kids x) c child in
          let whole = split x p in
          omega arith
      | inr e ↦ absurd (false≢true (sym not_yet ∙ subst (λ (z : ℕ). has (take (suc p) o) z ≡ true) (sym e) begun))
    ]
  ]

  -- a place at which the gates under one hold as many cells as its usage
  record IsLow (x p : ℕ) : Type 0 where
    within : p < length o
    begun : has (below x) (get_or o p 0) ≡ true
    ahead_of : has (drop p o) x ≡ true
    enough : cu g sound x ≤ held x p

  -- a place of one of these, and for each of the others one that isn't later
  record IsLatest (ds : List ℕ) (m p : ℕ) : Type 0 where
    among : has ds m ≡ true
    low : IsLow m p
    others : (c : ℕ) → has ds c ≡ true → (q : ℕ) × IsLow c q × (q ≤ p)

  latest : (d : ℕ) (ds : List ℕ) → ((c : ℕ) → has (d ∷ ds) c ≡ true → (p : ℕ) × IsLow c p) → (m : ℕ) × (p : ℕ) × IsLatest (d ∷ ds) m p
  latest d [] places =
      let here : has (d ∷ []) d ≡ true = or_left (eqb d d) false (eq-eqb d d refl) in
      let (p, low) = places d here in
      (d, p, record { among = here; low = low; others = λ c h. only d p low c h })
    where
      only : (d p : ℕ) → IsLow d p → (c : ℕ) → has (d ∷ []) c ≡ true → (q : ℕ) × IsLow c q × (q ≤ p)
      only d p low c h = elim (or_cases (eqb d c) false h) [
        | inl e ↦ (p, subst (λ (z : ℕ). IsLow z p) (eqb-true d c e) low, omega arith)
        | inr none ↦ absurd (false≢true none)
      ]
  latest d (e ∷ ds) places =
      let (m, p, rest) = latest e ds (λ c h. places c (or_right (eqb d c) (has (e ∷ ds) c) h)) in
      let (q, low) = places d (or_left (eqb d d) (has (e ∷ ds) d) (eq-eqb d d refl)) in
      elim (cases_lt p q) [
        | inl later ↦ (d, q, record { among = or_left (eqb d d) (has (e ∷ ds) d) (eq-eqb d d refl); low = low; others = λ c h. new_last m p q rest low later c h })
        | inr sooner ↦ (m, p, record { among = or_right (eqb d m) (has (e ∷ ds) m) rest.among; low = rest.low; others = λ c h. old_last m p q rest low sooner c h })
      ]
    where
      new_last : (m p q : ℕ) → IsLatest (e ∷ ds) m p → IsLow d q → p < q → (c : ℕ) → has (d ∷ e ∷ ds) c ≡ true → (s : ℕ) × IsLow c s × (s ≤ q)
      new_last m p q rest low later c h = elim (or_cases (eqb d c) (has (e ∷ ds) c) h) [
        | inl same ↦ (q, subst (λ (z : ℕ). IsLow z q) (eqb-true d c same) low, omega arith)
        | inr old ↦ let (s, low_c, le) = rest.others c old in (s, low_c, omega arith)
      ]

      old_last : (m p q : ℕ) → IsLatest (e ∷ ds) m p → IsLow d q → q ≤ p → (c : ℕ) → has (d ∷ e ∷ ds) c ≡ true → (s : ℕ) × IsLow c s × (s ≤ p)
      old_last m p q rest low sooner c h = elim (or_cases (eqb d c) (has (e ∷ ds) c) h) [
        | inl same ↦ (q, subst (λ (z : ℕ). IsLow z q) (eqb-true d c same) low, sooner)
        | inr old ↦ rest.others c old
      ]

  -- a gate's own place, where its children hold a cell each
  own_place : (x : ℕ) → x < length g.kids → cu g sound x ≤ length (kids x) + 1 → (p : ℕ) × IsLow x p
  own_place x there le =
      let (p, at) = place_of o x (is.whole x there) in
      let within = at.within in
      let later : has (drop p o) x ≡ true = subst (λ (z : ℕ). has (drop p o) z ≡ true) at.is (has-later o p p (omega arith) within) in
      let here : has (take (suc p) o) x ≡ true = subst (λ (z : ℕ). has (take (suc p) o) z ≡ true) at.is (earlier p p within (omega arith)) in
      let behind : needed g (drop (p + 1) o) x ≡ true = subst (λ (z : ℕ). needed g (drop (p + 1) o) z ≡ true) at.is (needed_behind g sound r roots last read_once o is p within) in
      let need : needed g (drop p o) x ≡ true = ap (λ (xs : List ℕ). needed g xs x) (drop_more o p 0 within) ∙ needed_more (get_or o p 0) (drop (p + 1) o) x behind in
      let on : held_at p x ≡ true = rw (here, need) refl in
      let bit = ap (λ (b : Bool). cond {A = ℕ} b 1 0) on in
      let each = each_one (λ c. held c p) (kids x) (λ c h. child_holds x p c at h later) in
      let whole = split x p in
      (p, record { within = within; begun = subst (λ (z : ℕ). has (below x) z ≡ true) (sym at.is) (under_itself x); ahead_of = later; enough = omega arith })
    where
      needed_more : (z : ℕ) (zs : List ℕ) (y : ℕ) → needed g zs y ≡ true → needed g (z ∷ zs) y ≡ true
      needed_more z zs y h = elim (or_cases (read_by g zs y) (has g.roots y) h) [
        | inl read ↦ or_left (has (kids_of g z) y || read_by g zs y) (has g.roots y) (or_right (has (kids_of g z) y) (read_by g zs y) read)
        | inr root ↦ or_right (has (kids_of g z) y || read_by g zs y) (has g.roots y) root
      ]

      child_holds : (x p c : ℕ) → IsAt o x p → has (kids x) c ≡ true → has (drop p o) x ≡ true → 1 ≤ held c p
      child_holds x p c at h later =
          let low = low_child x c h in
          let reads : has (kids_of g (get_or o p 0)) c ≡ true = subst (λ (z : ℕ). has (kids_of g z) c ≡ true) (sym at.is) (child_of x c h) in
          let before : has (take p o) c ≡ true = All-has (λ d. has (take p o) d ≡ true) (kids_of g (get_or o p 0)) (is.placed.after p at.within) c reads in
          let grown : has (take (suc p) o) c ≡ true = ap (λ (n : ℕ). has (take n o) c) (sym (add-one p)) ∙ ap (λ (xs : List ℕ). has xs c) (take_more o p 0 at.within) ∙ has-append_left (take p o) (get_or o p 0 ∷ []) c before in
          let there : x < length g.kids = subst (λ (z : ℕ). z < length g.kids) at.is (is.placed.there p 0 at.within) in
          let wanted : needed g (drop p o) c ≡ true = or_left (read_by g (drop p o) c) (has g.roots c) (read_by-has g (drop p o) x c later (child_of x c h)) in
          some_below (suc c) c p c (omega arith) (omega arith) wanted (under_itself c) grown

  -- the latest of the places of the first children, whose greatest usages decide
  childs_place : (x i : ℕ) → x < length g.kids → i < length (kids x) → cu g sound x ≡ cu g sound (get_or (kids x) i 0) + i → ((c : ℕ) → has (kids x) c ≡ true → (p : ℕ) × IsLow c p) → (p : ℕ) × IsLow x p
  childs_place x i there l decides places = first (take (suc i) (kids x)) (length-front (suc i) (kids x) (omega arith)) (λ c h. has-front (suc i) (kids x) c h) (λ c h. falls_front (cu g sound) (kids x) (Falls-fold (cu g sound) [] (kids_of g x) tt) i l c h) (sums-take-of i)
    where
      sums-take-of : (i : ℕ) → (p : ℕ) → sums (λ c. held c p) (take (suc i) (kids x)) ≤ sums (λ c. held c p) (kids x)
      sums-take-of i p = sums-take (λ c. held c p) (suc i) (kids x)

      first : (ds : List ℕ) → length ds ≡ suc i → ((c : ℕ) → has ds c ≡ true → has (kids x) c ≡ true) → ((c : ℕ) → has ds c ≡ true → cu g sound (get_or (kids x) i 0) ≤ cu g sound c) → ((p : ℕ) → sums (λ c. held c p) ds ≤ sums (λ c. held c p) (kids x)) → (p : ℕ) × IsLow x p
      first [] count all falls part = absurd (omega arith)
      first (d ∷ ds) count all falls part =
          let (m, p, is_last) = latest d ds (λ c h. places c (all c h)) in
          let child = all m is_last.among in
          let low = is_last.low in
          let inside = low.within in
          let reader : has (drop p o) x ≡ true = ahead p x m there child low.ahead_of in
          let each : (c : ℕ) → has (d ∷ ds) c ≡ true → 1 ≤ held c p = λ c h.
          (let (q, low_c, le) = is_last.others c h in
          let k = all c h in
          let under_x = low_child x c k in
          let wanted : needed g (drop p o) c ≡ true = or_left (read_by g (drop p o) c) (has g.roots c) (read_by-has g (drop p o) x c reader (child_of x c k)) in
          some_below (suc c) c p (get_or o q 0) (omega arith) (omega arith) wanted low_c.begun (earlier p q low_c.within le)) in
          let greatest = falls m is_last.among in
          let enough_m = low.enough in
          let spread_out = spread (λ c. held c p) (d ∷ ds) m (cu g sound (get_or (kids x) i 0)) each is_last.among (omega arith) in
          let among = part p in
          let whole = split x p in
          (p, record { within = inside; begun = under_child x m (get_or o p 0) child low.begun; ahead_of = reader; enough = omega arith })

  -- each gate has such a place
  low_below : (n x : ℕ) → x < n → x < length g.kids → (p : ℕ) × IsLow x p
  low_below zero x l there = absurd (omega arith)
  low_below (suc n) x l there =
      let us = map (cu g sound) (kids x) in
      let own = usage_is g sound x there in
      let count = length-mapped (cu g sound) (kids x) in
      elim (cases_lt (length (kids x) + 1) (most_raised 0 us)) [
        | inl raised ↦
            let (i, within, at) = raised_at 0 us (omega arith) in
            let mapped = get_or-mapped (cu g sound) (kids x) i (omega arith) in
            childs_place x i there (omega arith) (omega arith) (λ c h. let low = low_child x c h in low_below n c (omega arith) (omega arith))
        | inr few ↦ own_place x there (omega arith)
      ]

  -- no order has a smaller peak than the usage of the root
  pub least : cu g sound r ≤ peak g o
  least =
      let (p, low) = low_below (suc r) r (omega arith) (omega arith) in
      let inside = low.within in
      let enough = low.enough in
      let among = inner (needed g (drop p o)) (below r) (single g sound r roots last read_once) (take (suc p) o) in
      let grown : take (suc p) o ≡ take p o ++ get_or o p 0 ∷ [] = ap (λ (n : ℕ). take n o) (sym (add-one p)) ∙ take_more o p 0 inside in
      let pushed = ap (count_by (needed g (drop p o))) grown ∙ count_push (needed g (drop p o)) (take p o) (get_or o p 0) in
      let bit = one_at_most (needed g (drop p o) (get_or o p 0)) in
      let most = peak_bounds g [] o p inside in
      omega arith
