-- The order of a graph holds each gate once and after its children.
use Rattle.std.proofs.Common.{◌≡◌, ◌⊎◌, ℕ, zero, suc, ◌<◌, ◌≤◌, true, false, eqb, List, [], ◌∷◌, ◌++◌, length, get_or, take, fold, slice_index, All, inl, inr, refl, sym, ◌∙◌, ap, subst, arith}
use Rattle.std.proofs.lemmas.Bool.{cases_eq, cases_Bool, false≢true, cond_both, or_cases, or_left, or_right, eqb-true, eq-eqb}
use Rattle.std.proofs.lemmas.List.{get_or_append_left, get_or_push, length_push, take-append-le, take_all}
use Rattle.std.proofs.lemmas.List.Elements.{All-push}
use Rattle.pim_graph.specs.Graphs.{GraphView, IsGraph, has, kids_of}
use Rattle.pim_graph.specs.Orders.{visit, visited, falling_kids, order}
use Rattle.pim_graph.specs.Peaks.{IsPlaced}
use Rattle.pim_graph.specs.Usages.{insert_falling, falling, usages}
use Rattle.pim_graph.proofs.UsageSteps.{All-falling}
use Rattle.pim_graph.proofs.Visits.{AreBelow, ReadBelow}
use Rattle.pim_graph.proofs.Walks.{AreBelow-All, ReadBelow-falling}

-- lists that hold a number

pub has-append_left : (xs ys : List ℕ) (y : ℕ) → has xs y ≡ true → has (xs ++ ys) y ≡ true
has-append_left [] ys y h = absurd (false≢true h)
has-append_left (x ∷ xs) ys y h =
    elim (or_cases (eqb x y) (has xs y) h) [
      | inl e ↦ or_left (eqb x y) (has (xs ++ ys) y) e
      | inr rest ↦ or_right (eqb x y) (has (xs ++ ys) y) (has-append_left xs ys y rest)
    ]

has-push_itself : (xs : List ℕ) (y : ℕ) → has (xs ++ y ∷ []) y ≡ true
has-push_itself [] y = or_left (eqb y y) false (eq-eqb y y refl)
has-push_itself (x ∷ xs) y = or_right (eqb x y) (has (xs ++ y ∷ []) y) (has-push_itself xs y)

has-push_cases : (xs : List ℕ) (x y : ℕ) → has (xs ++ x ∷ []) y ≡ true → (has xs y ≡ true) ⊎ (x ≡ y)
has-push_cases [] x y h = elim (or_cases (eqb x y) false h) [ inl e ↦ inr (eqb-true x y e) | inr none ↦ absurd (false≢true none) ]
has-push_cases (z ∷ xs) x y h =
    elim (or_cases (eqb z y) (has (xs ++ x ∷ []) y) h) [
      | inl e ↦ inl (or_left (eqb z y) (has xs y) e)
      | inr rest ↦ elim (has-push_cases xs x y rest) [ inl old ↦ inl (or_right (eqb z y) (has xs y) old) | inr new ↦ inr new ]
    ]

pub has-get_or : (xs : List ℕ) (k d : ℕ) → k < length xs → has xs (get_or xs k d) ≡ true
has-get_or [] k d l = absurd (omega arith)
has-get_or (x ∷ xs) zero d l = or_left (eqb x x) (has xs x) (eq-eqb x x refl)
has-get_or (x ∷ xs) (suc k) d l = or_right (eqb x (get_or xs k d)) (has xs (get_or xs k d)) (has-get_or xs k d (omega arith))

-- a list by falling key holds what the list does
has-insert_old : (key : ℕ → ℕ) (ys : List ℕ) (x c : ℕ) → has ys c ≡ true → has (insert_falling key ys x) c ≡ true
has-insert_old key [] x c h = absurd (false≢true h)
has-insert_old key (y ∷ ys) x c h =
    let P : List ℕ → Type 0 = λ xs. has xs c ≡ true in
    cond_both _ (x ∷ y ∷ ys) (y ∷ insert_falling key ys x) P
    (λ _. or_right (eqb x c) (has (y ∷ ys) c) h)
    (λ _. elim (or_cases (eqb y c) (has ys c) h) [
      | inl e ↦ or_left (eqb y c) (has (insert_falling key ys x) c) e
      | inr rest ↦ or_right (eqb y c) (has (insert_falling key ys x) c) (has-insert_old key ys x c rest)
    ])

has-insert_new : (key : ℕ → ℕ) (ys : List ℕ) (x : ℕ) → has (insert_falling key ys x) x ≡ true
has-insert_new key [] x = or_left (eqb x x) false (eq-eqb x x refl)
has-insert_new key (y ∷ ys) x =
    let P : List ℕ → Type 0 = λ xs. has xs x ≡ true in
    cond_both _ (x ∷ y ∷ ys) (y ∷ insert_falling key ys x) P
    (λ _. or_left (eqb x x) (has (y ∷ ys) x) (eq-eqb x x refl))
    (λ _. or_right (eqb y x) (has (insert_falling key ys x) x) (has-insert_new key ys x))

pub has-fold_falling : (key : ℕ → ℕ) (done xs : List ℕ) (c : ℕ) → (has done c ≡ true) ⊎ (has xs c ≡ true) → has (fold (insert_falling key) done xs) c ≡ true
has-fold_falling key done [] c (inl h) = h
has-fold_falling key done [] c (inr h) = absurd (false≢true h)
has-fold_falling key done (x ∷ xs) c (inl h) = has-fold_falling key (insert_falling key done x) xs c (inl (has-insert_old key done x c h))
has-fold_falling key done (x ∷ xs) c (inr h) =
    elim (or_cases (eqb x c) (has xs c) h) [
      | inl e ↦
          let P : ℕ → Type 0 = λ y. has (insert_falling key done x) y ≡ true in
          has-fold_falling key (insert_falling key done x) xs c (inl (subst P (eqb-true x c e) (has-insert_new key done x)))
      | inr rest ↦ has-fold_falling key (insert_falling key done x) xs c (inr rest)
    ]

-- what was emitted so far: gates of the first n, each once and after its children
pub record IsSoFar (n : ℕ) (kids : ℕ → List ℕ) (out : List ℕ) : Type 0 where
  pub there : All (λ x. x < n) out
  pub once : (p : ℕ) → p < length out → has (take p out) (get_or out p 0) ≡ false
  pub after : (p c : ℕ) → p < length out → has (kids (get_or out p 0)) c ≡ true → has (take p out) c ≡ true

nothing_yet : (n : ℕ) (kids : ℕ → List ℕ) → IsSoFar n kids []
nothing_yet n kids = record {
  there = λ k d l. absurd (omega arith);
  once = λ p l. absurd (omega arith);
  after = λ p c l h. absurd (omega arith);
}

-- one gate more, whose children were all emitted
emitted : (n : ℕ) (kids : ℕ → List ℕ) (out : List ℕ) (x : ℕ) → IsSoFar n kids out → x < n → has out x ≡ false → ((c : ℕ) → has (kids x) c ≡ true → has out c ≡ true) → IsSoFar n kids (out ++ x ∷ [])
emitted n kids out x so_far below absent children = record {
  there = All-push (λ y. y < n) out x so_far.there below;
  once = λ p l. elim (cases_eq p (length out)) [
    | inl e ↦
        let P : ℕ → Type 0 = λ q. has (take q (out ++ x ∷ [])) (get_or (out ++ x ∷ []) q 0) ≡ false in
        subst P (sym e) (ap (λ (ys : List ℕ). has ys (get_or (out ++ x ∷ []) (length out) 0)) before ∙ (ap (has out) last ∙ absent))
    | inr ne ↦
        let old : p < length out = omega (arith, length_push out x) in
        ap (λ (ys : List ℕ). has ys (get_or (out ++ x ∷ []) p 0)) (front p old) ∙ (ap (has (take p out)) (get_or_append_left out (x ∷ []) 0 p old) ∙ so_far.once p old)
  ];
  after = λ p c l h. elim (cases_eq p (length out)) [
    | inl e ↦
        let P : ℕ → Type 0 = λ q. has (take q (out ++ x ∷ [])) c ≡ true in
        let Q : ℕ → Type 0 = λ q. has (kids (get_or (out ++ x ∷ []) q 0)) c ≡ true in
        let R : ℕ → Type 0 = λ y. has (kids y) c ≡ true in
        subst P (sym e) (ap (λ (ys : List ℕ). has ys c) before ∙ children c (subst R last (subst Q e h)))
    | inr ne ↦
        let old : p < length out = omega (arith, length_push out x) in
        let R : ℕ → Type 0 = λ y. has (kids y) c ≡ true in
        ap (λ (ys : List ℕ). has ys c) (front p old) ∙ so_far.after p c old (subst R (get_or_append_left out (x ∷ []) 0 p old) h)
  ];
}
  where
    last : get_or (out ++ x ∷ []) (length out) 0 ≡ x
    last = get_or_push out x 0 (length out) refl

    front : (p : ℕ) → p < length out → take p (out ++ x ∷ []) ≡ take p out
    front p old = take-append-le p out (x ∷ []) (omega arith)

    before : take (length out) (out ++ x ∷ []) ≡ out
    before = take-append-le (length out) out (x ∷ []) (omega arith) ∙ take_all (length out) out (omega arith)

-- what a visit of a gate does
pub record IsVisit (n : ℕ) (kids : ℕ → List ℕ) (x : ℕ) (out new : List ℕ) : Type 0 where
  pub so_far : IsSoFar n kids new
  pub emits : has new x ≡ true
  pub keeps : (y : ℕ) → has out y ≡ true → has new y ≡ true
  pub adds : (y : ℕ) → has new y ≡ true → (has out y ≡ true) ⊎ (y ≤ x)

-- what visits of some gates below one do
pub record AreVisits (n : ℕ) (kids : ℕ → List ℕ) (m : ℕ) (cs : List ℕ) (out new : List ℕ) : Type 0 where
  pub so_far : IsSoFar n kids new
  pub emit : (c : ℕ) → has cs c ≡ true → has new c ≡ true
  pub keep : (y : ℕ) → has out y ≡ true → has new y ≡ true
  pub add : (y : ℕ) → has new y ≡ true → (has out y ≡ true) ⊎ (y < m)

visits : (n : ℕ) (kids : ℕ → List ℕ) (f : List ℕ → ℕ → List ℕ) (m : ℕ) → ((c : ℕ) → c < m → (out : List ℕ) → IsSoFar n kids out → IsVisit n kids c out (f out c)) → (cs : List ℕ) → AreBelow m cs → (out : List ℕ) → IsSoFar n kids out → AreVisits n kids m cs out (fold f out cs)
visits n kids f m each [] below out so_far = record {
  so_far = so_far;
  emit = λ c h. absurd (false≢true h);
  keep = λ y h. h;
  add = λ y h. inl h;
}
visits n kids f m each (c ∷ cs) below out so_far =
    let first = each c below.0 out so_far in
    let rest = visits n kids f m each cs below.1 (f out c) first.so_far in
    let low : c < m = below.0 in
    record {
      so_far = rest.so_far;
      emit = λ d h. elim (or_cases (eqb c d) (has cs d) h) [
        | inl e ↦ let P : ℕ → Type 0 = λ y. has (f out c) y ≡ true in rest.keep d (subst P (eqb-true c d e) first.emits)
        | inr later ↦ rest.emit d later
      ];
      keep = λ y h. rest.keep y (first.keeps y h);
      add = λ y h. elim (rest.add y h) [
        | inl mid ↦ elim (first.adds y mid) [ inl old ↦ inl old | inr le ↦ inr (omega arith) ]
        | inr lt ↦ inr lt
      ];
    }

visit_does : (n : ℕ) (kids : ℕ → List ℕ) → ReadBelow kids → (depth x : ℕ) → x < depth → x < n → (out : List ℕ) → IsSoFar n kids out → IsVisit n kids x out (visit kids depth out x)
visit_does n kids below zero x deep there out so_far = absurd (omega arith)
visit_does n kids below (suc depth) x deep there out so_far =
    let new = fold (visit kids depth) out (kids x) in
    let P : List ℕ → Type 0 = IsVisit n kids x out in
    cond_both (has out x) out (new ++ x ∷ []) P
    (λ present. record { so_far = so_far; emits = present; keeps = λ y h. h; adds = λ y h. inl h })
    (λ absent.
    let all = visits n kids (visit kids depth) x (λ c l o s. visit_does n kids below depth c (omega arith) (omega arith) o s) (kids x) (below x) out so_far in
    let still : has new x ≡ false = elim (cases_Bool (has new x)) [
      | inl is ↦ elim (all.add x is) [ inl old ↦ absurd (false≢true (sym absent ∙ old)) | inr lt ↦ absurd (omega arith) ]
      | inr isnt ↦ isnt
    ] in
    record {
      so_far = emitted n kids new x all.so_far there still all.emit;
      emits = has-push_itself new x;
      keeps = λ y h. has-append_left new (x ∷ []) y (all.keep y h);
      adds = λ y h. elim (has-push_cases new x y h) [
        | inl mid ↦ elim (all.add y mid) [ inl old ↦ inl old | inr lt ↦ inr (omega arith) ]
        | inr e ↦ inr (omega arith)
      ];
    })

-- the order of a graph visits its roots
pub order_visits : (g : GraphView) → IsGraph g → AreVisits (length g.kids) (falling_kids g) (length g.kids) (falling (slice_index (usages g)) g.roots) [] (order g)
order_visits g sound =
    let n = length g.kids in
    let kids = falling_kids g in
    let below : ReadBelow kids = ReadBelow-falling g sound (slice_index (usages g)) in
    let roots = falling (slice_index (usages g)) g.roots in
    let roots_below : AreBelow n roots = AreBelow-All n roots (All-falling (λ r. r < n) (slice_index (usages g)) g.roots sound.roots_there) in
    visits n kids (visited kids) n (λ c l o s. visit_does n kids below (suc c) c (omega arith) l o s) roots roots_below [] (nothing_yet n kids)

-- it holds its gates alone, each once and after its children
pub order-IsPlaced : (g : GraphView) → IsGraph g → IsPlaced g (order g)
order-IsPlaced g sound =
    let all = order_visits g sound in
    record {
      there = all.so_far.there;
      once = all.so_far.once;
      after = λ p l. λ k d m. all.so_far.after p (get_or (kids_of g (get_or (order g) p 0)) k d) l (has-fold_falling (slice_index (usages g)) [] (kids_of g (get_or (order g) p 0)) (get_or (kids_of g (get_or (order g) p 0)) k d) (inr (has-get_or (kids_of g (get_or (order g) p 0)) k d m)));
    }
