-- The gates under one, each as often as there are ways down to it; in a tree each once, and they are its order.
use Rattle.std.proofs.Common.{◌≡◌, ℕ, ◌+◌, ◌<◌, ◌≤◌, zero, suc, Bool, true, false, cond, eqb, nat_lt, List, [], ◌∷◌, ◌++◌, length, fold, refl, sym, ◌∙◌, ap, subst, arith, append_assoc, append-nil, inl, inr, slice_index}
use Rattle.std.specs.List.{flat_map}
use Rattle.std.proofs.lemmas.Bool.{cases_eq, cases_lt, eq-eqb}
use Rattle.std.proofs.lemmas.Bool.Decides.{nat_tests}
use Rattle.pim_graph.specs.Graphs.{GraphView, IsGraph, has, kids_of}
use Rattle.pim_graph.specs.Orders.{visited, falling_kids, order}
use Rattle.pim_graph.specs.Readers.{occurrences, reads}
use Rattle.pim_graph.specs.Trees.{IsOrdering}
use Rattle.pim_graph.specs.Usages.{falling, usages}
use Rattle.pim_graph.proofs.Fallings.{occ_falling}
use Rattle.pim_graph.proofs.Orderings.{order-IsPlaced}
use Rattle.pim_graph.proofs.ReadLemmas.{has-occurrences}
use Rattle.pim_graph.proofs.TreeShapes.{IsReadOnce, reader, reader_above, reads_reader, last_unread}
use Rattle.pim_graph.proofs.Visits.{AreBelow, ReadBelow, visited_is}
use Rattle.pim_graph.proofs.Walks.{ReadBelow-falling}

-- the gates under one, and then that one; the number bounds how deep they are
abbrev pub unders : (ℕ → List ℕ) → ℕ → ℕ → List ℕ
unders kids zero x = []
unders kids (suc depth) x = flat_map (unders kids depth) (kids x) ++ x ∷ []

abbrev pub under : (ℕ → List ℕ) → ℕ → List ℕ
under kids x = unders kids (suc x) x

flat_same : (f k : ℕ → List ℕ) (n : ℕ) → ((c : ℕ) → c < n → f c ≡ k c) → (cs : List ℕ) → AreBelow n cs → flat_map f cs ≡ flat_map k cs
flat_same f k n same [] b = refl
flat_same f k n same (c ∷ cs) b = ap (λ (xs : List ℕ). xs ++ flat_map f cs) (same c b.0) ∙ ap (λ (xs : List ℕ). k c ++ xs) (flat_same f k n same cs b.1)

unders_same : (kids : ℕ → List ℕ) → ReadBelow kids → (n m x : ℕ) → x < n → x < m → unders kids n x ≡ unders kids m x
unders_same kids below zero m x h k = absurd (omega arith)
unders_same kids below (suc n) zero x h k = absurd (omega arith)
unders_same kids below (suc n) (suc m) x h k =
    ap (λ (xs : List ℕ). xs ++ x ∷ []) (flat_same (unders kids n) (unders kids m) x (λ c l. unders_same kids below n m c (omega arith) (omega arith)) (kids x) (below x))

pub under_is : (kids : ℕ → List ℕ) → ReadBelow kids → (x : ℕ) → under kids x ≡ flat_map (under kids) (kids x) ++ x ∷ []
under_is kids below x =
    ap (λ (xs : List ℕ). xs ++ x ∷ []) (flat_same (unders kids x) (under kids) x (λ c l. unders_same kids below x (suc c) c l (omega arith)) (kids x) (below x))

-- counts along lists

pub occ_append : (xs ys : List ℕ) (y : ℕ) → occurrences (xs ++ ys) y ≡ occurrences xs y + occurrences ys y
occ_append [] ys y = omega arith
occ_append (x ∷ xs) ys y = omega (arith, occ_append xs ys y)

pub reads_append : (g : GraphView) (xs ys : List ℕ) (y : ℕ) → reads g (xs ++ ys) y ≡ reads g xs y + reads g ys y
reads_append g [] ys y = omega arith
reads_append g (x ∷ xs) ys y = omega (arith, reads_append g xs ys y)

module _ (g : GraphView) (sound : IsGraph g) where
  abbrev pub fk : ℕ → List ℕ
  fk = falling_kids g

  pub fk_below : ReadBelow fk
  fk_below = ReadBelow-falling g sound (slice_index (usages g))

  -- a gate stands as often under one as gates there read it, and once more if it is that one
  under_reads_below : (n x y : ℕ) → x < n → occurrences (under fk x) y ≡ cond (eqb x y) 1 0 + reads g (under fk x) y
  under_reads_below zero x y l = absurd (omega arith)
  under_reads_below (suc n) x y l =
      let flat = flat_map (under fk) (fk x) in
      let whole = under_is fk fk_below x in
      let occ = ap (λ (xs : List ℕ). occurrences xs y) whole ∙ occ_append flat (x ∷ []) y in
      let red = ap (λ (xs : List ℕ). reads g xs y) whole ∙ reads_append g flat (x ∷ []) y in
      let inner = along (fk x) (fk_below x) (λ c cl. under_reads_below n c y (omega arith)) in
      let same = occ_falling (slice_index (usages g)) (kids_of g x) y in
      omega arith
    where
      along : (cs : List ℕ) → AreBelow x cs → ((c : ℕ) → c < x → occurrences (under fk c) y ≡ cond (eqb c y) 1 0 + reads g (under fk c) y) → occurrences (flat_map (under fk) cs) y ≡ reads g (flat_map (under fk) cs) y + occurrences cs y
      along [] b each = refl
      along (c ∷ cs) b each =
          let one = each c b.0 in
          let more = along cs b.1 each in
          let occ = occ_append (under fk c) (flat_map (under fk) cs) y in
          let red = reads_append g (under fk c) (flat_map (under fk) cs) y in
          omega arith

  pub under_reads : (x y : ℕ) → occurrences (under fk x) y ≡ cond (eqb x y) 1 0 + reads g (under fk x) y
  under_reads x y = under_reads_below (suc x) x y (omega arith)

  pub under_itself : (x : ℕ) → 1 ≤ occurrences (under fk x) x
  under_itself x =
      let is = under_reads x x in
      let same : eqb x x ≡ true = eq-eqb x x refl in
      let bit = ap (λ (b : Bool). cond {A = ℕ} b 1 0) same in
      omega arith

  -- a visit where no gate stands twice emits all gates under one
  abbrev Single : List ℕ → Type 0
  Single xs = (y : ℕ) → occurrences xs y ≤ 1

  fresh_along : (n : ℕ) → ((c : ℕ) → c < n → (out : List ℕ) → Single (out ++ under fk c) → visited fk out c ≡ out ++ under fk c) → (cs : List ℕ) → AreBelow n cs → (out : List ℕ) → Single (out ++ flat_map (under fk) cs) → fold (visited fk) out cs ≡ out ++ flat_map (under fk) cs
  fresh_along n each [] b out single = sym (append-nil out)
  fresh_along n each (c ∷ cs) b out single =
      let rest = flat_map (under fk) cs in
      let whole : (out ++ under fk c) ++ rest ≡ out ++ (under fk c ++ rest) = append_assoc out (under fk c) rest in
      let all : Single ((out ++ under fk c) ++ rest) = λ y. subst (λ (xs : List ℕ). occurrences xs y ≤ 1) (sym whole) (single y) in
      let first : Single (out ++ under fk c) = λ y. let most = all y in omega (arith, occ_append (out ++ under fk c) rest y) in
      ap (λ (xs : List ℕ). fold (visited fk) xs cs) (each c b.0 out first) ∙ fresh_along n each cs b.1 (out ++ under fk c) all ∙ whole

  fresh_below : (n x : ℕ) → x < n → (out : List ℕ) → Single (out ++ under fk x) → visited fk out x ≡ out ++ under fk x
  fresh_below zero x l out single = absurd (omega arith)
  fresh_below (suc n) x l out single =
      let flat = flat_map (under fk) (fk x) in
      let whole = under_is fk fk_below x in
      let all : Single ((out ++ flat) ++ x ∷ []) = λ y. subst (λ (xs : List ℕ). occurrences xs y ≤ 1) (ap (λ (xs : List ℕ). out ++ xs) whole ∙ sym (append_assoc out flat (x ∷ []))) (single y) in
      let first : Single (out ++ flat) = λ y. let most = all y in omega (arith, occ_append (out ++ flat) (x ∷ []) y) in
      let itself = under_itself x in
      let most = single x in
      let none : occurrences out x ≡ 0 = omega (arith, occ_append out (under fk x) x) in
      let absent : has out x ≡ false = has-occurrences out x ∙ ap (λ (m : ℕ). nat_lt 0 m) none in
      let children = fresh_along x (λ c cl o s. fresh_below n c (omega arith) o s) (fk x) (fk_below x) out first in
      visited_is fk fk_below out x ∙ ap (λ (b : Bool). cond b out (fold (visited fk) out (fk x) ++ x ∷ [])) absent ∙ ap (λ (xs : List ℕ). xs ++ x ∷ []) children ∙ append_assoc out flat (x ∷ []) ∙ ap (λ (xs : List ℕ). out ++ xs) (sym whole)

  module _ (r : ℕ) (roots : g.roots ≡ r ∷ []) (last : r + 1 ≡ length g.kids) (read_once : IsReadOnce g r) where
    -- under the root of a tree each gate stands once
    at_root : (y : ℕ) → y ≡ r → occurrences (under fk r) y ≡ 1
    at_root y e =
        let is = under_reads r y in
        let bit = ap (λ (b : Bool). cond {A = ℕ} b 1 0) (eq-eqb r y (sym e)) in
        let none = last_unread g sound r last y (omega arith) (under fk r) in
        omega arith

    once_from : (j y : ℕ) → r ≤ y + j → y ≤ r → occurrences (under fk r) y ≡ 1
    once_from zero y near le = at_root y (omega arith)
    once_from (suc j) y near le = elim (cases_eq y r) [
      | inl e ↦ at_root y e
      | inr ne ↦
          let (z, only) = reader g y (read_once y (omega (arith, ne))) in
          let other : eqb r y ≡ false = grind (arith, nat_tests, ne) in
          let bit = ap (λ (b : Bool). cond {A = ℕ} b 1 0) other in
          let is = under_reads r y in
          let as_often = reads_reader g (under fk r) y z only in
          let above = reader_above g sound y z only in
          let there = only.there in
          let up = once_from j z (omega arith) (omega arith) in
          omega arith
    ]

    pub once : (y : ℕ) → y < length g.kids → occurrences (under fk r) y ≡ 1
    once y l = once_from r y (omega arith) (omega arith)

    pub none_else : (y : ℕ) → length g.kids ≤ y → occurrences (under fk r) y ≡ 0
    none_else y l =
        let is = under_reads r y in
        let other : eqb r y ≡ false = grind (arith, nat_tests) in
        let bit = ap (λ (b : Bool). cond {A = ℕ} b 1 0) other in
        let none = last_unread g sound r last y (omega arith) (under fk r) in
        omega arith

    pub single : (y : ℕ) → occurrences (under fk r) y ≤ 1
    single y = elim (cases_lt y (length g.kids)) [
      | inl l ↦ let o = once y l in omega arith
      | inr l ↦ let o = none_else y l in omega arith
    ]

    pub order_is : order g ≡ under fk r
    order_is = ap (λ (xs : List ℕ). fold (visited fk) [] (falling (slice_index (usages g)) xs)) roots ∙ fresh_below (suc r) r (omega arith) [] single

    pub order-IsOrdering : IsOrdering g (order g)
    order-IsOrdering = record {
      placed = order-IsPlaced g sound;
      whole = λ x l.
          let o = once x l in
          let some : nat_lt 0 (occurrences (under fk r) x) ≡ true = grind (arith, nat_tests) in
          ap (λ (xs : List ℕ). has xs x) order_is ∙ has-occurrences (under fk r) x ∙ some;
    }
