-- In a tree a gate takes a cell and gives those of its children back, so a peak is a number that is swept along the order.
use Rattle.std.proofs.Common.{◌≡◌, ℕ, ◌+◌, ◌-◌, ◌<◌, ◌≤◌, zero, suc, max, Bool, true, false, cond, eqb, nat_lt, ◌||◌, List, [], ◌∷◌, ◌++◌, All, length, get_or, take, drop, count_by, map, refl, sym, ◌∙◌, ap, subst, arith, append_assoc, append-nil, inl, inr, slice_index, length-drop}
use Rattle.std.specs.List.{flat_map}
use Rattle.std.proofs.lemmas.Bool.{cases_eq, cases_Bool, false≢true, eq-eqb, ne_eqb, or_left, or_right}
use Rattle.std.proofs.lemmas.Bool.Decides.{nat_tests}
use Rattle.std.proofs.lemmas.List.{take_more, drop_more, get_or-drop}
use Rattle.pim_graph.specs.Graphs.{GraphView, IsGraph, has, kids_of}
use Rattle.pim_graph.specs.Orders.{order}
use Rattle.pim_graph.specs.Peaks.{needed, read_by, peak_from, peak}
use Rattle.pim_graph.specs.Readers.{occurrences, reads}
use Rattle.pim_graph.specs.Trees.{IsOrdering}
use Rattle.pim_graph.specs.Usages.{most_raised, usages}
use Rattle.pim_graph.proofs.Fallings.{length_falling, usage_is}
use Rattle.pim_graph.proofs.Placing.{children_once, count_push}
use Rattle.pim_graph.proofs.ReadLemmas.{has-occurrences, read_by-reads, count_same, count_differs}
use Rattle.pim_graph.proofs.Reaching.{All-has, place_of, has-earlier, has-later, reader_behind, read_by-has}
use Rattle.pim_graph.proofs.TreeShapes.{IsReader, IsReadOnce, reader, reader_has, kids_below, below_has, reads_reader}
use Rattle.pim_graph.proofs.Unders.{under, under_is, fk, fk_below, order_is, order-IsOrdering}
use Rattle.pim_graph.proofs.Visits.{AreBelow}

-- how many cells are held at most, where h are held before and each gate gives back as many as it has children
abbrev pub sweep : GraphView → ℕ → List ℕ → ℕ
sweep g h [] = 0
sweep g h (x ∷ later) = max (h + 1) (sweep g (h + 1 - length (kids_of g x)) later)

or_false : (b : Bool) → (b || false) ≡ b
or_false true = refl
or_false false = refl

regrouped : (a b c : Bool) → ((a || b) || c) ≡ ((b || c) || a)
regrouped true true c = refl
regrouped true false true = refl
regrouped true false false = refl
regrouped false b c = sym (or_false (b || c))

drop_past : (xs : List ℕ) (p : ℕ) → length xs ≤ p → drop p xs ≡ []
drop_past [] zero h = refl
drop_past [] (suc p) h = refl
drop_past (x ∷ xs) zero h = absurd (omega arith)
drop_past (x ∷ xs) (suc p) h = drop_past xs p (omega arith)

once_of : (f : ℕ → ℕ) (ks : List ℕ) (c : ℕ) → has ks c ≡ true → All (λ d. f d ≡ 1) ks → f c ≡ 1
once_of f ks c h all = All-has (λ d. f d ≡ 1) ks all c h

-- sweeping what is under gates

raise : (h i m : ℕ) (us : List ℕ) → max (most_raised (h + i) us) (h + m) ≡ h + max (most_raised i us) m
raise h i m [] = omega arith
raise h i m (u ∷ us) =
    let e : suc (h + i) ≡ h + suc i = omega arith in
    let more = raise h (suc i) m us in
    let same = ap (λ (k : ℕ). most_raised k us) e in
    omega arith

module _ (g : GraphView) (sound : IsGraph g) where
  abbrev pub cu : ℕ → ℕ
  cu = slice_index (usages g)

  length-mapped : (xs : List ℕ) → length (map cu xs) ≡ length xs
  length-mapped [] = refl
  length-mapped (x ∷ xs) = omega (arith, length-mapped xs)

  sweep_along : (n h : ℕ) → ((c : ℕ) → c < n → (h : ℕ) (t : List ℕ) → sweep g h (under (fk g sound) c ++ t) ≡ max (h + cu c) (sweep g (h + 1) t)) → (cs : List ℕ) → AreBelow n cs → (t : List ℕ) → sweep g h (flat_map (under (fk g sound)) cs ++ t) ≡ max (most_raised h (map cu cs)) (sweep g (h + length cs) t)
  sweep_along n h each [] b t = let e : h + 0 ≡ h = omega arith in let s = ap (λ (k : ℕ). sweep g k t) e in omega arith
  sweep_along n h each (c ∷ cs) b t =
      let rest = flat_map (under (fk g sound)) cs in
      let cut : (under (fk g sound) c ++ rest) ++ t ≡ under (fk g sound) c ++ (rest ++ t) = append_assoc (under (fk g sound) c) rest t in
      let first = ap (sweep g h) cut ∙ each c b.0 h (rest ++ t) in
      let more = sweep_along n (h + 1) each cs b.1 t in
      let e : h + 1 + length cs ≡ h + length (c ∷ cs) = omega arith in
      let last = ap (λ (k : ℕ). sweep g k t) e in
      let f : h + 1 ≡ suc h = omega arith in
      let raised = ap (λ (k : ℕ). most_raised k (map cu cs)) f in
      omega arith

  sweep_below : (n x : ℕ) → x < n → x < length g.kids → (h : ℕ) (t : List ℕ) → sweep g h (under (fk g sound) x ++ t) ≡ max (h + cu x) (sweep g (h + 1) t)
  sweep_below zero x l there h t = absurd (omega arith)
  sweep_below (suc n) x l there h t =
      let kids = fk g sound x in
      let flat = flat_map (under (fk g sound)) kids in
      let whole : under (fk g sound) x ++ t ≡ flat ++ (x ∷ t) = ap (λ (xs : List ℕ). xs ++ t) (under_is (fk g sound) (fk_below g sound) x) ∙ append_assoc flat (x ∷ []) t in
      let inner = ap (sweep g h) whole ∙ sweep_along x h (λ c cl k s. sweep_below n c (omega arith) (omega arith) k s) kids (fk_below g sound x) (x ∷ t) in
      let count : length kids ≡ length (kids_of g x) = length_falling cu (kids_of g x) in
      let back : h + length kids + 1 - length (kids_of g x) ≡ h + 1 = omega arith in
      let after = ap (λ (k : ℕ). sweep g k t) back in
      let own = usage_is g sound x there in
      let raised = raise h 0 (length kids + 1) (map cu kids) in
      let zero_more : h + 0 ≡ h = omega arith in
      let start = ap (λ (k : ℕ). most_raised k (map cu kids)) zero_more in
      let as_many : length (map cu kids) ≡ length kids = length-mapped kids in
      omega arith

  pub sweep_under : (x : ℕ) → x < length g.kids → (h : ℕ) (t : List ℕ) → sweep g h (under (fk g sound) x ++ t) ≡ max (h + cu x) (sweep g (h + 1) t)
  sweep_under x there h t = sweep_below (suc x) x (omega arith) there h t

  module _ (r : ℕ) (roots : g.roots ≡ r ∷ []) (last : r + 1 ≡ length g.kids) (read_once : IsReadOnce g r) where
    -- the one reader of a child
    pub child_reader : (x c : ℕ) → has (kids_of g x) c ≡ true → x < length g.kids → IsReader g.kids c x
    child_reader x c h there =
        let low = below_has x (kids_of g x) (kids_below g sound x) c h in
        let (z, only) = reader g c (read_once c (omega arith)) in
        elim (cases_eq x z) [
          | inl e ↦ subst (IsReader g.kids c) (sym e) only
          | inr ne ↦
              let none = only.alone x ne in
              absurd (false≢true (sym (has-occurrences (kids_of g x) c ∙ ap (λ (m : ℕ). nat_lt 0 m) none) ∙ h))
        ]

    not_root : (c : ℕ) → c < r → has g.roots c ≡ false
    not_root c l =
        let other : eqb r c ≡ false = grind (arith, nat_tests) in
        ap (λ (xs : List ℕ). has xs c) roots ∙ rw other refl

    module _ (o : List ℕ) (is : IsOrdering g o) (p : ℕ) (within : p < length o) where
      abbrev pub x : ℕ
      x = get_or o p 0

      abbrev pub e : List ℕ
      e = take p o

      abbrev pub t : List ℕ
      t = drop (p + 1) o

      there : x < length g.kids
      there = is.placed.there p 0 within

      -- a gate is needed behind its place
      pub needed_behind : needed g t x ≡ true
      needed_behind = elim (cases_eq (get_or o p 0) r) [
        | inl same ↦ or_right (read_by g (drop (p + 1) o) (get_or o p 0)) (has g.roots (get_or o p 0)) (ap (λ (xs : List ℕ). has xs (get_or o p 0)) roots ∙ or_left (eqb r (get_or o p 0)) false (eq-eqb r (get_or o p 0) (sym same)))
        | inr ne ↦
            let low = there in
            let (z, only) = reader g (get_or o p 0) (read_once (get_or o p 0) (omega (arith, ne))) in
            let (q, at) = place_of o z (is.whole z only.there) in
            let reads_it : has (kids_of g (get_or o q 0)) (get_or o p 0) ≡ true = subst (λ (w : ℕ). has (kids_of g w) (get_or o p 0) ≡ true) (sym at.is) (reader_has g (get_or o p 0) z only) in
            let behind = reader_behind g o is.placed p q within at.within reads_it in
            let later : has (drop (p + 1) o) (get_or o q 0) ≡ true = has-later o (p + 1) q (omega arith) at.within in
            or_left (read_by g (drop (p + 1) o) (get_or o p 0)) (has g.roots (get_or o p 0)) (read_by-has g (drop (p + 1) o) (get_or o q 0) (get_or o p 0) later reads_it)
      ]

      -- a gate stands nowhere behind its place
      once_here : occurrences t x ≡ 0
      once_here = elim (cases_eq (occurrences t x) 0) [
        | inl none ↦ none
        | inr some ↦
            let there_again : has t x ≡ true = has-occurrences t x ∙ (let lt : nat_lt 0 (occurrences t x) ≡ true = grind (arith, nat_tests, some) in lt) in
            let (k, at) = place_of t x there_again in
            let inside = at.within in
            let long = length-drop (p + 1) o in
            let same : get_or o (p + 1 + k) 0 ≡ x = sym (get_or-drop (p + 1) o k 0) ∙ at.is in
            let before : has (take (p + 1 + k) o) (get_or o (p + 1 + k) 0) ≡ true = subst (λ (w : ℕ). has (take (p + 1 + k) o) w ≡ true) (sym same) (has-earlier o (p + 1 + k) p (omega arith) (omega arith)) in
            absurd (false≢true (sym (is.placed.once (p + 1 + k) (omega arith)) ∙ before))
      ]

      -- a child is read up by its gate
      child_done : (c : ℕ) → has (kids_of g x) c ≡ true → needed g t c ≡ false
      child_done c h =
          let only = child_reader x c h there in
          let unread : reads g t c ≡ 0 = reads_reader g t c x only ∙ once_here in
          let first : read_by g t c ≡ false = read_by-reads g t c ∙ ap (λ (m : ℕ). nat_lt 0 m) unread in
          let low = below_has x (kids_of g x) (kids_below g sound x) c h in
          let second = not_root c (let low_x = there in omega arith) in
          rw (first, second) refl

      child_alone : (c : ℕ) → occurrences (kids_of g x) c ≤ 1
      child_alone c = elim (cases_Bool (has (kids_of g x) c)) [
        | inl h ↦ let only = child_reader x c h there in let once = only.reads in omega arith
        | inr h ↦
            let none : nat_lt 0 (occurrences (kids_of g x) c) ≡ false = sym (has-occurrences (kids_of g x) c) ∙ h in
            grind (arith, nat_tests)
      ]

      -- so many gates of the front more are held for these children
      held_for : (m : List ℕ) → ((c : ℕ) → has m c ≡ true → has (kids_of g x) c ≡ true) → ((c : ℕ) → occurrences m c ≤ 1) → count_by (λ y. needed g t y || has m y) e ≡ count_by (needed g t) e + length m
      held_for [] all alone =
          let same = count_same (λ y. needed g t y || false) (needed g t) (λ y. or_false (needed g t y)) e in
          omega arith
      held_for (c ∷ m) all alone =
          let here : has (kids_of g x) c ≡ true = all c (or_left (eqb c c) (has m c) (eq-eqb c c refl)) in
          let more = held_for m (λ d h. all d (or_right (eqb c d) (has m d) h)) (λ d. let a = alone d in omega arith) in
          let done = child_done c here in
          let bit = ap (λ (b : Bool). cond {A = ℕ} b 1 0) (eq-eqb c c refl) in
          let most = alone c in
          let gone : occurrences m c ≡ 0 = omega arith in
          let not_again : has m c ≡ false = has-occurrences m c ∙ ap (λ (k : ℕ). nat_lt 0 k) gone in
          let here_once : occurrences e c ≡ 1 = once_of (occurrences e) (kids_of g x) c here (children_once g o p (kids_of g x) is.placed within refl) in
          let differ = count_differs (λ y. needed g t y || has (c ∷ m) y) (λ y. needed g t y || has m y) c
          (λ y ne. let other : eqb c y ≡ false = ne_eqb c y (λ q. ne (sym q)) in ap (λ (b : Bool). needed g t y || (b || has m y)) other)
          (or_right (needed g t c) (has (c ∷ m) c) (or_left (eqb c c) (has m c) (eq-eqb c c refl)))
          (rw (done, not_again) refl) e in
          omega arith

      -- what is held changes by one gate more and its children less
      pub step : count_by (needed g t) (e ++ x ∷ []) + length (kids_of g x) ≡ count_by (needed g (x ∷ t)) e + 1
      step =
          let pushed = count_push (needed g t) e x in
          let bit = ap (λ (b : Bool). cond {A = ℕ} b 1 0) needed_behind in
          let regroup = count_same (needed g (x ∷ t)) (λ y. needed g t y || has (kids_of g x) y) (λ y. regrouped (has (kids_of g x) y) (read_by g t y) (has g.roots y)) e in
          let held = held_for (kids_of g x) (λ c h. h) child_alone in
          omega arith

    -- the peak of an ordering is swept along it
    peak_is : (o : List ℕ) → IsOrdering g o → (k p : ℕ) → p + k ≡ length o → peak_from g (take p o) (drop p o) ≡ sweep g (count_by (needed g (drop p o)) (take p o)) (drop p o)
    peak_is o is zero p whole =
        let none : drop p o ≡ [] = drop_past o p (omega arith) in
        ap (peak_from g (take p o)) none ∙ sym (ap (λ (t : List ℕ). sweep g (count_by (needed g (drop p o)) (take p o)) t) none)
    peak_is o is (suc k) p whole =
        let within : p < length o = omega arith in
        let x = get_or o p 0 in
        let t = drop (p + 1) o in
        let cut : drop p o ≡ x ∷ t = drop_more o p 0 within in
        let grown : take (p + 1) o ≡ take p o ++ x ∷ [] = take_more o p 0 within in
        let more = peak_is o is k (p + 1) (omega arith) in
        let stepped = step o is p within in
        let pushed = ap (count_by (needed g t)) grown in
        let level : count_by (needed g t) (take (p + 1) o) ≡ count_by (needed g (x ∷ t)) (take p o) + 1 - length (kids_of g x) = omega arith in
        let below = ap (λ (h : ℕ). sweep g h t) level in
        let after = ap (λ (xs : List ℕ). peak_from g xs t) grown in
        let left = ap (peak_from g (take p o)) cut in
        let right = ap (λ (xs : List ℕ). sweep g (count_by (needed g xs) (take p o)) xs) cut in
        omega arith

    pub peak_sweep : (o : List ℕ) → IsOrdering g o → peak g o ≡ sweep g 0 o
    peak_sweep o is = peak_is o is (length o) 0 (omega arith)

    -- the order's peak is the usage of the root
    pub best : peak g (order g) ≡ cu r
    best =
        let ordered = order_is g sound r roots last read_once in
        let swept = peak_sweep (order g) (order-IsOrdering g sound r roots last read_once) in
        let end : order g ≡ under (fk g sound) r ++ [] = ordered ∙ sym (append-nil (under (fk g sound) r)) in
        let all = ap (sweep g 0) end ∙ sweep_under r (omega arith) 0 [] in
        omega arith
