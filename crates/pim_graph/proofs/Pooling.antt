-- Cells that are given to gates, taken over and given back.
use Rattle.std.proofs.Common.{◌≡◌, ◌≢◌, ◌⊎◌, ℕ, ◌+◌, ◌<◌, ◌≤◌, Bool, true, false, cond, eqb, nat_lt, ◌&&◌, ◌||◌, not, List, [], ◌∷◌, ◌++◌, length, get_or, set, count_by, sum_by, IsPermutation, Option, Some, None, refl, sym, ◌∙◌, ap, subst, arith, inl, inr}
use Rattle.std.proofs.lemmas.Bool.{cases_eq, false≢true}
use Rattle.std.proofs.lemmas.Bool.Decides.{nat_tests, eqb_tells}
use Rattle.std.proofs.lemmas.List.{get_or-set_same, get_or-set_other}
use Rattle.std.proofs.lemmas.List.Sorted.{sum_by-IsPermutation, length_permutation}
use Rattle.std.proofs.lemmas.List.Sums.{sum_by-cons}
use Rattle.pim_graph.specs.Graphs.{GraphView, has}
use Rattle.pim_graph.specs.Readers.{occurrences, still_needed}
use Rattle.pim_graph.specs.inner.Pools.{SparesView, IsTaken, IsChoice, IsPool, holds, is_taken}
use Rattle.pim_graph.proofs.ReadLemmas.{has-occurrences, count_same, count_differs}
use Rattle.pim_graph.proofs.Placing.{count_push}

eqb_same : (a : ℕ) → eqb a a ≡ true
eqb_same a = grind (arith, nat_tests)

eqb_other : (a b : ℕ) → a ≢ b → eqb a b ≡ false
eqb_other a b h = grind (arith, nat_tests)

lt_true : (n : ℕ) → 0 < n → nat_lt 0 n ≡ true
lt_true n h = grind (arith, nat_tests)

lt_false : (n : ℕ) → n ≡ 0 → nat_lt 0 n ≡ false
lt_false n h = grind (arith, nat_tests)

or_true : (b c : Bool) → c ≡ true → (b || c) ≡ true
or_true true c h = refl
or_true false c h = h

and_not_true : (b : Bool) → (b && not true) ≡ false
and_not_true true = refl
and_not_true false = refl

and_not_false : (b : Bool) → (b && not false) ≡ b
and_not_false true = refl
and_not_false false = refl

occurrences-sum : (xs : List ℕ) (c : ℕ) → occurrences xs c ≡ sum_by (λ y. cond (eqb y c) 1 0) xs
occurrences-sum [] c = refl
occurrences-sum (x ∷ xs) c =
    let a = occurrences-sum xs c in
    let b = sum_by-cons (λ y. cond {A = ℕ} (eqb y c) 1 0) x xs in
    omega arith

-- a list in another order holds each number as often
pub occurrences-permutation : (xs ys : List ℕ) (c : ℕ) → IsPermutation xs ys → occurrences ys c ≡ occurrences xs c
occurrences-permutation xs ys c h =
    occurrences-sum ys c ∙ sum_by-IsPermutation (λ y. cond (eqb y c) 1 0) xs ys h ∙ sym (occurrences-sum xs c)

-- a number that stands once in a list is in it
pub has_once : (xs : List ℕ) (c : ℕ) → occurrences xs c ≡ 1 → has xs c ≡ true
has_once xs c h = has-occurrences xs c ∙ lt_true (occurrences xs c) (omega arith)

pushed : (xs : List ℕ) (x y : ℕ) → has (xs ++ x ∷ []) y ≡ true → (has xs y ≡ true) ⊎ (x ≡ y)
pushed [] x y h = elim (eqb_tells x y) [
  | inl t ↦ inr t.1
  | inr f ↦ absurd (false≢true (sym (ap (λ (b : Bool). b || false) f.0) ∙ h))
]
pushed (z ∷ zs) x y h = elim (eqb_tells z y) [
  | inl t ↦ inl (ap (λ (b : Bool). b || has zs y) t.0)
  | inr f ↦ elim (pushed zs x y (sym (ap (λ (b : Bool). b || has (zs ++ x ∷ []) y) f.0) ∙ h)) [
    | inl q ↦ inl (ap (λ (b : Bool). b || has zs y) f.0 ∙ q)
    | inr e ↦ inr e
  ]
]

-- a gate of the list isn't one that is not in it
pub apart_from : (placed : List ℕ) (x y : ℕ) → has placed x ≡ false → has placed y ≡ true → y ≢ x
apart_from placed x y fresh h = λ e. false≢true (sym fresh ∙ ap (has placed) (sym e) ∙ h)

seen : (placed cells : List ℕ) (x cell y : ℕ) → has placed x ≡ false → x < length cells → has (placed ++ x ∷ []) y ≡ true → ((has placed y ≡ true) × (get_or (set cells x cell) y 0 ≡ get_or cells y 0)) ⊎ ((y ≡ x) × (get_or (set cells x cell) y 0 ≡ cell))
seen placed cells x cell y fresh there h = elim (pushed placed x y h) [
  | inl q ↦ inl (q, get_or-set_other cells x y cell 0 (apart_from placed x y fresh q))
  | inr e ↦ inr (sym e, ap (λ (k : ℕ). get_or (set cells x cell) k 0) (sym e) ∙ get_or-set_same cells x cell 0 there)
]

-- what it takes to give a gate a cell
record Adds (P Q : ℕ → Bool) (placed cells : List ℕ) (first : ℕ) (old new : SparesView) (x cell : ℕ) : Type 0 where
  fresh : has placed x ≡ false
  there : x < length cells
  holder : Q x ≡ true
  fewer : (y : ℕ) → has placed y ≡ true → Q y ≡ true → P y ≡ true
  from : first ≤ cell
  within : cell < new.next
  grows : old.next ≤ new.next
  apart : (y : ℕ) → has placed y ≡ true → Q y ≡ true → get_or cells y 0 ≢ cell
  free_fewer : (c : ℕ) → occurrences new.free c ≤ occurrences old.free c
  free_not : occurrences new.free cell ≡ 0
  counted : first + length new.free + count_by Q placed + 1 ≡ new.next

added : (P Q : ℕ → Bool) (placed cells : List ℕ) (first : ℕ) (old new : SparesView) (x cell : ℕ) → Adds P Q placed cells first old new x cell → IsPool P placed cells first old → IsPool Q (placed ++ x ∷ []) (set cells x cell) first new
added P Q placed cells first old new x cell adds pool =
    let look = λ (y : ℕ) (h : has (placed ++ x ∷ []) y ≡ true). seen placed cells x cell y adds.fresh adds.there h in
    record {
      from = λ y h. elim (look y h) [
        | inl a ↦ let b = pool.from y a.0 in omega arith
        | inr a ↦ omega (arith, adds.from)
      ];
      within = λ y h. elim (look y h) [
        | inl a ↦ let b = pool.within y a.0 in omega (arith, adds.grows)
        | inr a ↦ omega (arith, adds.within)
      ];
      apart = λ y z hy hz py pz e. elim (look y hy) [
        | inl a ↦ elim (look z hz) [
          | inl b ↦ pool.apart y z a.0 b.0 (adds.fewer y a.0 py) (adds.fewer z b.0 pz) (sym a.1 ∙ e ∙ b.1)
          | inr b ↦ absurd (adds.apart y a.0 py (sym a.1 ∙ e ∙ b.1))
        ]
        | inr a ↦ elim (look z hz) [
          | inl b ↦ absurd (adds.apart z b.0 pz (sym b.1 ∙ sym e ∙ a.1))
          | inr b ↦ a.0 ∙ sym b.0
        ]
      ];
      unheld = λ y h p. elim (look y h) [
        | inl a ↦
            let b = pool.unheld y a.0 (adds.fewer y a.0 p) in
            let d = adds.free_fewer (get_or cells y 0) in
            let e = ap (occurrences new.free) a.1 in
            omega arith
        | inr a ↦ ap (occurrences new.free) a.1 ∙ adds.free_not
      ];
      once = λ c. omega (arith, adds.free_fewer c, pool.once c);
      free_from = λ c h. pool.free_from c (omega (arith, adds.free_fewer c));
      free_within = λ c h. let b = pool.free_within c (omega (arith, adds.free_fewer c)) in omega (arith, adds.grows);
      counted =
          let a = count_push Q placed x in
          let b = ap (λ (v : Bool). cond {A = ℕ} v 1 0) adds.holder in
          omega (arith, adds.counted);
    }

-- the same gates are holders
pub same_holders : (P Q : ℕ → Bool) (placed cells : List ℕ) (first : ℕ) (s : SparesView) → ((y : ℕ) → P y ≡ Q y) → IsPool P placed cells first s → IsPool Q placed cells first s
same_holders P Q placed cells first s same pool = record {
  from = pool.from;
  within = pool.within;
  apart = λ y z hy hz py pz e. pool.apart y z hy hz (same y ∙ py) (same z ∙ pz) e;
  unheld = λ y h p. pool.unheld y h (same y ∙ p);
  once = pool.once;
  free_from = pool.free_from;
  free_within = pool.free_within;
  counted = let a = count_same P Q same placed in omega (arith, pool.counted);
}

fresh_cell : (P : ℕ → Bool) (placed cells : List ℕ) (first : ℕ) (old new : SparesView) (x cell : ℕ) → IsPool P placed cells first old → has placed x ≡ false → x < length cells → P x ≡ true → cell ≡ old.next → length old.free ≡ 0 → new.free ≡ [] → new.next ≡ old.next + 1 → IsPool P (placed ++ x ∷ []) (set cells x cell) first new
fresh_cell P placed cells first old new x cell pool fresh there holder is none free next =
    let len = ap (λ (fs : List ℕ). length fs) free in
    added P P placed cells first old new x cell (record {
      fresh = fresh;
      there = there;
      holder = holder;
      fewer = λ y h p. p;
      from = omega (arith, pool.counted);
      within = omega arith;
      grows = omega arith;
      apart = λ y h p e. let b = pool.within y h in absurd (omega arith);
      free_fewer = λ c. let e = ap (λ (fs : List ℕ). occurrences fs c) free in omega arith;
      free_not = ap (λ (fs : List ℕ). occurrences fs cell) free;
      counted = omega (arith, pool.counted);
    }) pool

reused_cell : (P : ℕ → Bool) (placed cells : List ℕ) (first : ℕ) (old new : SparesView) (x cell : ℕ) → IsPool P placed cells first old → has placed x ≡ false → x < length cells → P x ≡ true → IsPermutation old.free (cell ∷ new.free) → new.next ≡ old.next → IsPool P (placed ++ x ∷ []) (set cells x cell) first new
reused_cell P placed cells first old new x cell pool fresh there holder perm next =
    let len = length_permutation old.free (cell ∷ new.free) perm in
    let occ = λ (c : ℕ). occurrences-permutation old.free (cell ∷ new.free) c perm in
    let here = occ cell in
    let one = ap (λ (b : Bool). cond {A = ℕ} b 1 0) (eqb_same cell) in
    let most = pool.once cell in
    added P P placed cells first old new x cell (record {
      fresh = fresh;
      there = there;
      holder = holder;
      fewer = λ y h p. p;
      from = pool.free_from cell (omega arith);
      within = let b = pool.free_within cell (omega arith) in omega arith;
      grows = omega arith;
      apart = λ y h p e. let b = pool.unheld y h p in let d = ap (occurrences old.free) e in absurd (omega arith);
      free_fewer = λ c. omega (arith, occ c);
      free_not = omega arith;
      counted = omega (arith, pool.counted);
    }) pool

take_cell : (P : ℕ → Bool) (placed cells : List ℕ) (first : ℕ) (old new : SparesView) (x cell : ℕ) → IsPool P placed cells first old → has placed x ≡ false → x < length cells → P x ≡ true → IsTaken old new cell → (length old.free ≡ 0) ⊎ (0 < length old.free) → IsPool P (placed ++ x ∷ []) (set cells x cell) first new
take_cell P placed cells first old new x cell pool fresh there holder taken (inl none) =
    fresh_cell P placed cells first old new x cell pool fresh there holder (taken.fresh_cell none) none (ap (λ (s : SparesView). s.free) (taken.fresh_left none)) (ap (λ (s : SparesView). s.next) (taken.fresh_left none))
take_cell P placed cells first old new x cell pool fresh there holder taken (inr some) =
    reused_cell P placed cells first old new x cell pool fresh there holder (taken.reused_cell some) (taken.reused_left some)

-- a gate takes over the cell of another, which holds none any more
take_over : (P Q : ℕ → Bool) (placed cells : List ℕ) (first : ℕ) (s : SparesView) (x c : ℕ) → IsPool P placed cells first s → has placed x ≡ false → x < length cells → Q x ≡ true → occurrences placed c ≡ 1 → P c ≡ true → Q c ≡ false → ((y : ℕ) → y ≢ c → P y ≡ Q y) → IsPool Q (placed ++ x ∷ []) (set cells x (get_or cells c 0)) first s
take_over P Q placed cells first s x c pool fresh there holder single held gone same =
    let c_in = has_once placed c single in
    let other = λ (y : ℕ) (q : Q y ≡ true) (e : y ≡ c). false≢true (sym gone ∙ ap Q (sym e) ∙ q) in
    added P Q placed cells first s s x (get_or cells c 0) (record {
      fresh = fresh;
      there = there;
      holder = holder;
      fewer = λ y h q. same y (other y q) ∙ q;
      from = pool.from c c_in;
      within = pool.within c c_in;
      grows = omega arith;
      apart = λ y h q e. other y q (pool.apart y c h c_in (same y (other y q) ∙ q) held e);
      free_fewer = λ d. omega arith;
      free_not = pool.unheld c c_in held;
      counted = let d = count_differs P Q c same held gone placed in omega (arith, pool.counted);
    }) pool

-- a holder gives its cell back
pub freed : (P Q : ℕ → Bool) (placed cells : List ℕ) (first : ℕ) (old new : SparesView) (c : ℕ) → IsPool P placed cells first old → occurrences placed c ≡ 1 → P c ≡ true → Q c ≡ false → ((y : ℕ) → y ≢ c → P y ≡ Q y) → IsPermutation (get_or cells c 0 ∷ old.free) new.free → new.next ≡ old.next → IsPool Q placed cells first new
freed P Q placed cells first old new c pool single held gone same perm next =
    let c_in = has_once placed c single in
    let cell = get_or cells c 0 in
    let len = length_permutation (cell ∷ old.free) new.free perm in
    let occ = λ (d : ℕ). occurrences-permutation (cell ∷ old.free) new.free d perm in
    let other = λ (y : ℕ) (q : Q y ≡ true) (e : y ≡ c). false≢true (sym gone ∙ ap Q (sym e) ∙ q) in
    let none = pool.unheld c c_in held in
    record {
      from = pool.from;
      within = λ y h. let b = pool.within y h in omega arith;
      apart = λ y z hy hz py pz e. pool.apart y z hy hz (same y (other y py) ∙ py) (same z (other z pz) ∙ pz) e;
      unheld = λ y h q.
          let b = pool.unheld y h (same y (other y q) ∙ q) in
          let ne : cell ≢ get_or cells y 0 = λ e. other y q (pool.apart y c h c_in (same y (other y q) ∙ q) held (sym e)) in
          let z = ap (λ (v : Bool). cond {A = ℕ} v 1 0) (eqb_other cell (get_or cells y 0) ne) in
          omega (arith, occ (get_or cells y 0));
      once = λ d. elim (eqb_tells cell d) [
        | inl t ↦
            let z = ap (λ (v : Bool). cond {A = ℕ} v 1 0) t.0 in
            let e = ap (occurrences old.free) t.1 in
            omega (arith, occ d)
        | inr f ↦
            let z = ap (λ (v : Bool). cond {A = ℕ} v 1 0) f.0 in
            omega (arith, occ d, pool.once d)
      ];
      free_from = λ d h. elim (eqb_tells cell d) [
        | inl t ↦ let b = pool.from c c_in in omega (arith, t.1)
        | inr f ↦
            let z = ap (λ (v : Bool). cond {A = ℕ} v 1 0) f.0 in
            pool.free_from d (omega (arith, occ d))
      ];
      free_within = λ d h. elim (eqb_tells cell d) [
        | inl t ↦ let b = pool.within c c_in in omega (arith, t.1)
        | inr f ↦
            let z = ap (λ (v : Bool). cond {A = ℕ} v 1 0) f.0 in
            let b = pool.free_within d (omega (arith, occ d)) in
            omega arith
      ];
      counted = let d = count_differs P Q c same held gone placed in omega (arith, pool.counted);
    }

-- what a gate that is taken over has to be
pub record IsTakeable (g : GraphView) (left placed : List ℕ) (taken : Option ℕ) : Type 0 where
  pub single : (c : ℕ) → taken ≡ Some c → occurrences placed c ≡ 1
  pub alive : (c : ℕ) → taken ≡ Some c → still_needed g left c ≡ true

-- a gate has the cell that was chosen for it
pub chosen : (g : GraphView) (left placed cells : List ℕ) (first : ℕ) (old new : SparesView) (x cell : ℕ) (taken : Option ℕ) → IsPool (still_needed g left) placed cells first old → has placed x ≡ false → x < length cells → still_needed g left x ≡ true → IsTakeable g left placed taken → IsChoice taken cells old new cell → IsPool (holds g left taken) (placed ++ x ∷ []) (set cells x cell) first new
chosen g left placed cells first old new x cell None pool fresh there holder able choice =
    let some : (length old.free ≡ 0) ⊎ (0 < length old.free) = grind arith in
    same_holders (still_needed g left) (holds g left None) (placed ++ x ∷ []) (set cells x cell) first new (λ y. sym (and_not_false (still_needed g left y)))
    (take_cell (still_needed g left) placed cells first old new x cell pool fresh there holder choice some)
chosen g left placed cells first old new x cell (Some c) pool fresh there holder able choice =
    let single = able.single c refl in
    let alive = able.alive c refl in
    let ne : c ≢ x = apart_from placed x c fresh (has_once placed c single) in
    let Q = holds g left (Some c) in
    let no : Q c ≡ false = ap (λ (b : Bool). still_needed g left c && not b) (eqb_same c) ∙ and_not_true (still_needed g left c) in
    let same = λ (y : ℕ) (n : y ≢ c). sym (ap (λ (b : Bool). still_needed g left y && not b) (eqb_other c y (λ e. n (sym e))) ∙ and_not_false (still_needed g left y)) in
    let after = take_over (still_needed g left) Q placed cells first old x c pool fresh there (sym (same x (λ e. ne (sym e))) ∙ holder) single alive no same in
    let M : ℕ → Type 0 = λ v. IsPool Q (placed ++ x ∷ []) (set cells x v) first old in
    let N : SparesView → Type 0 = λ s. IsPool Q (placed ++ x ∷ []) (set cells x cell) first s in
    subst N (sym choice.1) (subst M (sym choice.0) after)

still_other : (g : GraphView) (left : List ℕ) (c v y : ℕ) → y ≢ c → still_needed g left y ≡ still_needed g (set left c v) y
still_other g left c v y ne = ap (λ (n : ℕ). nat_lt 0 n || has g.roots y) (sym (get_or-set_other left c y v 0 ne))

-- a read that is taken back changes no holder but the gate that was read
pub holds_other : (g : GraphView) (left : List ℕ) (c v y : ℕ) (taken : Option ℕ) → y ≢ c → holds g left taken y ≡ holds g (set left c v) taken y
holds_other g left c v y taken ne = ap (λ (b : Bool). b && not (is_taken taken y)) (still_other g left c v y ne)

still_some : (g : GraphView) (left : List ℕ) (y : ℕ) → 0 < get_or left y 0 → still_needed g left y ≡ true
still_some g left y h = ap (λ (b : Bool). b || has g.roots y) (lt_true (get_or left y 0) h)

-- why a gate's cell isn't given back
pub data Stays (g : GraphView) (left : List ℕ) (c v : ℕ) (taken : Option ℕ) : Type 0 where
  read_more : 0 < v → Stays g left c v taken
  is_root : has g.roots c ≡ true → Stays g left c v taken
  is_over : is_taken taken c ≡ true → Stays g left c v taken

stays_at : (g : GraphView) (left : List ℕ) (c v : ℕ) (taken : Option ℕ) → c < length left → 0 < get_or left c 0 → Stays g left c v taken → holds g left taken c ≡ holds g (set left c v) taken c
stays_at g left c v taken there some (read_more h) =
    let now = get_or-set_same left c v 0 there in
    ap (λ (b : Bool). b && not (is_taken taken c)) (still_some g left c some ∙ sym (still_some g (set left c v) c (omega arith)))
stays_at g left c v taken there some (is_root h) =
    ap (λ (b : Bool). b && not (is_taken taken c)) (still_some g left c some ∙ sym (or_true (nat_lt 0 (get_or (set left c v) c 0)) (has g.roots c) h))
stays_at g left c v taken there some (is_over h) =
    let no = λ (b : Bool). ap (λ (t : Bool). b && not t) h ∙ and_not_true b in
    no (still_needed g left c) ∙ sym (no (still_needed g (set left c v) c))

pub stays_pool : (g : GraphView) (left : List ℕ) (c v : ℕ) (taken : Option ℕ) (placed cells : List ℕ) (first : ℕ) (s : SparesView) → c < length left → 0 < get_or left c 0 → Stays g left c v taken → IsPool (holds g left taken) placed cells first s → IsPool (holds g (set left c v) taken) placed cells first s
stays_pool g left c v taken placed cells first s there some why pool =
    let M : ℕ → Type 0 = λ y. holds g left taken y ≡ holds g (set left c v) taken y in
    same_holders (holds g left taken) (holds g (set left c v) taken) placed cells first s
    (λ y. elim (cases_eq y c) [
      | inl same ↦ subst M (sym same) (stays_at g left c v taken there some why)
      | inr ne ↦ holds_other g left c v y taken ne
    ]) pool

pub freed_pool : (g : GraphView) (left : List ℕ) (c v : ℕ) (taken : Option ℕ) (placed cells : List ℕ) (first : ℕ) (old new : SparesView) → c < length left → 0 < get_or left c 0 → v ≡ 0 → has g.roots c ≡ false → is_taken taken c ≡ false → occurrences placed c ≡ 1 → IsPermutation (get_or cells c 0 ∷ old.free) new.free → new.next ≡ old.next → IsPool (holds g left taken) placed cells first old → IsPool (holds g (set left c v) taken) placed cells first new
freed_pool g left c v taken placed cells first old new there some z no_root not_taken single perm next pool =
    let yes : holds g left taken c ≡ true = ap (λ (b : Bool). b && not (is_taken taken c)) (still_some g left c some) ∙ ap not not_taken in
    let now : get_or (set left c v) c 0 ≡ 0 = get_or-set_same left c v 0 there ∙ z in
    let gone : still_needed g (set left c v) c ≡ false = ap (λ (b : Bool). b || has g.roots c) (lt_false (get_or (set left c v) c 0) now) ∙ no_root in
    freed (holds g left taken) (holds g (set left c v) taken) placed cells first old new c pool single yes (ap (λ (b : Bool). b && not (is_taken taken c)) gone) (λ y ne. holds_other g left c v y taken ne) perm next
