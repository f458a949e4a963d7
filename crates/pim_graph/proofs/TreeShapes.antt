-- A tree's root is the last gate, and each gate before it has one reader. Conversely such a gate reaches all.
use Rattle.std.proofs.Common.{◌≡◌, ◌≢◌, ℕ, ◌+◌, ◌-◌, ◌<◌, ◌≤◌, zero, suc, Bool, true, false, eqb, nat_lt, ◌||◌, List, [], ◌∷◌, length, get_or, All, refl, sym, ◌∙◌, ap, subst, arith, inl, inr, None, Some, slice_index}
use Rattle.std.specs.Prelude.{◌↔◌}
use Rattle.std.specs.List.{list_any}
use Rattle.std.proofs.lemmas.Bool.{cases_eq, cases_lt, cases_Bool, false≢true, or_cases, or_left, or_right, and_parts, eqb-true, eq-eqb}
use Rattle.std.proofs.lemmas.Bool.Decides.{nat_tests}
use Rattle.std.proofs.lemmas.List.{get_or_past}
use Rattle.pim_graph.specs.Graphs.{GraphView, IsGraph, has, kids_of}
use Rattle.pim_graph.specs.Readers.{occurrences, reads}
use Rattle.pim_graph.specs.Trees.{reads_in, all_reads, reaches, all_below, is_tree_at, tree_with, tree_of}
use Rattle.pim_graph.specs.Usages.{usages}
use Rattle.pim_graph.proofs.ReadLemmas.{has-occurrences}
use Rattle.pim_graph.proofs.Visits.{AreBelow}
use Rattle.pim_graph.proofs.Walks.{AreBelow-All}

-- tests of all numbers below one

pub all_below-all : (test : ℕ → Bool) (n : ℕ) → all_below test n ≡ true → (x : ℕ) → x < n → test x ≡ true
all_below-all test zero h x l = absurd (omega arith)
all_below-all test (suc n) h x l =
    let parts = and_parts (all_below test n) (test n) h in
    elim (cases_eq x n) [
      | inl e ↦ ap test e ∙ parts.1
      | inr ne ↦ all_below-all test n parts.0 x (omega arith)
    ]

pub all_below-from : (test : ℕ → Bool) (n : ℕ) → ((x : ℕ) → x < n → test x ≡ true) → all_below test n ≡ true
all_below-from test zero h = refl
all_below-from test (suc n) h =
    let before = all_below-from test n (λ x l. h x (omega arith)) in
    let last = h n (omega arith) in
    rw (before, last) refl

-- tests of the elements of a list

pub any_has : (test : ℕ → Bool) (xs : List ℕ) (c : ℕ) → has xs c ≡ true → test c ≡ true → list_any test xs ≡ true
any_has test [] c h t = absurd (false≢true h)
any_has test (x ∷ xs) c h t =
    elim (or_cases (eqb x c) (has xs c) h) [
      | inl e ↦ or_left (test x) (list_any test xs) (ap test (eqb-true x c e) ∙ t)
      | inr rest ↦ or_right (test x) (list_any test xs) (any_has test xs c rest t)
    ]

pub any_from : (test : ℕ → Bool) (xs : List ℕ) → list_any test xs ≡ true → (c : ℕ) × (has xs c ≡ true) × (test c ≡ true)
any_from test [] h = absurd (false≢true h)
any_from test (x ∷ xs) h =
    elim (or_cases (test x) (list_any test xs) h) [
      | inl t ↦ (x, or_left (eqb x x) (has xs x) (eq-eqb x x refl), t)
      | inr rest ↦ let (c, there, t) = any_from test xs rest in (c, or_right (eqb x c) (has xs c) there, t)
    ]

-- children are below their gate

pub kids_below : (g : GraphView) → IsGraph g → (x : ℕ) → AreBelow x (kids_of g x)
kids_below g sound x = elim (cases_lt x (length g.kids)) [
  | inl l ↦ AreBelow-All x (kids_of g x) (sound.before x l)
  | inr l ↦ subst (AreBelow x) (sym (get_or_past g.kids x [] l)) tt
]

pub below_has : (n : ℕ) (xs : List ℕ) → AreBelow n xs → (c : ℕ) → has xs c ≡ true → c < n
below_has n [] h c e = absurd (false≢true e)
below_has n (x ∷ xs) h c e =
    elim (or_cases (eqb x c) (has xs c) e) [
      | inl is ↦ subst (λ (y : ℕ). y < n) (eqb-true x c is) h.0
      | inr rest ↦ below_has n xs h.1 c rest
    ]

below_none : (n : ℕ) (xs : List ℕ) → AreBelow n xs → (y : ℕ) → n ≤ y → occurrences xs y ≡ 0
below_none n [] h y l = refl
below_none n (x ∷ xs) h y l =
    let low : x < n = h.0 in
    let other : eqb x y ≡ false = grind (arith, nat_tests) in
    let rest = below_none n xs h.1 y l in
    rw other (omega arith)

-- a gate reads none that isn't below it
pub reads_below : (g : GraphView) → IsGraph g → (x y : ℕ) → x ≤ y → occurrences (kids_of g x) y ≡ 0
reads_below g sound x y l = below_none x (kids_of g x) (kids_below g sound x) y l

-- the one reader of a gate

pub record IsReader (kids : List (List ℕ)) (x z : ℕ) : Type 0 where
  pub there : z < length kids
  pub reads : occurrences (get_or kids z []) x ≡ 1
  pub alone : (w : ℕ) → w ≢ z → occurrences (get_or kids w []) x ≡ 0

none_read : (kids : List (List ℕ)) (x : ℕ) → reads_in kids x ≡ 0 → (w : ℕ) → occurrences (get_or kids w []) x ≡ 0
none_read [] x h w = refl
none_read (ks ∷ others) x h zero = omega arith
none_read (ks ∷ others) x h (suc w) = none_read others x (omega arith) w

reader_in : (kids : List (List ℕ)) (x : ℕ) → reads_in kids x ≡ 1 → (z : ℕ) × IsReader kids x z
reader_in [] x h = absurd (omega arith)
reader_in (ks ∷ others) x h = elim (cases_eq (occurrences ks x) 0) [
  | inl none ↦
      let (z, is) = reader_in others x (omega arith) in
      (suc z, record { there = omega (arith, is.there); reads = is.reads; alone = λ w ne. by_place z is none w ne })
  | inr some ↦
      let rest : reads_in others x ≡ 0 = omega (arith, some) in
      (0, record { there = omega arith; reads = omega (arith, some); alone = λ w ne. not_first rest w ne })
]
  where
    by_place : (z : ℕ) → IsReader others x z → occurrences ks x ≡ 0 → (w : ℕ) → w ≢ suc z → occurrences (get_or (ks ∷ others) w []) x ≡ 0
    by_place z is none zero ne = none
    by_place z is none (suc w) ne = is.alone w (λ e. ne (ap suc e))

    not_first : reads_in others x ≡ 0 → (w : ℕ) → w ≢ 0 → occurrences (get_or (ks ∷ others) w []) x ≡ 0
    not_first rest zero ne = absurd (ne refl)
    not_first rest (suc w) ne = none_read others x rest w

pub reader : (g : GraphView) (x : ℕ) → all_reads g x ≡ 1 → (z : ℕ) × IsReader g.kids x z
reader g x h = reader_in g.kids x h

pub reader_above : (g : GraphView) → IsGraph g → (x z : ℕ) → IsReader g.kids x z → x < z
reader_above g sound x z is = elim (cases_lt x z) [
  | inl l ↦ l
  | inr l ↦ absurd (omega (arith, reads_below g sound z x l, is.reads))
]

pub reader_has : (g : GraphView) (x z : ℕ) → IsReader g.kids x z → has (kids_of g z) x ≡ true
reader_has g x z is =
    let once = is.reads in
    let some : nat_lt 0 (occurrences (kids_of g z) x) ≡ true = grind (arith, nat_tests) in
    has-occurrences (kids_of g z) x ∙ some

-- what a gate reaches

reached_le : (g : GraphView) → IsGraph g → (steps x y : ℕ) → reaches g steps x y ≡ true → y ≤ x
reached_le g sound zero x y h = absurd (false≢true h)
reached_le g sound (suc steps) x y h =
    elim (or_cases (eqb x y) (list_any (λ c. reaches g steps c y) (kids_of g x)) h) [
      | inl e ↦ omega (arith, eqb-true x y e)
      | inr rest ↦
          let (c, there, more) = any_from (λ c. reaches g steps c y) (kids_of g x) rest in
          let low = below_has x (kids_of g x) (kids_below g sound x) c there in
          let le = reached_le g sound steps c y more in
          omega arith
    ]

reached_more : (g : GraphView) (steps r z x : ℕ) → reaches g steps r z ≡ true → has (kids_of g z) x ≡ true → reaches g (suc steps) r x ≡ true
reached_more g zero r z x h k = absurd (false≢true h)
reached_more g (suc steps) r z x h k =
    elim (or_cases (eqb r z) (list_any (λ c. reaches g steps c z) (kids_of g r)) h) [
      | inl e ↦
          let here : has (kids_of g r) x ≡ true = ap (λ (y : ℕ). has (kids_of g y) x) (eqb-true r z e) ∙ k in
          let itself : reaches g (suc steps) x x ≡ true = or_left (eqb x x) (list_any (λ c. reaches g steps c x) (kids_of g x)) (eq-eqb x x refl) in
          or_right (eqb r x) (list_any (λ c. reaches g (suc steps) c x) (kids_of g r)) (any_has (λ c. reaches g (suc steps) c x) (kids_of g r) x here itself)
      | inr rest ↦
          let (c, there, more) = any_from (λ c. reaches g steps c z) (kids_of g r) rest in
          or_right (eqb r x) (list_any (λ c. reaches g (suc steps) c x) (kids_of g r)) (any_has (λ c. reaches g (suc steps) c x) (kids_of g r) c there (reached_more g steps c z x more k))
    ]

itself_reached : (g : GraphView) (steps r x : ℕ) → x ≡ r → reaches g (suc steps) r x ≡ true
itself_reached g steps r x e = or_left (eqb r x) (list_any (λ c. reaches g steps c x) (kids_of g r)) (eq-eqb r x (sym e))

-- the last gate reaches each gate, where each gate before it is read once
from_last : (g : GraphView) → IsGraph g → (r : ℕ) → r + 1 ≡ length g.kids → ((x : ℕ) → x < r → all_reads g x ≡ 1) → (j x : ℕ) → r ≤ x + j → x ≤ r → reaches g (suc j) r x ≡ true
from_last g sound r last once zero x near le = itself_reached g 0 r x (omega arith)
from_last g sound r last once (suc j) x near le = elim (cases_eq x r) [
  | inl e ↦ itself_reached g (suc j) r x e
  | inr ne ↦
      let (z, is) = reader g x (once x (omega (arith, ne))) in
      let above = reader_above g sound x z is in
      let there = is.there in
      reached_more g (suc j) r z x (from_last g sound r last once j z (omega arith) (omega arith)) (reader_has g x z is)
]

-- a tree by its definition, and by what is tested
abbrev pub IsReadOnce : GraphView → ℕ → Type 0
IsReadOnce g r = (x : ℕ) → x < r → all_reads g x ≡ 1

pub tree_is : (g : GraphView) → IsGraph g → (r : ℕ) → r < length g.kids → (is_tree_at g r ≡ true) ↔ ((r + 1 ≡ length g.kids) × IsReadOnce g r)
tree_is g sound r there = (
  λ h.
      let parts = and_parts (all_below (λ x. eqb x r || eqb (all_reads g x) 1) n) (all_below (λ x. reaches g n r x) n) h in
      let last = all_below-all (λ x. reaches g n r x) n parts.1 (n - 1) (omega arith) in
      let low = reached_le g sound n r (n - 1) last in (
        omega arith,
        λ x l. elim (or_cases (eqb x r) (eqb (all_reads g x) 1) (all_below-all (λ x. eqb x r || eqb (all_reads g x) 1) n parts.0 x (omega arith))) [
          | inl e ↦ absurd (omega (arith, eqb-true x r e))
          | inr e ↦ eqb-true (all_reads g x) 1 e
        ],
      ),
  λ h.
      let once = all_below-from (λ x. eqb x r || eqb (all_reads g x) 1) n (λ x l. elim (cases_eq x r) [
        | inl e ↦ or_left (eqb x r) (eqb (all_reads g x) 1) (eq-eqb x r e)
        | inr ne ↦ or_right (eqb x r) (eqb (all_reads g x) 1) (eq-eqb (all_reads g x) 1 (h.1 x (omega (arith, h.0, ne))))
      ]) in
      let same : suc r ≡ n = omega (arith, h.0) in
      let all = all_below-from (λ x. reaches g n r x) n (λ x l. subst (λ (d : ℕ). reaches g d r x ≡ true) same (from_last g sound r h.0 h.1 r x (omega arith) (omega (arith, h.0)))) in
      rw (once, all) refl,
)
  where
    n : ℕ
    n = length g.kids

-- how often gates read one that has one reader: as often as that one is among them

pub reads_reader : (g : GraphView) (zs : List ℕ) (x z : ℕ) → IsReader g.kids x z → reads g zs x ≡ occurrences zs z
reads_reader g [] x z is = refl
reads_reader g (y ∷ ys) x z is =
    let rest = reads_reader g ys x z is in
    elim (cases_eq y z) [
      | inl e ↦
          let once : occurrences (kids_of g y) x ≡ 1 = ap (λ (w : ℕ). occurrences (kids_of g w) x) e ∙ is.reads in
          let same = eq-eqb y z e in
          rw same (omega arith)
      | inr ne ↦
          let none = is.alone y ne in
          let other : eqb y z ≡ false = grind (arith, nat_tests) in
          rw other (omega arith)
    ]

-- nothing reads the last gate, or a number above it
pub last_unread : (g : GraphView) → IsGraph g → (r : ℕ) → r + 1 ≡ length g.kids → (y : ℕ) → r ≤ y → (zs : List ℕ) → reads g zs y ≡ 0
last_unread g sound r last y le [] = refl
last_unread g sound r last y le (z ∷ zs) =
    let rest = last_unread g sound r last y le zs in
    let none : occurrences (kids_of g z) y ≡ 0 = elim (cases_lt z (length g.kids)) [
      | inl l ↦ reads_below g sound z y (omega arith)
      | inr l ↦ ap (λ (ks : List ℕ). occurrences ks y) (get_or_past g.kids z [] l)
    ] in
    omega arith

-- the answer

pub one_root : (xs : List ℕ) → length xs ≡ 1 → xs ≡ get_or xs 0 0 ∷ []
one_root [] h = absurd (omega arith)
one_root (x ∷ []) h = refl
one_root (x ∷ y ∷ xs) h = absurd (omega arith)

not_one : (g : GraphView) (xs : List ℕ) → length xs ≢ 1 → tree_with g xs ≡ None
not_one g [] h = refl
not_one g (x ∷ []) h = absurd (h (omega arith))
not_one g (x ∷ y ∷ xs) h = refl

pub tree_none : (g : GraphView) → length g.roots ≢ 1 → tree_of g ≡ None
tree_none g h = not_one g g.roots h

pub tree_no : (g : GraphView) (r : ℕ) → IsGraph g → g.roots ≡ r ∷ [] → r < length g.kids → ((r + 1 ≡ length g.kids) → IsReadOnce g r → ⊥) → tree_of g ≡ None
tree_no g r sound roots there isnt =
    let no_tree : is_tree_at g r ≡ false = elim (cases_Bool (is_tree_at g r)) [
      | inl is ↦ let shape = (tree_is g sound r there).0 is in absurd (isnt shape.0 shape.1)
      | inr isnt_one ↦ isnt_one
    ] in
    ap (tree_with g) roots ∙ rw no_tree refl

pub tree_yes : (g : GraphView) (r : ℕ) → IsGraph g → g.roots ≡ r ∷ [] → r + 1 ≡ length g.kids → IsReadOnce g r → tree_of g ≡ Some (slice_index (usages g) r)
tree_yes g r sound roots last once =
    let is : is_tree_at g r ≡ true = (tree_is g sound r (omega arith)).1 (last, once) in
    ap (tree_with g) roots ∙ rw is refl

pub root_there : (g : GraphView) (r : ℕ) → IsGraph g → g.roots ≡ r ∷ [] → r < length g.kids
root_there g r sound roots =
    let there = subst (λ (xs : List ℕ). All (λ x. x < length g.kids) xs) roots sound.roots_there in
    there 0 r (omega arith)

-- counts of reads that are all 1
pub counted_once : (g : GraphView) (counts : List ℕ) (r : ℕ) → r + 1 ≡ length g.kids → ((x : ℕ) → x < length g.kids → slice_index counts x ≡ all_reads g x) → IsReadOnce g r ↔ ((x : ℕ) → x < r → slice_index counts x ≡ 1)
counted_once g counts r last counted = (
  λ once. λ x l. counted x (omega arith) ∙ once x l,
  λ ones. λ x l. sym (counted x (omega arith)) ∙ ones x l,
)
