-- The order of a graph holds exactly the gates that the roots reach, and each is needed behind its place.
use Rattle.std.proofs.Common.{◌≡◌, ℕ, ◌+◌, ◌-◌, ◌<◌, ◌≤◌, zero, suc, true, eqb, List, [], ◌∷◌, ◌++◌, length, get_or, take, drop, fold, slice_index, All, inl, inr, refl, sym, ◌∙◌, ap, subst, arith}
use Rattle.std.proofs.lemmas.Bool.{cases_lt, false≢true, cond_both, or_cases, or_left, or_right, eqb-true, eq-eqb}
use Rattle.std.proofs.lemmas.List.{get_or-drop, get_or-take, length-drop, length-take, take-append-drop}
use Rattle.std.specs.List.{list_any}
use Rattle.std.proofs.lemmas.List.Elements.{All-push}
use Rattle.std.proofs.lemmas.Map.Steps.{le-length_from_below}
use Rattle.pim_graph.specs.Graphs.{GraphView, IsGraph, has, kids_of}
use Rattle.pim_graph.specs.Orders.{visit, visited, falling_kids, order, IsReached}
use Rattle.pim_graph.specs.Orders.IsReached.{as_root, as_child}
use Rattle.pim_graph.specs.Peaks.{IsPlaced, needed, read_by}
use Rattle.pim_graph.specs.Usages.{falling, usages}
use Rattle.pim_graph.proofs.Placing.{length-placed}
use Rattle.pim_graph.proofs.UsageSteps.{All-falling}
use Rattle.pim_graph.proofs.Orderings.{has-append_left, has-get_or, has-fold_falling, order_visits, order-IsPlaced}

-- where something holds of each gate of a list, it holds of each one that the list has
pub All-has : (P : ℕ → Type 0) (xs : List ℕ) → All P xs → (c : ℕ) → has xs c ≡ true → P c
All-has P [] h c e = absurd (false≢true e)
All-has P (x ∷ xs) h c e =
    elim (or_cases (eqb x c) (has xs c) e) [
      | inl is ↦ subst P (eqb-true x c is) (h 0 x (omega arith))
      | inr rest ↦ All-has P xs (λ k d l. h (suc k) d (omega arith)) c rest
    ]

-- visits emit gates of a kind alone, where the children of each gate of the kind are of the kind

fold_within : (P : ℕ → Type 0) (f : List ℕ → ℕ → List ℕ) → ((c : ℕ) → P c → (out : List ℕ) → All P out → All P (f out c)) → (cs : List ℕ) → All P cs → (out : List ℕ) → All P out → All P (fold f out cs)
fold_within P f each [] cs_are out are = are
fold_within P f each (c ∷ cs) cs_are out are =
    fold_within P f each cs (λ k d l. cs_are (suc k) d (omega arith)) (f out c) (each c (cs_are 0 c (omega arith)) out are)

visit_within : (P : ℕ → Type 0) (kids : ℕ → List ℕ) → ((x : ℕ) → P x → All P (kids x)) → (depth x : ℕ) → P x → (out : List ℕ) → All P out → All P (visit kids depth out x)
visit_within P kids closed zero x is out are = are
visit_within P kids closed (suc depth) x is out are =
    let new = fold (visit kids depth) out (kids x) in
    let Q : List ℕ → Type 0 = All P in
    cond_both (has out x) out (new ++ x ∷ []) Q
    (λ _. are)
    (λ _. All-push P new x (fold_within P (visit kids depth) (λ c i o a. visit_within P kids closed depth c i o a) (kids x) (closed x is) out are) is)

pub order_reached : (g : GraphView) → All (IsReached g) (order g)
order_reached g =
    let key = slice_index (usages g) in
    let P : ℕ → Type 0 = IsReached g in
    fold_within P (visited (falling_kids g)) (λ c i o a. visit_within P (falling_kids g) (λ x r. All-falling P key (kids_of g x) (λ k d l. as_child r (has-get_or (kids_of g x) k d l))) (suc c) c i o a) (falling key g.roots) (All-falling P key g.roots (λ k d l. as_root (has-get_or g.roots k d l))) [] (λ k d l. absurd (omega arith))

-- the place of a number that a list has
pub record IsAt (xs : List ℕ) (x p : ℕ) : Type 0 where
  pub within : p < length xs
  pub is : get_or xs p 0 ≡ x

pub place_of : (xs : List ℕ) (x : ℕ) → has xs x ≡ true → (p : ℕ) × IsAt xs x p
place_of [] x h = absurd (false≢true h)
place_of (y ∷ ys) x h =
    elim (or_cases (eqb y x) (has ys x) h) [
      | inl e ↦ (0, record { within = omega arith; is = eqb-true y x e })
      | inr rest ↦ let (p, at) = place_of ys x rest in (suc p, record { within = omega (arith, at.within); is = at.is })
    ]

pub has-take : (xs : List ℕ) (p x : ℕ) → has (take p xs) x ≡ true → has xs x ≡ true
has-take xs p x h = ap (λ (ys : List ℕ). has ys x) (sym (take-append-drop p xs)) ∙ has-append_left (take p xs) (drop p xs) x h

pub has-earlier : (xs : List ℕ) (p r : ℕ) → r < p → p ≤ length xs → has (take p xs) (get_or xs r 0) ≡ true
has-earlier xs p r l h =
    let P : ℕ → Type 0 = λ y. has (take p xs) y ≡ true in
    let within : r < length (take p xs) = omega (arith, length-take p xs) in
    subst P (get_or-take p xs r 0 l) (has-get_or (take p xs) r 0 within)

pub has-later : (xs : List ℕ) (p q : ℕ) → p ≤ q → q < length xs → has (drop p xs) (get_or xs q 0) ≡ true
has-later xs p q l h =
    let P : ℕ → Type 0 = λ k. has (drop p xs) (get_or xs k 0) ≡ true in
    let Q : ℕ → Type 0 = λ y. has (drop p xs) y ≡ true in
    let e : p + (q - p) ≡ q = omega arith in
    let within : q - p < length (drop p xs) = omega (arith, length-drop p xs) in
    subst P e (subst Q (get_or-drop p xs (q - p) 0) (has-get_or (drop p xs) (q - p) 0 within))

-- an order holds each gate that its graph's roots reach
pub order_complete : (g : GraphView) → IsGraph g → (x : ℕ) → IsReached g x → has (order g) x ≡ true
order_complete g sound x (as_root h) = (order_visits g sound).emit x (has-fold_falling (slice_index (usages g)) [] g.roots x (inr h))
order_complete g sound x (as_child {reader} r h) =
    let (q, at) = place_of (order g) reader (order_complete g sound reader r) in
    let P : ℕ → Type 0 = λ y. has (kids_of g y) x ≡ true in
    let before : has (take q (order g)) x ≡ true = All-has (λ c. has (take q (order g)) c ≡ true) (kids_of g (get_or (order g) q 0)) ((order-IsPlaced g sound).after q at.within) x (subst P (sym at.is) h) in
    has-take (order g) q x before

pub read_by-has : (g : GraphView) (readers : List ℕ) (reader x : ℕ) → has readers reader ≡ true → has (kids_of g reader) x ≡ true → read_by g readers x ≡ true
read_by-has g [] reader x h k = absurd (false≢true h)
read_by-has g (y ∷ ys) reader x h k =
    elim (or_cases (eqb y reader) (has ys reader) h) [
      | inl e ↦
          let P : ℕ → Type 0 = λ z. has (kids_of g z) x ≡ true in
          or_left (has (kids_of g y) x) (read_by g ys x) (subst P (sym (eqb-true y reader e)) k)
      | inr rest ↦ or_right (has (kids_of g y) x) (read_by g ys x) (read_by-has g ys reader x rest k)
    ]

-- a reader of a gate stands behind it
pub reader_behind : (g : GraphView) (xs : List ℕ) → IsPlaced g xs → (p q : ℕ) → p < length xs → q < length xs → has (kids_of g (get_or xs q 0)) (get_or xs p 0) ≡ true → p < q
reader_behind g xs placed p q lp lq h =
    let before = All-has (λ c. has (take q xs) c ≡ true) (kids_of g (get_or xs q 0)) (placed.after q lq) (get_or xs p 0) h in
    let (r, at) = place_of (take q xs) (get_or xs p 0) before in
    let within : r < q = omega (arith, at.within, length-take q xs) in
    let same : get_or xs r 0 ≡ get_or xs p 0 = sym (get_or-take q xs r 0 within) ∙ at.is in
    elim (cases_lt p q) [
      | inl l ↦ l
      | inr l ↦
          let P : ℕ → Type 0 = λ y. has (take p xs) y ≡ true in
          let twice : has (take p xs) (get_or xs p 0) ≡ true = subst P same (has-earlier xs p r (omega arith) (omega arith)) in
          absurd (false≢true (sym (placed.once p lp) ∙ twice))
    ]

order_needed : (g : GraphView) → IsGraph g → (p : ℕ) → p < length (order g) → (x : ℕ) → get_or (order g) p 0 ≡ x → IsReached g x → needed g (drop (p + 1) (order g)) x ≡ true
order_needed g sound p l x e (as_root h) = or_right (read_by g (drop (p + 1) (order g)) x) (has g.roots x) h
order_needed g sound p l x e (as_child {reader} r h) =
    let (q, at) = place_of (order g) reader (order_complete g sound reader r) in
    let P : ℕ → Type 0 = λ y. has (kids_of g y) x ≡ true in
    let Q : ℕ → Type 0 = λ y. has (kids_of g (get_or (order g) q 0)) y ≡ true in
    let R : ℕ → Type 0 = λ y. has (drop (p + 1) (order g)) y ≡ true in
    let behind : p < q = reader_behind g (order g) (order-IsPlaced g sound) p q l at.within (subst Q (sym e) (subst P (sym at.is) h)) in
    or_left (read_by g (drop (p + 1) (order g)) x) (has g.roots x) (read_by-has g (drop (p + 1) (order g)) reader x (subst R at.is (has-later (order g) (p + 1) q (omega arith) at.within)) h)

-- each gate of an order is a root, or one behind it reads it
pub order_needs : (g : GraphView) → IsGraph g → (p : ℕ) → p < length (order g) → needed g (drop (p + 1) (order g)) (get_or (order g) p 0) ≡ true
order_needs g sound p l = order_needed g sound p l (get_or (order g) p 0) refl (order_reached g p 0 l)

any-has : (xs : List ℕ) (x : ℕ) → has xs x ≡ true → list_any (eqb x) xs ≡ true
any-has [] x h = absurd (false≢true h)
any-has (y ∷ ys) x h =
    elim (or_cases (eqb y x) (has ys x) h) [
      | inl e ↦ or_left (eqb x y) (list_any (eqb x) ys) (eq-eqb x y (sym (eqb-true y x e)))
      | inr rest ↦ or_right (eqb x y) (list_any (eqb x) ys) (any-has ys x rest)
    ]

-- where the roots reach all gates, the order holds all of them
pub order_full : (g : GraphView) → IsGraph g → ((gate : ℕ) → gate < length g.kids → IsReached g gate) → length (order g) ≡ length g.kids
order_full g sound all =
    let most = length-placed g (order g) (order-IsPlaced g sound) in
    let least = le-length_from_below (order g) (length g.kids) (λ x l. any-has (order g) x (order_complete g sound x (all x l))) in
    omega arith
