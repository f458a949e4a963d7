-- How an allotment of cells grows by one gate of an order after another.
use Rattle.std.proofs.Common.{◌≡◌, ◌≢◌, ◌⊎◌, ℕ, ◌+◌, ◌<◌, ◌≤◌, zero, suc, max, Bool, true, false, cond, eqb, ◌&&◌, ◌||◌, not, List, [], ◌∷◌, ◌++◌, length, get_or, set, take, drop, count_by, All, MatchOption, Option, Some, None, refl, sym, ◌∙◌, ap, subst, arith, inl, inr}
use Rattle.std.proofs.lemmas.Bool.{cases_eq, false≢true}
use Rattle.std.proofs.lemmas.Bool.Decides.{nat_tests, eqb_tells}
use Rattle.std.proofs.Math.ListN.{drop_of_length-le}
use Rattle.std.proofs.lemmas.List.{get_or-set_same, get_or-set_other, length-take, take_more, drop_more}
use Rattle.pim_graph.specs.Allotments.{AllotmentView, IsAllotment, IsOver, cells_from, cells_taken, taken_at}
use Rattle.pim_graph.specs.Graphs.{GraphView, has, kids_of}
use Rattle.pim_graph.specs.Peaks.{IsPlaced, needed, peak_from, read_by}
use Rattle.pim_graph.specs.Readers.{CountsReads, occurrences, still_needed}
use Rattle.pim_graph.specs.inner.Pools.{SparesView, IsTaken, IsChoice, IsPool, holds, is_taken}
use Rattle.pim_graph.proofs.Placing.{children_once, count_below, take-All}
use Rattle.pim_graph.proofs.Pooling.{IsTakeable, apart_from, chosen, same_holders, has_once}
use Rattle.pim_graph.proofs.ReadLemmas.{needed_counted, occurrences-push}

true_or : (b c : Bool) → b ≡ true → (b || c) ≡ true
true_or b c h = ap (λ (x : Bool). x || c) h

or_true : (b c : Bool) → c ≡ true → (b || c) ≡ true
or_true true c h = refl
or_true false c h = h

-- what holds of all numbers of a list holds of one that is in it
all_has : (P : ℕ → Type 0) (xs : List ℕ) (x : ℕ) → All P xs → has xs x ≡ true → P x
all_has P [] x all h = absurd (false≢true h)
all_has P (y ∷ ys) x all h = elim (eqb_tells y x) [
  | inl t ↦ subst P t.1 (all 0 x (omega arith))
  | inr f ↦ all_has P ys x (λ k d l. all (suc k) d (omega arith)) (sym (ap (λ (b : Bool). b || has ys x) f.0) ∙ h)
]

-- a number in the front of a list is in a longer front
has_longer : (xs : List ℕ) (q p y : ℕ) → q ≤ p → has (take q xs) y ≡ true → has (take p xs) y ≡ true
has_longer [] zero p y l h = absurd (false≢true h)
has_longer [] (suc q) p y l h = absurd (false≢true h)
has_longer (x ∷ xs) zero p y l h = absurd (false≢true h)
has_longer (x ∷ xs) (suc q) zero y l h = absurd (omega arith)
has_longer (x ∷ xs) (suc q) (suc p) y l h = elim (eqb_tells x y) [
  | inl t ↦ true_or (eqb x y) (has (take p xs) y) t.0
  | inr f ↦ or_true (eqb x y) (has (take p xs) y) (has_longer xs q p y (omega arith) (sym (ap (λ (b : Bool). b || has (take q xs) y) f.0) ∙ h))
]

-- a number is in each front that its place is in
has_at : (xs : List ℕ) (q p : ℕ) → q < p → q < length xs → has (take p xs) (get_or xs q 0) ≡ true
has_at [] q p l h = absurd (omega arith)
has_at (x ∷ xs) q zero l h = absurd (omega arith)
has_at (x ∷ xs) zero (suc p) l h = true_or (eqb x x) (has (take p xs) x) (grind (arith, nat_tests))
has_at (x ∷ xs) (suc q) (suc p) l h = or_true (eqb x (get_or xs q 0)) (has (take p xs) (get_or xs q 0)) (has_at xs q p (omega arith) (omega arith))

-- the cells of the gates before a place are as an allotment has them
pub record HasCells (g : GraphView) (order : List ℕ) (over : List (Option ℕ)) (p : ℕ) (cells : List ℕ) : Type 0 where
  pub taken : (q c : ℕ) → q < p → taken_at over q ≡ Some c → get_or cells (get_or order q 0) 0 ≡ get_or cells c 0
  pub apart : (q y : ℕ) → q < p → has (take q order) y ≡ true → needed g (drop q order) y ≡ true → taken_at over q ≢ Some y → get_or cells y 0 ≢ get_or cells (get_or order q 0) 0

-- a child that is taken over stands before the gate that does so
pub over_before : (g : GraphView) (order : List ℕ) (over : List (Option ℕ)) (q c : ℕ) → IsPlaced g order → IsOver g order over → q < length order → taken_at over q ≡ Some c → has (take q order) c ≡ true
over_before g order over q c placed able h e =
    all_has (λ k. has (take q order) k ≡ true) (kids_of g (get_or order q 0)) c (placed.after q h) (able.child q c h e)

-- and is a gate of the graph
pub below_of : (g : GraphView) (order : List ℕ) (p y : ℕ) → IsPlaced g order → has (take p order) y ≡ true → y < length g.kids
below_of g order p y placed h = all_has (λ k. k < length g.kids) (take p order) y (take-All order (length g.kids) p placed.there) h

eqb_other : (a b : ℕ) → a ≢ b → eqb a b ≡ false
eqb_other a b h = grind (arith, nat_tests)

and_not_false : (b : Bool) → (b && not false) ≡ b
and_not_false true = refl
and_not_false false = refl

none_some : (o : Option ℕ) (c : ℕ) → o ≡ None → o ≡ Some c → ⊥
none_some o c n e = cc

some_same : (c d : ℕ) → Some c ≡ Some d → c ≡ d
some_same c d e = cc

not_taken : (taken : Option ℕ) (y : ℕ) → taken ≢ Some y → is_taken taken y ≡ false
not_taken None y h = refl
not_taken (Some c) y h = elim (eqb_tells c y) [
  | inl t ↦ absurd (h (ap (λ (k : ℕ). Some k) t.1))
  | inr f ↦ f.0
]

-- one gate more has its cell
cells_step : (g : GraphView) (order : List ℕ) (over : List (Option ℕ)) (p cell first : ℕ) (left cells : List ℕ) (s : SparesView) → IsPlaced g order → IsOver g order over → p < length order → CountsReads g (drop p order) left → get_or order p 0 < length cells → holds g left (taken_at over p) (get_or order p 0) ≡ true → ((c : ℕ) → taken_at over p ≡ Some c → cell ≡ get_or cells c 0) → IsPool (holds g left (taken_at over p)) (take p order ++ get_or order p 0 ∷ []) (set cells (get_or order p 0) cell) first s → HasCells g order over p cells → HasCells g order over (p + 1) (set cells (get_or order p 0) cell)
cells_step g order over p cell first left cells s placed able here counts there holder equal pool before =
    let x = get_or order p 0 in
    let fresh = placed.once p here in
    let stays = λ (y : ℕ) (h : has (take p order) y ≡ true). get_or-set_other cells x y cell 0 (apart_from (take p order) x y fresh h) in
    let now = get_or-set_same cells x cell 0 there in
    record {
      taken = λ q c l e. elim (cases_eq q p) [
        | inl same ↦
            let e' : taken_at over p ≡ Some c = ap (taken_at over) (sym same) ∙ e in
            let at : get_or (set cells x cell) (get_or order q 0) 0 ≡ cell = ap (λ (k : ℕ). get_or (set cells x cell) (get_or order k 0) 0) same ∙ now in
            at ∙ equal c e' ∙ sym (stays c (over_before g order over p c placed able here e'))
        | inr other ↦
            let l' : q < p = omega arith in
            let h' : q < length order = omega arith in
            stays (get_or order q 0) (has_at order q p l' h') ∙ before.taken q c l' e ∙ sym (stays c (has_longer order q p c (omega arith) (over_before g order over q c placed able h' e)))
      ];
      apart = λ q y l h need not_over e. elim (cases_eq q p) [
        | inl same ↦
            let h' : has (take p order) y ≡ true = ap (λ (k : ℕ). has (take k order) y) (sym same) ∙ h in
            let need' : needed g (drop p order) y ≡ true = ap (λ (k : ℕ). needed g (drop k order) y) (sym same) ∙ need in
            let free : is_taken (taken_at over p) y ≡ false = not_taken (taken_at over p) y (λ o. not_over (ap (taken_at over) same ∙ o)) in
            let below = below_of g order p y placed h' in
            let still : still_needed g left y ≡ true = needed_counted g (drop p order) left y (counts.counts y below) ∙ need' in
            let holds_y : holds g left (taken_at over p) y ≡ true = ap (λ (b : Bool). b && not (is_taken (taken_at over p) y)) still ∙ ap not free in
            let e' : get_or (set cells x cell) y 0 ≡ get_or (set cells x cell) x 0 = e ∙ ap (λ (k : ℕ). get_or (set cells x cell) (get_or order k 0) 0) same in
            let cut : take (p + 1) order ≡ take p order ++ x ∷ [] = take_more order p 0 here in
            let y_in : has (take p order ++ x ∷ []) y ≡ true = ap (λ (xs : List ℕ). has xs y) (sym cut) ∙ has_longer order p (p + 1) y (omega arith) h' in
            let x_in : has (take p order ++ x ∷ []) x ≡ true = ap (λ (xs : List ℕ). has xs x) (sym cut) ∙ has_at order p (p + 1) (omega arith) here in
            apart_from (take p order) x y fresh h' (pool.apart y x y_in x_in holds_y holder e')
        | inr other ↦
            let l' : q < p = omega arith in
            let h' : q < length order = omega arith in
            let y_in = has_longer order q p y (omega arith) h in
            before.apart q y l' h need not_over (sym (stays y y_in) ∙ e ∙ stays (get_or order q 0) (has_at order q p l' h'))
      ];
    }

or_more : (a b r : Bool) → (b || r) ≡ true → ((a || b) || r) ≡ true
or_more true b r h = refl
or_more false b r h = h

-- the gate at a place is held from there on
still_at : (g : GraphView) (order left : List ℕ) (p : ℕ) → IsPlaced g order → p < length order → CountsReads g (drop p order) left → needed g (drop (p + 1) order) (get_or order p 0) ≡ true → still_needed g left (get_or order p 0) ≡ true
still_at g order left p placed here counts need =
    let x = get_or order p 0 in
    let below : x < length g.kids = placed.there p 0 here in
    let more : needed g (drop p order) x ≡ (has (kids_of g x) x || read_by g (drop (p + 1) order) x) || has g.roots x = ap (λ (ys : List ℕ). needed g ys x) (drop_more order p 0 here) in
    needed_counted g (drop p order) left x (counts.counts x below) ∙ more ∙ or_more (has (kids_of g x) x) (read_by g (drop (p + 1) order) x) (has g.roots x) need

-- a child of the gate at a place is held there
child_held : (g : GraphView) (order left : List ℕ) (p c : ℕ) → IsPlaced g order → p < length order → CountsReads g (drop p order) left → has (kids_of g (get_or order p 0)) c ≡ true → still_needed g left c ≡ true
child_held g order left p c placed here counts child =
    let x = get_or order p 0 in
    let before : has (take p order) c ≡ true = all_has (λ k. has (take p order) k ≡ true) (kids_of g x) c (placed.after p here) child in
    let below = below_of g order p c placed before in
    let read : read_by g (drop p order) c ≡ true = ap (λ (ys : List ℕ). read_by g ys c) (drop_more order p 0 here) ∙ true_or (has (kids_of g x) c) (read_by g (drop (p + 1) order) c) child in
    needed_counted g (drop p order) left c (counts.counts c below) ∙ true_or (read_by g (drop p order) c) (has g.roots c) read

takeable : (g : GraphView) (order left : List ℕ) (over : List (Option ℕ)) (p : ℕ) → IsPlaced g order → IsOver g order over → p < length order → CountsReads g (drop p order) left → IsTakeable g left (take p order) (taken_at over p)
takeable g order left over p placed able here counts = record {
  single = λ c e. all_has (λ k. occurrences (take p order) k ≡ 1) (kids_of g (get_or order p 0)) c (children_once g order p (kids_of g (get_or order p 0)) placed here refl) (able.child p c here e);
  alive = λ c e. child_held g order left p c placed here counts (able.child p c here e);
}

-- the chosen cell is given to the gate at a place
pub placed_pool : (g : GraphView) (order left cells : List ℕ) (over : List (Option ℕ)) (p first cell : ℕ) (old new : SparesView) → IsPlaced g order → IsOver g order over → p < length order → CountsReads g (drop p order) left → length cells ≡ length g.kids → needed g (drop (p + 1) order) (get_or order p 0) ≡ true → IsChoice (taken_at over p) cells old new cell → IsPool (still_needed g left) (take p order) cells first old → IsPool (holds g left (taken_at over p)) (take p order ++ get_or order p 0 ∷ []) (set cells (get_or order p 0) cell) first new
placed_pool g order left cells over p first cell old new placed able here counts len need choice pool =
    let x = get_or order p 0 in
    let below : x < length g.kids = placed.there p 0 here in
    chosen g left (take p order) cells first old new x cell (taken_at over p) pool (placed.once p here) (omega arith) (still_at g order left p placed here counts need) (takeable g order left over p placed able here counts) choice

not_itself : (taken : Option ℕ) (x : ℕ) → ((c : ℕ) → taken ≡ Some c → c ≢ x) → is_taken taken x ≡ false
not_itself taken x h = not_taken taken x (λ e. h x e refl)

choice_equal : (taken : Option ℕ) (cells : List ℕ) (old new : SparesView) (cell : ℕ) → IsChoice taken cells old new cell → (c : ℕ) → taken ≡ Some c → cell ≡ get_or cells c 0
choice_equal None cells old new cell choice c e = absurd (none_some None c refl e)
choice_equal (Some d) cells old new cell choice c e = choice.0 ∙ ap (λ (k : ℕ). get_or cells k 0) (some_same d c e)

-- the gate at a place has its cell
pub placed_cells : (g : GraphView) (order left cells : List ℕ) (over : List (Option ℕ)) (p first cell : ℕ) (old new : SparesView) → IsPlaced g order → IsOver g order over → p < length order → CountsReads g (drop p order) left → length cells ≡ length g.kids → needed g (drop (p + 1) order) (get_or order p 0) ≡ true → IsChoice (taken_at over p) cells old new cell → IsPool (still_needed g left) (take p order) cells first old → HasCells g order over p cells → HasCells g order over (p + 1) (set cells (get_or order p 0) cell)
placed_cells g order left cells over p first cell old new placed able here counts len need choice pool before =
    let x = get_or order p 0 in
    let below : x < length g.kids = placed.there p 0 here in
    let after = placed_pool g order left cells over p first cell old new placed able here counts len need choice pool in
    let apart = λ (c : ℕ) (e : taken_at over p ≡ Some c). apart_from (take p order) x c (placed.once p here) (over_before g order over p c placed able here e) in
    let holder : holds g left (taken_at over p) x ≡ true = ap (λ (b : Bool). b && not (is_taken (taken_at over p) x)) (still_at g order left p placed here counts need) ∙ ap not (not_itself (taken_at over p) x apart) in
    cells_step g order over p cell first left cells new placed able here counts (omega arith) holder (choice_equal (taken_at over p) cells old new cell choice) after before

settled : (g : GraphView) (left : List ℕ) (taken : Option ℕ) → ((c : ℕ) → taken ≡ Some c → still_needed g left c ≡ false) → (y : ℕ) → holds g left taken y ≡ still_needed g left y
settled g left None gone y = and_not_false (still_needed g left y)
settled g left (Some c) gone y = elim (eqb_tells c y) [
  | inl t ↦
      let none : still_needed g left y ≡ false = ap (still_needed g left) (sym t.1) ∙ gone c refl in
      ap (λ (b : Bool). b && not (is_taken (Some c) y)) none ∙ sym none
  | inr f ↦ ap (λ (b : Bool). still_needed g left y && not b) f.0 ∙ and_not_false (still_needed g left y)
]

-- the cells after the gate at a place, where the reads of the gates behind it are left
pub next_pool : (g : GraphView) (order left cells : List ℕ) (over : List (Option ℕ)) (p first : ℕ) (s : SparesView) → IsPlaced g order → IsOver g order over → p < length order → CountsReads g (drop (p + 1) order) left → IsPool (holds g left (taken_at over p)) (take p order ++ get_or order p 0 ∷ []) cells first s → IsPool (still_needed g left) (take (p + 1) order) cells first s
next_pool g order left cells over p first s placed able here counts pool =
    let gone = λ (c : ℕ) (e : taken_at over p ≡ Some c).
    let below = below_of g order p c placed (over_before g order over p c placed able here e) in
    needed_counted g (drop (p + 1) order) left c (counts.counts c below) ∙ able.last p c here e in
    let after = same_holders (holds g left (taken_at over p)) (still_needed g left) (take p order ++ get_or order p 0 ∷ []) cells first s (settled g left (taken_at over p) gone) pool in
    let M : List ℕ → Type 0 = λ xs. IsPool (still_needed g left) xs cells first s in
    subst M (sym (take_more order p 0 here)) after

-- how many gates are held at a place
pub held_at : (g : GraphView) (order left : List ℕ) (p : ℕ) → IsPlaced g order → CountsReads g (drop p order) left → count_by (still_needed g left) (take p order) ≡ count_by (needed g (drop p order)) (take p order)
held_at g order left p placed counts =
    count_below (still_needed g left) (needed g (drop p order)) (length g.kids) (λ y l. needed_counted g (drop p order) left y (counts.counts y l)) (take p order) (take-All order (length g.kids) p placed.there)

next_taken : (old new : SparesView) (cell : ℕ) → IsTaken old new cell → ((length old.free ≡ 0) × (new.next ≡ old.next + 1)) ⊎ ((0 < length old.free) × (new.next ≡ old.next))
next_taken old new cell taken = elim (eqb_tells (length old.free) 0) [
  | inl t ↦ inl (t.1, ap (λ (s : SparesView). s.next) (taken.fresh_left t.1))
  | inr f ↦ let some : 0 < length old.free = omega (arith, f.1) in inr (some, taken.reused_left some)
]

-- the next cell's number stays within the peak
pub next_within : (taken : Option ℕ) (cells : List ℕ) (old new : SparesView) (cell first held most : ℕ) → IsChoice taken cells old new cell → first + length old.free + held ≡ old.next → old.next ≤ first + most → held + 1 ≤ most → new.next ≤ first + most
next_within None cells old new cell first held most choice counted within more = elim (next_taken old new cell choice) [
  | inl a ↦ omega arith
  | inr a ↦ omega arith
]
next_within (Some c) cells old new cell first held most choice counted within more = let e = ap (λ (s : SparesView). s.next) choice.1 in omega arith

-- the next cell's number after a gate, where so many are held before it
pub next_is : (taken : Option ℕ) (cells : List ℕ) (old new : SparesView) (cell first held : ℕ) → IsChoice taken cells old new cell → first + length old.free + held ≡ old.next → new.next ≡ max old.next (first + held + cells_taken taken)
next_is None cells old new cell first held choice counted = elim (next_taken old new cell choice) [
  | inl a ↦ omega arith
  | inr a ↦ omega arith
]
next_is (Some c) cells old new cell first held choice counted = let e = ap (λ (s : SparesView). s.next) choice.1 in omega arith

-- what is left of the cells after one place more
pub cells_left : (g : GraphView) (order : List ℕ) (over : List (Option ℕ)) (p first old new whole : ℕ) → p < length order → new ≡ max old (first + count_by (needed g (drop p order)) (take p order) + cells_taken (taken_at over p)) → max old (first + cells_from g over (take p order) (drop p order)) ≡ whole → max new (first + cells_from g over (take (p + 1) order) (drop (p + 1) order)) ≡ whole
cells_left g order over p first old new whole here grown before =
    let x = get_or order p 0 in
    let later = drop (p + 1) order in
    let earlier = take p order in
    let cut : drop p order ≡ x ∷ later = drop_more order p 0 here in
    let front : take (p + 1) order ≡ earlier ++ x ∷ [] = take_more order p 0 here in
    let len = length-take p order in
    let place : length earlier ≡ p = omega arith in
    let own : cells_taken (taken_at over (length earlier)) ≡ cells_taken (taken_at over p) = ap (λ (k : ℕ). cells_taken (taken_at over k)) place in
    let here_and_on : cells_from g over earlier (drop p order) ≡ max (count_by (needed g (x ∷ later)) earlier + cells_taken (taken_at over (length earlier))) (cells_from g over (earlier ++ x ∷ []) later) = ap (cells_from g over earlier) cut in
    let readers = ap (λ (ys : List ℕ). count_by (needed g ys) earlier) cut in
    let after = ap (λ (ys : List ℕ). cells_from g over ys later) front in
    omega arith

-- at the end of an order no cell more is taken
pub cells_end : (g : GraphView) (order : List ℕ) (over : List (Option ℕ)) (p first next whole : ℕ) → length order ≤ p → first ≤ next → max next (first + cells_from g over (take p order) (drop p order)) ≡ whole → next ≡ whole
cells_end g order over p first next whole h l e =
    let none = ap (cells_from g over (take p order)) (drop_of_length-le order h) in
    omega arith

-- where no cell is taken over, an order takes as many as it holds values at once
pub cells_peak : (g : GraphView) (over : List (Option ℕ)) (earlier later : List ℕ) → ((p : ℕ) → taken_at over p ≡ None) → cells_from g over earlier later ≡ peak_from g earlier later
cells_peak g over earlier [] none = refl
cells_peak g over earlier (x ∷ later) none =
    let own : cells_taken (taken_at over (length earlier)) ≡ 1 = ap cells_taken (none (length earlier)) in
    let rest = cells_peak g over (earlier ++ x ∷ []) later none in
    omega arith

pub option_all : (taken : Option ℕ) (P : ℕ → Type 0) → ((c : ℕ) → taken ≡ Some c → P c) → MatchOption taken (Unit {0}) P
option_all None P h = tt
option_all (Some c) P h = h c refl

take_whole : (xs : List ℕ) (p : ℕ) → length xs ≤ p → take p xs ≡ xs
take_whole [] zero h = refl
take_whole [] (suc p) h = refl
take_whole (x ∷ xs) zero h = absurd (omega arith)
take_whole (x ∷ xs) (suc p) h = ap (λ (ys : List ℕ). x ∷ ys) (take_whole xs p (omega arith))

-- at the end of the order all its gates have their cells
pub allotted : (g : GraphView) (order left cells : List ℕ) (over : List (Option ℕ)) (p first : ℕ) (s : SparesView) (a : AllotmentView) → length order ≤ p → length cells ≡ length g.kids → a.cells ≡ cells → a.width ≡ s.next → HasCells g order over p cells → IsPool (still_needed g left) (take p order) cells first s → IsAllotment g order over first a
allotted g order left cells over p first s a whole len same width has_cells pool =
    let M : List ℕ → Type 0 = λ xs. IsPool (still_needed g left) xs cells first s in
    let full = subst M (take_whole order p whole) pool in
    let at = λ (y : ℕ). ap (λ (xs : List ℕ). get_or xs y 0) same in
    record {
      len = ap (λ (xs : List ℕ). length xs) same ∙ len;
      room = omega (arith, pool.counted);
      from = λ y h. omega (arith, at y, full.from y h);
      within = λ y h. omega (arith, at y, full.within y h);
      taken = λ q c h e. at (get_or order q 0) ∙ has_cells.taken q c (omega arith) e ∙ sym (at c);
      apart = λ q y h i n o e. has_cells.apart q y (omega arith) i n o (sym (at y) ∙ e ∙ at (get_or order q 0));
    }

-- before the first gate no cell is given out
pub empty_pool : (P : ℕ → Bool) (cells : List ℕ) (first : ℕ) (s : SparesView) → s ≡ record { free = []; next = first } → IsPool P [] cells first s
empty_pool P cells first s e =
    let free = ap (λ (t : SparesView). t.free) e in
    let next = ap (λ (t : SparesView). t.next) e in
    let none = λ (c : ℕ). ap (λ (xs : List ℕ). occurrences xs c) free in
    let len = ap (λ (xs : List ℕ). length xs) free in
    record {
      from = λ y h. absurd (false≢true h);
      within = λ y h. absurd (false≢true h);
      apart = λ y z hy hz py pz i. absurd (false≢true hy);
      unheld = λ y h p. absurd (false≢true h);
      once = λ c. omega (arith, none c);
      free_from = λ c h. absurd (omega (arith, none c));
      free_within = λ c h. absurd (omega (arith, none c));
      counted = omega arith;
    }

pub no_cells : (g : GraphView) (order : List ℕ) (over : List (Option ℕ)) (cells : List ℕ) → HasCells g order over 0 cells
no_cells g order over cells = record { taken = λ q c h e. absurd (omega arith); apart = λ q y h i n o e. absurd (omega arith) }

-- the children of the gate at a place stand once among the gates up to that place
pub children_single : (g : GraphView) (order ks : List ℕ) (p : ℕ) → IsPlaced g order → p < length order → ks ≡ kids_of g (get_or order p 0) → All (λ c. occurrences (take p order ++ get_or order p 0 ∷ []) c ≡ 1) ks
children_single g order ks p placed here e = λ k d l.
    let x = get_or order p 0 in
    let c = get_or ks k d in
    let one : occurrences (take p order) c ≡ 1 = children_once g order p ks placed here e k d l in
    let ne = apart_from (take p order) x c (placed.once p here) (has_once (take p order) c one) in
    let bit = ap (λ (b : Bool). cond {A = ℕ} b 1 0) (eqb_other x c (λ s. ne (sym s))) in
    omega (arith, occurrences-push (take p order) x c)
