-- Marks of the gates that are held, from the last gate of an order to its first.
use Rattle.std.proofs.Common.{◌≡◌, ◌≢◌, ℕ, ◌+◌, ◌-◌, ◌<◌, ◌≤◌, zero, suc, max, Bool, true, false, cond, ◌||◌, List, [], ◌∷◌, ◌++◌, length, get_or, set, take, drop, count_by, All, refl, sym, ◌∙◌, ap, subst, arith, inl, inr}
use Rattle.std.proofs.lemmas.Bool.{cases_eq}
use Rattle.std.proofs.lemmas.List.{get_or-set_same, get_or-set_other, take_more, drop_more, length-take, take_all}
use Rattle.std.proofs.lemmas.List.Sums.{count_by-le-length}
use Rattle.std.proofs.Math.ListN.{drop_of_length-le}
use Rattle.pim_graph.specs.Graphs.{GraphView, has, kids_of}
use Rattle.pim_graph.specs.Peaks.{IsPlaced, needed, peak, peak_from, read_by}
use Rattle.pim_graph.specs.Readers.{occurrences}
use Rattle.pim_graph.specs.inner.Marks.{is_marked}
use Rattle.pim_graph.proofs.Placing.{children_once, count_below, count_push, take-All}
use Rattle.pim_graph.proofs.ReadLemmas.{count_differs, count_same, eqb_is, eqb_not}

or_true : (b : Bool) → (b || true) ≡ true
or_true true = refl
or_true false = refl

or_false : (b : Bool) → (b || false) ≡ b
or_false true = refl
or_false false = refl

-- one of the marks that are wanted is made
pub mark_made : (marks : List Bool) (rest : List ℕ) (c x : ℕ) → c < length marks → (is_marked (set marks c true) x || has rest x) ≡ (is_marked marks x || has (c ∷ rest) x)
mark_made marks rest c x fits = elim (cases_eq x c) [
  | inl same ↦
      let P : ℕ → Type 0 = λ y. (is_marked (set marks c true) y || has rest y) ≡ (is_marked marks y || has (c ∷ rest) y) in
      let made = ap (λ (b : Bool). b || has rest c) (get_or-set_same marks c true false fits) in
      let wanted = ap (λ (b : Bool). is_marked marks c || (b || has rest c)) (eqb_is c c refl) ∙ or_true (is_marked marks c) in
      subst P (sym same) (made ∙ sym wanted)
  | inr other ↦
      let kept = ap (λ (b : Bool). b || has rest x) (get_or-set_other marks c x true false other) in
      let wanted = ap (λ (b : Bool). is_marked marks x || (b || has rest x)) (eqb_not c x (λ s. other (sym s))) in
      kept ∙ sym wanted
]

made_here : (marks : List Bool) (c : ℕ) → c < length marks → is_marked (set marks c true) c ≡ true
made_here marks c fits = get_or-set_same marks c true false fits

made_elsewhere : (marks : List Bool) (c y : ℕ) → y ≢ c → is_marked (set marks c true) y ≡ is_marked marks y
made_elsewhere marks c y other = get_or-set_other marks c y true false other

-- a mark counts once more where it is new
pub mark_counts : (marks : List Bool) (c : ℕ) (earlier : List ℕ) (old : Bool) → c < length marks → occurrences earlier c ≡ 1 → is_marked marks c ≡ old → count_by (is_marked (set marks c true)) earlier ≡ count_by (is_marked marks) earlier + cond old 0 1
mark_counts marks c earlier true fits once before =
    let P : ℕ → Type 0 = λ y. is_marked (set marks c true) y ≡ is_marked marks y in
    let same = count_same (is_marked (set marks c true)) (is_marked marks) (λ y. elim (cases_eq y c) [ inl here ↦ subst P (sym here) (made_here marks c fits ∙ sym before) | inr other ↦ made_elsewhere marks c y other ]) earlier in
    omega arith
mark_counts marks c earlier false fits once before =
    let more = count_differs (is_marked (set marks c true)) (is_marked marks) c (made_elsewhere marks c) (made_here marks c fits) before earlier in
    omega arith

-- one more of a gate's reads is marked
pub reads_marked : (first marks : List Bool) (children : List ℕ) (k n : ℕ) → k < length children → All (λ c. c < n) children → length marks ≡ n → ((x : ℕ) → x < n → (is_marked marks x || has (drop k children) x) ≡ (is_marked first x || has children x)) → (x : ℕ) → x < n → (is_marked (set marks (get_or children k 0) true) x || has (drop (k + 1) children) x) ≡ (is_marked first x || has children x)
reads_marked first marks children k n within there len before x l =
    let fits : get_or children k 0 < n = there k 0 within in
    let made = mark_made marks (drop (k + 1) children) (get_or children k 0) x (omega arith) in
    made ∙ (ap (λ (xs : List ℕ). is_marked marks x || has xs x) (sym (drop_more children k 0 within)) ∙ before x l)

pub reads_counted : (first marks : List Bool) (children : List ℕ) (k n more : ℕ) → k < length children → All (λ c. c < n) children → length marks ≡ n → ((earlier : List ℕ) → All (λ c. occurrences earlier c ≡ 1) children → count_by (is_marked marks) earlier ≡ count_by (is_marked first) earlier + more) → (earlier : List ℕ) → All (λ c. occurrences earlier c ≡ 1) children → count_by (is_marked (set marks (get_or children k 0) true)) earlier ≡ count_by (is_marked first) earlier + (more + cond (is_marked marks (get_or children k 0)) 0 1)
reads_counted first marks children k n more within there len before earlier once =
    let fits : get_or children k 0 < n = there k 0 within in
    let counts = mark_counts marks (get_or children k 0) earlier (is_marked marks (get_or children k 0)) (omega arith) (once k 0 within) refl in
    omega (arith, before earlier once)

-- the marks stand on the gates that the later ones need, `count` counts those of the earlier ones, and `greatest` is the
-- peak from the later ones on
pub record IsHeld (g : GraphView) (earlier later : List ℕ) (marks : List Bool) (count greatest : ℕ) : Type 0 where
  pub len : length marks ≡ length g.kids
  pub marked : (x : ℕ) → x < length g.kids → is_marked marks x ≡ needed g later x
  pub held : count ≡ count_by (needed g later) earlier
  pub most : greatest ≡ peak_from g earlier later

needed_more : (marked read by root : Bool) → marked ≡ (by || root) → (marked || read) ≡ ((read || by) || root)
needed_more marked true by root is = or_true marked
needed_more marked false by root is = or_false marked ∙ is

-- the marks of one more gate's reads
pub held_steps : (g : GraphView) (order : List ℕ) (p : ℕ) (ks : List ℕ) (old new : List Bool) (held more most : ℕ) → IsPlaced g order → p < length order → ks ≡ kids_of g (get_or order p 0) → IsHeld g (take (p + 1) order) (drop (p + 1) order) old held most → ((x : ℕ) → x < length old → is_marked new x ≡ (is_marked old x || has ks x)) → length new ≡ length old → ((earlier : List ℕ) → All (λ c. occurrences earlier c ≡ 1) ks → count_by (is_marked new) earlier ≡ count_by (is_marked old) earlier + more) → IsHeld g (take p order) (drop p order) new (held - cond (is_marked old (get_or order p 0)) 1 0 + more) (max most (held - cond (is_marked old (get_or order p 0)) 1 0 + more + 1))
held_steps g order p ks old new held more most placed within reads before marked len counts =
    let n = length g.kids in
    let x = get_or order p 0 in
    let earlier = take p order in
    let later = drop (p + 1) order in
    let below : All (λ y. y < n) earlier = take-All order n p placed.there in
    let here : x < n = placed.there p 0 within in
    let cut : drop p order ≡ x ∷ later = drop_more order p 0 within in
    let grown : take (p + 1) order ≡ earlier ++ x ∷ [] = take_more order p 0 within in
    let split = ap (count_by (needed g later)) grown ∙ count_push (needed g later) earlier x in
    let bit = ap (λ (b : Bool). cond {A = ℕ} b 1 0) (before.marked x here) in
    let rest : count_by (is_marked old) earlier ≡ count_by (needed g later) earlier = count_below (is_marked old) (needed g later) n before.marked earlier below in
    let all : (y : ℕ) → y < n → is_marked new y ≡ needed g (x ∷ later) y = λ y l.
    let a = marked y (omega (arith, before.len)) in
    let b = ap (λ (xs : List ℕ). is_marked old y || has xs y) reads in
    a ∙ (b ∙ needed_more (is_marked old y) (has (kids_of g x) y) (read_by g later y) (has g.roots y) (before.marked y l)) in
    let count : count_by (is_marked new) earlier ≡ count_by (needed g (x ∷ later)) earlier = count_below (is_marked new) (needed g (x ∷ later)) n all earlier below in
    let added = counts earlier (children_once g order p ks placed within reads) in
    let total : held - cond (is_marked old x) 1 0 + more ≡ count_by (needed g (x ∷ later)) earlier = omega (arith, before.held) in
    let P : List ℕ → Type 0 = λ xs. IsHeld g earlier xs new (held - cond (is_marked old x) 1 0 + more) (max most (held - cond (is_marked old x) 1 0 + more + 1)) in
    let above = ap (λ (ys : List ℕ). peak_from g ys later) grown in
    subst P (sym cut) (record {
      len = len ∙ before.len;
      marked = all;
      held = total;
      most = omega (arith, before.most);
    })

-- the same from a place back to the one before it
pub held_back : (g : GraphView) (order : List ℕ) (q : ℕ) (ks : List ℕ) (old new : List Bool) (held one more most : ℕ) → IsPlaced g order → 0 < q → q ≤ length order → ks ≡ kids_of g (get_or order (q - 1) 0) → IsHeld g (take q order) (drop q order) old held most → one ≡ cond (is_marked old (get_or order (q - 1) 0)) 1 0 → ((x : ℕ) → x < length old → is_marked new x ≡ (is_marked old x || has ks x)) → length new ≡ length old → ((earlier : List ℕ) → All (λ c. occurrences earlier c ≡ 1) ks → count_by (is_marked new) earlier ≡ count_by (is_marked old) earlier + more) → IsHeld g (take (q - 1) order) (drop (q - 1) order) new (held - one + more) (max most (held - one + more + 1))
held_back g order q ks old new held one more most placed some within reads before is marked len counts =
    let e : q ≡ q - 1 + 1 = omega arith in
    let P : ℕ → Type 0 = λ n. IsHeld g (take n order) (drop n order) old held most in
    let Q : ℕ → Type 0 = λ n. IsHeld g (take (q - 1) order) (drop (q - 1) order) new (held - n + more) (max most (held - n + more + 1)) in
    subst Q (sym is) (held_steps g order (q - 1) ks old new held more most placed (omega arith) reads (subst P e before) marked len counts)

-- there are no later gates, and the marks are those of roots
pub held_starts : (g : GraphView) (order : List ℕ) (marks : List Bool) (count : ℕ) → IsPlaced g order → length marks ≡ length g.kids → ((x : ℕ) → x < length g.kids → is_marked marks x ≡ has g.roots x) → count ≡ count_by (is_marked marks) order → IsHeld g (take (length order) order) (drop (length order) order) marks count 0
held_starts g order marks count placed len roots is =
    let all = take_all (length order) order (omega arith) in
    let none = drop_of_length-le order (omega arith) in
    let P : List ℕ → Type 0 = λ xs. IsHeld g xs (drop (length order) order) marks count 0 in
    let Q : List ℕ → Type 0 = λ xs. IsHeld g order xs marks count 0 in
    subst P (sym all) (subst Q (sym none) (record {
      len = len;
      marked = roots;
      held = is ∙ count_below (is_marked marks) (needed g []) (length g.kids) roots order placed.there;
      most = refl;
    }))

pub held_few : (g : GraphView) (order : List ℕ) (q : ℕ) (marks : List Bool) (count most : ℕ) → q ≤ length order → IsHeld g (take q order) (drop q order) marks count most → count ≤ length order
held_few g order q marks count most within held =
    let a = count_by-le-length (needed g (drop q order)) (take q order) in
    let b = length-take q order in
    omega (arith, held.held)

-- there are no earlier gates
pub held_ends : (g : GraphView) (order : List ℕ) (q : ℕ) (marks : List Bool) (count most : ℕ) → q ≤ 0 → IsHeld g (take q order) (drop q order) marks count most → most ≡ peak g order
held_ends g order zero marks count most end held = held.most
held_ends g order (suc q) marks count most end held = absurd (omega arith)
