-- A graph stays whole as gates and roots are added.
use Rattle.std.proofs.Common.{◌≡◌, ◌≢◌, ℕ, ◌+◌, ◌^◌, ◌<◌, ◌≤◌, suc, Bool, true, false, cond, eqb, ◌||◌, List, [], ◌∷◌, ◌++◌, length, get_or, set, map, All, refl, sym, ◌∙◌, ap, subst, arith, inl, inr}
use Rattle.std.proofs.lemmas.Bool.{cases_eq, cases_lt}
use Rattle.std.proofs.lemmas.Bool.Decides.{nat_tests}
use Rattle.std.proofs.lemmas.List.{get_or_append_left, get_or_push, length_push, length-map, length-set, map_push, map-set, get_or-map, set-get_or, get_or-set_same, get_or-set_other}
use Rattle.std.proofs.lemmas.List.Elements.{All-push}
use Rattle.pim_graph.specs.Graphs.{GraphView, IsGraph, has}
use Rattle.pim_graph.specs.inner.Nodes.{children_of, view_of, IsNodeOf, IsWhole}
use Rattle.pim_graph.specs.declared.graph.Node.{Node}

eqb_other : (a b : ℕ) → a ≢ b → eqb a b ≡ false
eqb_other a b h = grind (arith, nat_tests)

eqb_same : (a b : ℕ) → a ≡ b → eqb a b ≡ true
eqb_same a b h = grind (arith, nat_tests)

-- a number above all of a list is not in it
pub has_none : (xs : List ℕ) (n : ℕ) → All (λ x. x < n) xs → has xs n ≡ false
has_none [] n h = refl
has_none (x ∷ xs) n h =
    let below : x < n = h 0 x (omega arith) in
    let ne : x ≢ n = omega arith in
    ap (λ (b : Bool). b || has xs n) (eqb_other x n ne) ∙ has_none xs n (λ k d l. h (suc k) d (omega arith))

or_assoc : (a b c : Bool) → (a || (b || c)) ≡ ((a || b) || c)
or_assoc true b c = refl
or_assoc false b c = refl

or_false : (b : Bool) → (b || false) ≡ b
or_false true = refl
or_false false = refl

or_true : (b : Bool) → (b || true) ≡ true
or_true true = refl
or_true false = refl

pub has-push : (xs : List ℕ) (y n : ℕ) → has (xs ++ y ∷ []) n ≡ (has xs n || eqb y n)
has-push [] y n = or_false (eqb y n)
has-push (x ∷ xs) y n = ap (λ (b : Bool). eqb x n || b) (has-push xs y n) ∙ or_assoc (eqb x n) (has xs n) (eqb y n)

pub has-push_same : (xs : List ℕ) (y : ℕ) → has (xs ++ y ∷ []) y ≡ true
has-push_same xs y = has-push xs y y ∙ (ap (λ (b : Bool). has xs y || b) (eqb_same y y refl) ∙ or_true (has xs y))

pub has-push_other : (xs : List ℕ) (y n : ℕ) → n ≢ y → has (xs ++ y ∷ []) n ≡ has xs n
has-push_other xs y n h =
    let ne : y ≢ n = λ e. h (sym e) in
    has-push xs y n ∙ (ap (λ (b : Bool). has xs n || b) (eqb_other y n ne) ∙ or_false (has xs n))

-- a gate that reads gates before it
IsGraph-push : (g : GraphView) (ks : List ℕ) → IsGraph g → length g.kids + 1 < 2 ^ 28 → length ks ≤ 4 → All (λ c. c < length g.kids) ks → IsGraph (record g { kids = g.kids ++ ks ∷ [] })
IsGraph-push g ks s room few below =
    let len : length (g.kids ++ ks ∷ []) ≡ length g.kids + 1 = length_push g.kids ks in
    let old : (k : ℕ) → k < length g.kids → get_or (g.kids ++ ks ∷ []) k [] ≡ get_or g.kids k [] = λ k h. get_or_append_left g.kids (ks ∷ []) [] k h in
    let new : (k : ℕ) → length g.kids ≡ k → get_or (g.kids ++ ks ∷ []) k [] ≡ ks = λ k h. get_or_push g.kids ks [] k h in
    record {
      gates_fit = omega arith;
      few = λ k h. elim (cases_lt k (length g.kids)) [
        | inl l ↦ let P : List ℕ → Type 0 = λ xs. length xs ≤ 4 in subst P (sym (old k l)) (s.few k l)
        | inr l ↦ let P : List ℕ → Type 0 = λ xs. length xs ≤ 4 in subst P (sym (new k (omega arith))) few
      ];
      before = λ k h. elim (cases_lt k (length g.kids)) [
        | inl l ↦ subst (All (λ c. c < k)) (sym (old k l)) (s.before k l)
        | inr l ↦
            let e : length g.kids ≡ k = omega arith in
            let P : ℕ → Type 0 = λ n. All (λ c. c < n) ks in
            subst (All (λ c. c < k)) (sym (new k e)) (subst P e below)
      ];
      roots_there = λ k d h. let b = s.roots_there k d h in omega arith;
    }

pub IsWhole-push : (nodes more : List Node) (roots : List ℕ) (n : Node) (ks : List ℕ) → IsWhole nodes roots → IsNodeOf ks n → length ks ≤ 4 → All (λ c. c < length nodes) ks → length nodes + 1 < 2 ^ 28 → more ≡ nodes ++ n ∷ [] → IsWhole more roots
IsWhole-push nodes more roots n ks w is few below room e =
    let g = view_of nodes roots in
    let len : length (map children_of nodes) ≡ length nodes = length-map nodes children_of in
    let P : ℕ → Type 0 = λ m. All (λ c. c < m) ks in
    let grown : IsGraph (record g { kids = g.kids ++ ks ∷ [] }) = IsGraph-push g ks w.sound (omega arith) few (subst P (sym len) below) in
    let kids : map children_of (nodes ++ n ∷ []) ≡ g.kids ++ ks ∷ [] = map_push children_of nodes n ∙ ap (λ (x : List ℕ). map children_of nodes ++ x ∷ []) is.reads in
    let Q : List (List ℕ) → Type 0 = λ xs. IsGraph (record { kids = xs; roots = roots }) in
    let R : List Node → Type 0 = λ xs. IsWhole xs roots in
    let long : length (nodes ++ n ∷ []) ≡ length nodes + 1 = length_push nodes n in
    let F : Node → Type 0 = λ x. x.count ≤ 4 in
    let there : All (λ r. r < length nodes) roots = λ k d h. let b = w.sound.roots_there k d h in omega arith in
    subst R (sym e) (record {
      sound = subst Q (sym kids) grown;
      counts_fit = λ k d h. elim (cases_lt k (length nodes)) [
        | inl l ↦ subst F (sym (get_or_append_left nodes (n ∷ []) d k l)) (w.counts_fit k d l)
        | inr l ↦ subst F (sym (get_or_push nodes n d k (omega arith))) is.fits
      ];
      marked = λ k d h. elim (cases_lt k (length nodes)) [
        | inl l ↦ ap (λ (x : Node). x.is_root) (get_or_append_left nodes (n ∷ []) d k l) ∙ w.marked k d l
        | inr l ↦
            let same : length nodes ≡ k = omega arith in
            ap (λ (x : Node). x.is_root) (get_or_push nodes n d k same) ∙ (is.no_root ∙ (sym (has_none roots (length nodes) there) ∙ ap (has roots) same))
      ];
    })

-- the same reads where one node is made a root
pub kids-set : (nodes : List Node) (k : ℕ) (n : Node) → k < length nodes → children_of n ≡ children_of (get_or nodes k n) → map children_of (set nodes k n) ≡ map children_of nodes
kids-set nodes k n h e =
    map-set children_of nodes k n ∙ (ap (λ (x : List ℕ). set (map children_of nodes) k x) (e ∙ sym (get_or-map children_of nodes k n [] h)) ∙ set-get_or (map children_of nodes) k [])

pub IsWhole-root : (nodes : List Node) (roots more : List ℕ) (k : ℕ) (n : Node) → IsWhole nodes roots → k < length nodes → children_of n ≡ children_of (get_or nodes k n) → n.count ≤ 4 → n.is_root ≡ true → more ≡ roots ++ k ∷ [] → IsWhole (set nodes k n) more
IsWhole-root nodes roots more k n w h reads fits is e =
    let len : length (map children_of nodes) ≡ length nodes = length-map nodes children_of in
    let same : length (set nodes k n) ≡ length nodes = length-set nodes k n in
    let Q : List (List ℕ) → Type 0 = λ xs. IsGraph (record { kids = xs; roots = roots ++ k ∷ [] }) in
    let R : List ℕ → Type 0 = λ xs. IsWhole (set nodes k n) xs in
    let here : k < length (map children_of nodes) = omega arith in
    let s : IsGraph (record { kids = map children_of nodes; roots = roots ++ k ∷ [] }) = record {
      gates_fit = w.sound.gates_fit;
      few = w.sound.few;
      before = w.sound.before;
      roots_there = All-push (λ r. r < length (map children_of nodes)) roots k w.sound.roots_there here;
    } in
    let F : Node → Type 0 = λ x. x.count ≤ 4 in
    subst R (sym e) (record {
      sound = subst Q (sym (kids-set nodes k n h reads)) s;
      counts_fit = λ j d l. elim (cases_eq j k) [
        | inl q ↦ let P : ℕ → Type 0 = λ i. (get_or (set nodes k n) i d).count ≤ 4 in subst P (sym q) (subst F (sym (get_or-set_same nodes k n d h)) fits)
        | inr ne ↦ subst F (sym (get_or-set_other nodes k j n d ne)) (w.counts_fit j d (omega arith))
      ];
      marked = λ j d l. elim (cases_eq j k) [
        | inl q ↦ let P : ℕ → Type 0 = λ i. (get_or (set nodes k n) i d).is_root ≡ has (roots ++ k ∷ []) i in subst P (sym q) (ap (λ (x : Node). x.is_root) (get_or-set_same nodes k n d h) ∙ (is ∙ sym (has-push_same roots k)))
        | inr ne ↦ ap (λ (x : Node). x.is_root) (get_or-set_other nodes k j n d ne) ∙ (w.marked j d (omega arith) ∙ sym (has-push_other roots k j ne))
      ];
    })

-- what a graph becomes where a gate that is no root is made one
pub view-root : (nodes : List Node) (roots more : List ℕ) (k : ℕ) (n : Node) (g : GraphView) → view_of nodes roots ≡ g → k < length nodes → children_of n ≡ children_of (get_or nodes k n) → has roots k ≡ false → more ≡ roots ++ k ∷ [] → view_of (set nodes k n) more ≡ record g { roots = cond (has g.roots k) g.roots (g.roots ++ k ∷ []) }
view-root nodes roots more k n g view h reads no_root e =
    ap (λ (ks : List (List ℕ)). record { kids = ks; roots = more }) (kids-set nodes k n h reads) ∙ (ap (λ (rs : List ℕ). record { kids = map children_of nodes; roots = rs }) (e ∙ ap (λ (b : Bool). cond b roots (roots ++ k ∷ [])) (sym no_root)) ∙ ap (λ (v : GraphView). record v { roots = cond (has v.roots k) v.roots (v.roots ++ k ∷ []) }) view)

-- what a node reads is before it
pub children-before : (nodes : List Node) (roots : List ℕ) (k : ℕ) (n : Node) → IsWhole nodes roots → k < length nodes → n ≡ get_or nodes k n → All (λ c. c < k) (children_of n)
children-before nodes roots k n w h e =
    let len : length (map children_of nodes) ≡ length nodes = length-map nodes children_of in
    let there : k < length (map children_of nodes) = omega arith in
    subst (All (λ c. c < k)) (get_or-map children_of nodes k n [] h ∙ ap children_of (sym e)) (w.sound.before k there)
