-- The order of the gates with their temporaries: its places, and which gates are needed where.
use Rattle.std.proofs.Common.{◌≡◌, ◌⊎◌, ℕ, zero, suc, ◌+◌, ◌*◌, ◌<◌, Bool, true, false, cond, eqb, ◌||◌, List, [], ◌∷◌, ◌++◌, length, get_or, take, drop, flat_map, fold, Option, Some, None, refl, sym, ◌∙◌, ap, arith, inl, inr}
use Rattle.std.proofs.lemmas.Bool.{false≢true}
use Rattle.std.proofs.lemmas.Bool.Decides.{eqb_tells}
use Rattle.std.proofs.lemmas.List.{drop_more}
use Rattle.pim_aig.specs.declared.literal.Lit.{Lit}
use Rattle.pim_graph.specs.Allotments.{taken_at}
use Rattle.pim_graph.specs.Graphs.{GraphView, has, kids_of}
use Rattle.pim_graph.specs.Peaks.{needed, read_by}
use Rattle.pim_mig.specs.Graph.{MigView, size}
use Rattle.pim_rm3.specs.Steps.{mig_graph, step_of}
use Rattle.pim_rm3.specs.Temporaries.{full_graph, gate_number, own_temporary, step_takes, takes_of, temporary_of, temporary_takes, with_gate, with_temporary}
use Rattle.pim_rm3.proofs.Lists.{or_true, split, has_here, has_one, one_has, has_front, has_back, has_either}
use Rattle.pim_rm3.proofs.FullKids.{FullKid, full_kid, temporary_kid, reads_gate}
use Rattle.pim_rm3.proofs.FullKids.FullKid.{node_kid, own_kid}
use Rattle.pim_rm3.proofs.Rows.{bool_cases}

-- gates with their temporaries
abbrev pub flat : MigView → List ℕ → List ℕ
flat g xs = flat_map (with_temporary g) xs

abbrev pub overs : MigView → List ℕ → List (Option ℕ)
overs g xs = flat_map (takes_of g) xs

-- a place of the list is that of a gate or of a temporary
pub record AtGate (g : MigView) (xs fl : List ℕ) (ov : List (Option ℕ)) (p : ℕ) : Type 0 where
  pub i : ℕ
  pub within : i < length xs
  pub front : take p fl ≡ flat g (take i xs) ++ own_temporary (get_or xs i 0) (temporary_of (step_of g (get_or xs i 0)))
  pub back : drop p fl ≡ gate_number (get_or xs i 0) ∷ flat g (drop (i + 1) xs)
  pub takes : taken_at ov p ≡ step_takes (step_of g (get_or xs i 0))

pub record AtTemporary (g : MigView) (xs fl : List ℕ) (ov : List (Option ℕ)) (p : ℕ) : Type 0 where
  pub i : ℕ
  pub wanted : Lit
  pub within : i < length xs
  pub wants : temporary_of (step_of g (get_or xs i 0)) ≡ Some wanted
  pub front : take p fl ≡ flat g (take i xs)
  pub back : drop p fl ≡ 2 * get_or xs i 0 ∷ (gate_number (get_or xs i 0) ∷ flat g (drop (i + 1) xs))
  pub takes : taken_at ov p ≡ None

abbrev pub Place : MigView → List ℕ → List ℕ → List (Option ℕ) → ℕ → Type 0
Place g xs fl ov p = AtGate g xs fl ov p ⊎ AtTemporary g xs fl ov p

abbrev front_of : MigView → ℕ → Option Lit → List ℕ
front_of g x o = own_temporary x o ++ gate_number x ∷ []

abbrev takes_with : MigView → ℕ → Option Lit → List (Option ℕ)
takes_with g x o = temporary_takes o ++ step_takes (step_of g x) ∷ []

shift_none : (g : MigView) (x : ℕ) (xs : List ℕ) (q : ℕ) → temporary_of (step_of g x) ≡ None → Place g xs (flat g xs) (overs g xs) q → Place g (x ∷ xs) (front_of g x None ++ flat g xs) (takes_with g x None ++ overs g xs) (suc q)
shift_none g x xs q is (inl t) = inl (record {
  i = suc t.i;
  within = omega (arith, t.within);
  front =
      ap (λ (ys : List ℕ). gate_number x ∷ ys) t.front
      ∙ ap (λ (o : Option Lit). (front_of g x o ++ flat g (take t.i xs)) ++ own_temporary (get_or xs t.i 0) (temporary_of (step_of g (get_or xs t.i 0)))) (sym is);
  back =
      let e : suc (t.i + 1) ≡ suc t.i + 1 = omega arith in
      t.back ∙ ap (λ (k : ℕ). gate_number (get_or xs t.i 0) ∷ flat g (drop k (x ∷ xs))) e;
  takes = t.takes;
})
shift_none g x xs q is (inr t) = inr (record {
  i = suc t.i;
  wanted = t.wanted;
  within = omega (arith, t.within);
  wants = t.wants;
  front = ap (λ (ys : List ℕ). gate_number x ∷ ys) t.front ∙ ap (λ (o : Option Lit). front_of g x o ++ flat g (take t.i xs)) (sym is);
  back =
      let e : suc (t.i + 1) ≡ suc t.i + 1 = omega arith in
      t.back ∙ ap (λ (k : ℕ). 2 * get_or xs t.i 0 ∷ (gate_number (get_or xs t.i 0) ∷ flat g (drop k (x ∷ xs)))) e;
  takes = t.takes;
})

shift_some : (g : MigView) (x : ℕ) (xs : List ℕ) (q : ℕ) (w : Lit) → temporary_of (step_of g x) ≡ Some w → Place g xs (flat g xs) (overs g xs) q → Place g (x ∷ xs) (front_of g x (Some w) ++ flat g xs) (takes_with g x (Some w) ++ overs g xs) (suc (suc q))
shift_some g x xs q w is (inl t) = inl (record {
  i = suc t.i;
  within = omega (arith, t.within);
  front =
      ap (λ (ys : List ℕ). 2 * x ∷ (gate_number x ∷ ys)) t.front
      ∙ ap (λ (o : Option Lit). (front_of g x o ++ flat g (take t.i xs)) ++ own_temporary (get_or xs t.i 0) (temporary_of (step_of g (get_or xs t.i 0)))) (sym is);
  back =
      let e : suc (t.i + 1) ≡ suc t.i + 1 = omega arith in
      t.back ∙ ap (λ (k : ℕ). gate_number (get_or xs t.i 0) ∷ flat g (drop k (x ∷ xs))) e;
  takes = t.takes;
})
shift_some g x xs q w is (inr t) = inr (record {
  i = suc t.i;
  wanted = t.wanted;
  within = omega (arith, t.within);
  wants = t.wants;
  front = ap (λ (ys : List ℕ). 2 * x ∷ (gate_number x ∷ ys)) t.front ∙ ap (λ (o : Option Lit). front_of g x o ++ flat g (take t.i xs)) (sym is);
  back =
      let e : suc (t.i + 1) ≡ suc t.i + 1 = omega arith in
      t.back ∙ ap (λ (k : ℕ). 2 * get_or xs t.i 0 ∷ (gate_number (get_or xs t.i 0) ∷ flat g (drop k (x ∷ xs)))) e;
  takes = t.takes;
})

place_cons : (g : MigView) (x : ℕ) (xs : List ℕ) (o : Option Lit) → temporary_of (step_of g x) ≡ o → ((q : ℕ) → q < length (flat g xs) → Place g xs (flat g xs) (overs g xs) q) → (p : ℕ) → p < length (front_of g x o ++ flat g xs) → Place g (x ∷ xs) (front_of g x o ++ flat g xs) (takes_with g x o ++ overs g xs) p
place_cons g x xs None is rest zero h = inl (record { i = 0; within = omega arith; front = sym (ap (own_temporary x) is); back = refl; takes = refl })
place_cons g x xs None is rest (suc q) h = shift_none g x xs q is (rest q (omega arith))
place_cons g x xs (Some w) is rest zero h = inr (record { i = 0; wanted = w; within = omega arith; wants = is; front = refl; back = refl; takes = refl })
place_cons g x xs (Some w) is rest (suc zero) h = inl (record { i = 0; within = omega arith; front = sym (ap (own_temporary x) is); back = refl; takes = refl })
place_cons g x xs (Some w) is rest (suc (suc q)) h = shift_some g x xs q w is (rest q (omega arith))

pub place : (g : MigView) (xs : List ℕ) (p : ℕ) → p < length (flat g xs) → Place g xs (flat g xs) (overs g xs) p
place g [] p h = absurd (omega arith)
place g (x ∷ xs) p h = place_cons g x xs (temporary_of (step_of g x)) refl (λ q b. place g xs q b) p h

-- what stands at a place, and what stands after it
pub here_is : (fl rest : List ℕ) (p x : ℕ) → p < length fl → drop p fl ≡ x ∷ rest → get_or fl p 0 ≡ x
here_is fl rest p x h e = ap (λ (ys : List ℕ). get_or ys 0 0) (sym (drop_more fl p 0 h) ∙ e)

pub after_is : (fl rest : List ℕ) (p x : ℕ) → p < length fl → drop p fl ≡ x ∷ rest → drop (p + 1) fl ≡ rest
after_is fl rest p x h e = ap (λ (ys : List ℕ). drop 1 ys) (sym (drop_more fl p 0 h) ∙ e)

-- ---- what the list has
pub own_only : (l n : ℕ) (o : Option Lit) → has (own_temporary l o) n ≡ true → n ≡ 2 * l
own_only l n None h = absurd (false≢true h)
own_only l n (Some e) h = sym (has_one (2 * l) n h)

pub has_flat : (g : MigView) (xs : List ℕ) (l n : ℕ) → (n ≡ gate_number l) ⊎ (n ≡ 2 * l) → has (flat g xs) n ≡ true → has xs l ≡ true
has_flat g [] l n k h = absurd (false≢true h)
has_flat g (x ∷ xs) l n k h = elim (has_either (with_temporary g x) (flat g xs) n h) [
  | inl a ↦ elim (split (own_temporary x (temporary_of (step_of g x))) (gate_number x) n a) [
    | inl o ↦ has_here x l xs (let e = own_only x n (temporary_of (step_of g x)) o in elim k [ inl u ↦ omega arith | inr v ↦ omega arith ])
    | inr s ↦ has_here x l xs (elim k [ inl u ↦ omega arith | inr v ↦ omega arith ])
  ]
  | inr b ↦ or_true (eqb x l) (has xs l) (has_flat g xs l n k b)
]

pub flat_has : (g : MigView) (xs : List ℕ) (l : ℕ) → has xs l ≡ true → has (flat g xs) (gate_number l) ≡ true
flat_has g [] l h = absurd (false≢true h)
flat_has g (x ∷ xs) l h = elim (eqb_tells x l) [
  | inl t ↦
      has_front (with_temporary g x) (flat g xs) (gate_number l)
      (has_back (own_temporary x (temporary_of (step_of g x))) (gate_number x ∷ []) (gate_number l) (one_has (gate_number x) (gate_number l) (ap gate_number t.1)))
  | inr f ↦ has_back (with_temporary g x) (flat g xs) (gate_number l) (flat_has g xs l (sym (ap (λ (b : Bool). b || has xs l) f.0) ∙ h))
]

-- ---- the roots
pub roots_from : (rs old : List ℕ) (n : ℕ) → has (fold with_gate old rs) n ≡ true → (has old n ≡ true) ⊎ ((r : ℕ) × (has rs r ≡ true) × (n ≡ gate_number r))
roots_from [] old n h = inl h
roots_from (r ∷ rs) old n h = elim (roots_from rs (with_gate old r) n h) [
  | inl a ↦ elim (bool_cases (has old (gate_number r))) [
    | inl t ↦ inl (sym (ap (λ (b : Bool). has (cond b old (old ++ gate_number r ∷ [])) n) t) ∙ a)
    | inr f ↦ elim (split old (gate_number r) n (sym (ap (λ (b : Bool). has (cond b old (old ++ gate_number r ∷ [])) n) f) ∙ a)) [
      | inl o ↦ inl o
      | inr s ↦ inr (r, has_here r r rs refl, sym s)
    ]
  ]
  | inr b ↦ inr (b.0, or_true (eqb r b.0) (has rs b.0) b.1, b.2)
]

gate_kept : (old : List ℕ) (r n : ℕ) → has old n ≡ true → has (with_gate old r) n ≡ true
gate_kept old r n h = elim (bool_cases (has old (gate_number r))) [
  | inl t ↦ ap (λ (b : Bool). has (cond b old (old ++ gate_number r ∷ [])) n) t ∙ h
  | inr f ↦ ap (λ (b : Bool). has (cond b old (old ++ gate_number r ∷ [])) n) f ∙ has_front old (gate_number r ∷ []) n h
]

gate_put : (old : List ℕ) (r : ℕ) → has (with_gate old r) (gate_number r) ≡ true
gate_put old r = elim (bool_cases (has old (gate_number r))) [
  | inl t ↦ ap (λ (b : Bool). has (cond b old (old ++ gate_number r ∷ [])) (gate_number r)) t ∙ t
  | inr f ↦ ap (λ (b : Bool). has (cond b old (old ++ gate_number r ∷ [])) (gate_number r)) f ∙ has_back old (gate_number r ∷ []) (gate_number r) (one_has (gate_number r) (gate_number r) refl)
]

roots_kept : (rs old : List ℕ) (n : ℕ) → has old n ≡ true → has (fold with_gate old rs) n ≡ true
roots_kept [] old n h = h
roots_kept (r ∷ rs) old n h = roots_kept rs (with_gate old r) n (gate_kept old r n h)

pub roots_into : (rs old : List ℕ) (l : ℕ) → has rs l ≡ true → has (fold with_gate old rs) (gate_number l) ≡ true
roots_into [] old l h = absurd (false≢true h)
roots_into (r ∷ rs) old l h = elim (eqb_tells r l) [
  | inl t ↦ roots_kept rs (with_gate old r) (gate_number l) (ap (λ (k : ℕ). has (with_gate old r) (gate_number k)) (sym t.1) ∙ gate_put old r)
  | inr f ↦ roots_into rs (with_gate old r) l (sym (ap (λ (b : Bool). b || has rs l) f.0) ∙ h)
]

-- ---- what is needed
read_either : (v : GraphView) (xs ys : List ℕ) (n : ℕ) → read_by v (xs ++ ys) n ≡ true → (read_by v xs n ≡ true) ⊎ (read_by v ys n ≡ true)
read_either v [] ys n h = inr h
read_either v (x ∷ xs) ys n h = elim (bool_cases (has (kids_of v x) n)) [
  | inl t ↦ inl (ap (λ (b : Bool). b || read_by v xs n) t)
  | inr f ↦ elim (read_either v xs ys n (sym (ap (λ (b : Bool). b || read_by v (xs ++ ys) n) f) ∙ h)) [
    | inl a ↦ inl (ap (λ (b : Bool). b || read_by v xs n) f ∙ a)
    | inr b ↦ inr b
  ]
]

read_back : (v : GraphView) (xs ys : List ℕ) (n : ℕ) → read_by v ys n ≡ true → read_by v (xs ++ ys) n ≡ true
read_back v [] ys n h = h
read_back v (x ∷ xs) ys n h = or_true (has (kids_of v x) n) (read_by v (xs ++ ys) n) (read_back v xs ys n h)

read_front : (v : GraphView) (xs ys : List ℕ) (n : ℕ) → read_by v xs n ≡ true → read_by v (xs ++ ys) n ≡ true
read_front v [] ys n h = absurd (false≢true h)
read_front v (x ∷ xs) ys n h = elim (bool_cases (has (kids_of v x) n)) [
  | inl t ↦ ap (λ (b : Bool). b || read_by v (xs ++ ys) n) t
  | inr f ↦ or_true (has (kids_of v x) n) (read_by v (xs ++ ys) n) (read_front v xs ys n (sym (ap (λ (b : Bool). b || read_by v xs n) f) ∙ h))
]

read_one : (v : GraphView) (x n : ℕ) → read_by v (x ∷ []) n ≡ true → has (kids_of v x) n ≡ true
read_one v x n h = elim (bool_cases (has (kids_of v x) n)) [
  | inl t ↦ t
  | inr f ↦ absurd (false≢true (sym (ap (λ (b : Bool). b || false) f) ∙ h))
]

one_read : (v : GraphView) (x n : ℕ) → has (kids_of v x) n ≡ true → read_by v (x ∷ []) n ≡ true
one_read v x n h = ap (λ (b : Bool). b || false) h

own_reads : (v : GraphView) (x n : ℕ) (o : Option Lit) → read_by v (own_temporary x o) n ≡ true → has (kids_of v (2 * x)) n ≡ true
own_reads v x n None h = absurd (false≢true h)
own_reads v x n (Some e) h = read_one v (2 * x) n h

-- who reads a gate: a gate that reads its node, or whose temporary it is
pub data ReadIn (g : MigView) (ys : List ℕ) (n : ℕ) : Type 0 where
  as_node : (k : ℕ) → n ≡ gate_number k → read_by (mig_graph g) ys k ≡ true → ReadIn g ys n
  as_own : (l : ℕ) → n ≡ 2 * l → has ys l ≡ true → ReadIn g ys n

more_read : (g : MigView) (x : ℕ) (ys : List ℕ) (n : ℕ) → ReadIn g ys n → ReadIn g (x ∷ ys) n
more_read g x ys n (as_node k e r) = as_node k e (or_true (has (kids_of (mig_graph g) x) k) (read_by (mig_graph g) ys k) r)
more_read g x ys n (as_own l e h) = as_own l e (or_true (eqb x l) (has ys l) h)

kid_read : (g : MigView) (x : ℕ) (ys : List ℕ) (n : ℕ) → FullKid g x n → ReadIn g (x ∷ ys) n
kid_read g x ys n (node_kid k e r) = as_node k e (ap (λ (b : Bool). b || read_by (mig_graph g) ys k) r)
kid_read g x ys n (own_kid w e is) = as_own x e (has_here x x ys refl)

pub read_in : (g : MigView) (ys : List ℕ) (n : ℕ) → ((l : ℕ) → has ys l ≡ true → l < 2 * size g) → read_by (full_graph g) (flat g ys) n ≡ true → ReadIn g ys n
read_in g [] n there h = absurd (false≢true h)
read_in g (x ∷ ys) n there h =
    let b : x < 2 * size g = there x (has_here x x ys refl) in
    elim (read_either (full_graph g) (with_temporary g x) (flat g ys) n h) [
      | inl a ↦ elim (read_either (full_graph g) (own_temporary x (temporary_of (step_of g x))) (gate_number x ∷ []) n a) [
        | inl o ↦
            let t = temporary_kid g x n b (own_reads (full_graph g) x n (temporary_of (step_of g x)) o) in
            as_node t.node t.same (ap (λ (r : Bool). r || read_by (mig_graph g) ys t.node) t.reads)
        | inr r ↦ kid_read g x ys n (full_kid g x n b (read_one (full_graph g) (gate_number x) n r))
      ]
      | inr r ↦ more_read g x ys n (read_in g ys n (λ l q. there l (or_true (eqb x l) (has ys l) q)) r)
    ]

pub gate_read_in : (g : MigView) (ys : List ℕ) (k : ℕ) → ((l : ℕ) → has ys l ≡ true → l < 2 * size g) → read_by (mig_graph g) ys k ≡ true → read_by (full_graph g) (flat g ys) (gate_number k) ≡ true
gate_read_in g [] k there h = absurd (false≢true h)
gate_read_in g (x ∷ ys) k there h = elim (bool_cases (has (kids_of (mig_graph g) x) k)) [
  | inl t ↦
      read_front (full_graph g) (with_temporary g x) (flat g ys) (gate_number k)
      (read_back (full_graph g) (own_temporary x (temporary_of (step_of g x))) (gate_number x ∷ []) (gate_number k)
      (one_read (full_graph g) (gate_number x) (gate_number k) (reads_gate g x k (there x (has_here x x ys refl)) t)))
  | inr f ↦
      read_back (full_graph g) (with_temporary g x) (flat g ys) (gate_number k)
      (gate_read_in g ys k (λ l q. there l (or_true (eqb x l) (has ys l) q)) (sym (ap (λ (b : Bool). b || read_by (mig_graph g) ys k) f) ∙ h))
]

or_cases : (a b : Bool) → (a || b) ≡ true → (a ≡ true) ⊎ (b ≡ true)
or_cases true b h = inl refl
or_cases false b h = inr h

node_needed : (g : MigView) (ys : List ℕ) (l : ℕ) → ReadIn g ys (gate_number l) → needed (mig_graph g) ys l ≡ true
node_needed g ys l (as_node k e r) =
    let same : k ≡ l = omega arith in
    ap (λ (n : ℕ). read_by (mig_graph g) ys n || has (mig_graph g).roots l) (sym same) ∙ ap (λ (b : Bool). b || has (mig_graph g).roots l) r
node_needed g ys l (as_own k e h) = absurd (omega arith)

-- a gate is needed with the temporaries where it is needed without
pub needed_alone : (g : MigView) (ys : List ℕ) (l : ℕ) → ((k : ℕ) → has ys k ≡ true → k < 2 * size g) → needed (full_graph g) (flat g ys) (gate_number l) ≡ true → needed (mig_graph g) ys l ≡ true
needed_alone g ys l there h = elim (or_cases (read_by (full_graph g) (flat g ys) (gate_number l)) (has (full_graph g).roots (gate_number l)) h) [
  | inl r ↦ node_needed g ys l (read_in g ys (gate_number l) there r)
  | inr r ↦ elim (roots_from (mig_graph g).roots [] (gate_number l) r) [
    | inl none ↦ absurd (false≢true none)
    | inr t ↦
        let same : t.0 ≡ l = omega (arith, t.2) in
        or_true (read_by (mig_graph g) ys l) (has (mig_graph g).roots l) (ap (has (mig_graph g).roots) (sym same) ∙ t.1)
  ]
]

pub needed_with : (g : MigView) (ys : List ℕ) (l : ℕ) → ((k : ℕ) → has ys k ≡ true → k < 2 * size g) → needed (mig_graph g) ys l ≡ true → needed (full_graph g) (flat g ys) (gate_number l) ≡ true
needed_with g ys l there h = elim (or_cases (read_by (mig_graph g) ys l) (has (mig_graph g).roots l) h) [
  | inl r ↦ ap (λ (b : Bool). b || has (full_graph g).roots (gate_number l)) (gate_read_in g ys l there r)
  | inr r ↦ or_true (read_by (full_graph g) (flat g ys) (gate_number l)) (has (full_graph g).roots (gate_number l)) (roots_into (mig_graph g).roots [] l r)
]

own_needed : (g : MigView) (ys : List ℕ) (l : ℕ) → ReadIn g ys (2 * l) → has ys l ≡ true
own_needed g ys l (as_node k e r) = absurd (omega arith)
own_needed g ys l (as_own k e h) = let same : k ≡ l = omega arith in ap (has ys) (sym same) ∙ h

-- a temporary is needed only by its gate
pub temporary_needed : (g : MigView) (ys : List ℕ) (l : ℕ) → ((k : ℕ) → has ys k ≡ true → k < 2 * size g) → needed (full_graph g) (flat g ys) (2 * l) ≡ true → has ys l ≡ true
temporary_needed g ys l there h = elim (or_cases (read_by (full_graph g) (flat g ys) (2 * l)) (has (full_graph g).roots (2 * l)) h) [
  | inl r ↦ own_needed g ys l (read_in g ys (2 * l) there r)
  | inr r ↦ elim (roots_from (mig_graph g).roots [] (2 * l) r) [
    | inl none ↦ absurd (false≢true none)
    | inr t ↦ absurd (omega (arith, t.2))
  ]
]
