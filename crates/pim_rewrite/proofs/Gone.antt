-- A distribution pass leaves fewer needed nodes: of each case two nodes are gone, and one comes.
use Rattle.std.proofs.Common.{◌≡◌, ◌≢◌, ◌⊎◌, ℕ, zero, suc, ◌+◌, ◌-◌, ◌*◌, ◌<◌, ◌≤◌, Bool, true, false, cond, ltb, not, ◌&&◌, List, [], ◌∷◌, ◌++◌, length, get_or, Option, Some, None, refl, sym, ◌∙◌, ap, subst, arith, inl, inr, length-append}
use Rattle.std.specs.Prelude.{is_some}
use Rattle.std.proofs.lemmas.Bool.Decides.{eqb_tells}
use Rattle.pim_aig.specs.Literals.{node}
use Rattle.pim_aig.specs.declared.literal.Lit.{Lit}
use Rattle.pim_mig.specs.Graph.{IsApart, IsMig, MigView}
use Rattle.pim_mig.specs.Laws.{IsFront, IsOperand, NodeLaws}
use Rattle.pim_mig.specs.Majs.{begun, Making}
use Rattle.pim_aig.specs.Moving.{moved}
use Rattle.pim_mig.specs.Needs.{is_needed, named, needed_count, reads, times}
use Rattle.pim_mig.specs.Nodes.{made}
use Rattle.pim_mig.specs.declared.node.Maj.{Maj}
use Rattle.pim_rewrite.specs.Cases.{case_of, distribute, has_case, has_case_from, inner, is_spreadable, node_at, outer, spread}
use Rattle.pim_rewrite.specs.Passes.{after, moved_node, Step}
use Rattle.pim_rewrite.specs.declared.cases.Case.{Case}
use Rattle.pim_rewrite.proofs.Closing.{closed_front, Closes, IsClosed, IsCovered, IsLive, live_by, live_more, live_self, lives_from, made_closed, node_operand, operand_node, passed_live}
use Rattle.pim_rewrite.proofs.Counting.{AreMarked, counted, counted_is, IsDistinct, without_all, without_list}
use Rattle.pim_rewrite.proofs.Frame.{AreBefore, AtNode, before_rest, bool_cases, front_both, Grows, is_positive, mig_before, mig_reads, none, one_if, operand_needed, operand_times, ops, output_times, positive, reads_of, reads_part, times_append, true_not_false}
use Rattle.pim_rewrite.proofs.NoMore.{moved_live, operands_live, three_live}
use Rattle.pim_rewrite.proofs.Values.{AreRest, at_rest, rest_all, rest_next}
use Rattle.pim_rewrite.proofs.Views.{at_single, both, either, IsCase, matches, node_apart, operand_before, pair_of, shares, Single, single, Taken, taken_apart, taken_operands, v_operand, View, view}
use Rattle.pim_rewrite.proofs.Views.Taken.{xyz, xzy, yzx}
use Rattle.pim_rewrite.proofs.Views.View.{a_case, no_case}

-- ---- what is gone
-- the nodes that the cases of these take away
abbrev pub gone_from : (ℕ → Bool) → MigView → ℕ → List Maj → List ℕ
gone_from needed g n [] = []
gone_from needed g n (m ∷ rest) = cond (needed n) (pair_of g m) [] ++ gone_from needed g (suc n) rest

abbrev pub gone_list : MigView → List ℕ
gone_list g = gone_from (is_needed g) g (1 + g.inputs) g.nodes

abbrev pub gone : MigView → ℕ → Bool
gone g i = ltb 0 (times i (gone_list g))

taken_times : (m : Maj) (e f w : Lit) (i : ℕ) → Taken m e f w → times i (node e ∷ node f ∷ []) ≤ times i (ops m)
taken_times m e f w i (xyz a b d) =
    let p = ap (λ (l : Lit). times i (node l ∷ node f ∷ [])) a in
    let q = ap (λ (l : Lit). times i (node m.x ∷ node l ∷ [])) b in
    omega arith
taken_times m e f w i (xzy a b d) =
    let p = ap (λ (l : Lit). times i (node l ∷ node f ∷ [])) a in
    let q = ap (λ (l : Lit). times i (node m.x ∷ node l ∷ [])) b in
    omega arith
taken_times m e f w i (yzx a b d) =
    let p = ap (λ (l : Lit). times i (node l ∷ node f ∷ [])) a in
    let q = ap (λ (l : Lit). times i (node m.y ∷ node l ∷ [])) b in
    omega arith

pair_few_by : (g : MigView) (m : Maj) (i : ℕ) → View g m → times i (pair_of g m) ≤ times i (ops m)
pair_few_by g m i (no_case n p) = let e = ap (times i) p in omega arith
pair_few_by g m i (a_case e f w c is) = let p = ap (times i) is.pair in let q = taken_times m e f w i is.taken in omega arith

pair_few : (g : MigView) (m : Maj) (i : ℕ) → times i (pair_of g m) ≤ times i (ops m)
pair_few g m i = pair_few_by g m i (view g m)

-- a node that is read once, and that no output is of
record IsOnce (g : MigView) (i : ℕ) : Type 0 where
  majority : g.inputs < i
  once : reads g i ≡ 1
  unnamed : named g i ≡ 0

once_at : (g : MigView) (e : Lit) (i : ℕ) → node e ≡ i → Single g e → IsOnce g i
once_at g e i is s =
    let a = ap (reads g) is in
    let b = ap (named g) is in
    record { majority = omega (arith, s.majority); once = omega (arith, s.once); unnamed = omega (arith, s.unnamed) }

pair_once : (g : MigView) (m : Maj) (i : ℕ) → View g m → 0 < times i (pair_of g m) → IsOnce g i
pair_once g m i (no_case n p) h = let e = ap (times i) p in absurd (let z : ⊥ = omega arith in z)
pair_once g m i (a_case e f w c is) h = elim (eqb_tells (node e) i) [
  | inl a ↦ once_at g e i a.1 (single g e is.first)
  | inr a ↦ elim (eqb_tells (node f) i) [
    | inl b ↦ once_at g f i b.1 (single g f is.second)
    | inr b ↦
        let p = ap (times i) is.pair in
        let q = ap one_if a.0 in
        let r = ap one_if b.0 in
        absurd (let z : ⊥ = omega arith in z)
  ]
]

some_times : (i : ℕ) (b : Bool) (xs ys : List ℕ) → 0 < times i (cond b xs [] ++ ys) → (0 < times i xs) ⊎ (0 < times i ys)
some_times i true xs ys h = let e = times_append i xs ys in elim (eqb_tells (times i xs) 0) [
  | inl z ↦ inr (omega (arith, z.1))
  | inr z ↦ inl (omega (arith, z.1))
]
some_times i false xs ys h = inr h

gone_once : (needed : ℕ → Bool) (g : MigView) (n : ℕ) (rest : List Maj) (i : ℕ) → 0 < times i (gone_from needed g n rest) → IsOnce g i
gone_once needed g n [] i h = absurd (let z : ⊥ = omega arith in z)
gone_once needed g n (m ∷ rest) i h = elim (some_times i (needed n) (pair_of g m) (gone_from needed g (suc n) rest) h) [
  | inl a ↦ pair_once g m i (view g m) a
  | inr a ↦ gone_once needed g (suc n) rest i a
]

cond_few : (b : Bool) (xs ys : List ℕ) (i : ℕ) → times i xs ≤ times i ys → times i (cond b xs []) ≤ times i (cond b ys [])
cond_few true xs ys i h = h
cond_few false xs ys i h = omega arith

gone_few : (needed : ℕ → Bool) (g : MigView) (n : ℕ) (rest : List Maj) (i : ℕ) → times i (gone_from needed g n rest) ≤ times i (reads_of needed n rest)
gone_few needed g n [] i = omega arith
gone_few needed g n (m ∷ rest) i =
    let e = times_append i (cond (needed n) (pair_of g m) []) (gone_from needed g (suc n) rest) in
    let f = times_append i (cond (needed n) (ops m) []) (reads_of needed (suc n) rest) in
    omega (arith, cond_few (needed n) (pair_of g m) (ops m) i (pair_few g m i), gone_few needed g (suc n) rest i)

-- what a node reads and its case does not take away is read besides
gone_bound : (needed : ℕ → Bool) (g : MigView) (n : ℕ) (rest : List Maj) (j : ℕ) (d : Maj) (i : ℕ) → j < length rest → needed (n + j) ≡ true → times i (gone_from needed g n rest) + times i (ops (get_or rest j d)) ≤ times i (reads_of needed n rest) + times i (pair_of g (get_or rest j d))
gone_bound needed g n [] j d i h e = absurd (omega arith)
gone_bound needed g n (m ∷ rest) zero d i h e =
    let at : needed n ≡ true = ap needed (let z : n ≡ n + 0 = omega arith in z) ∙ e in
    let p = times_append i (cond (needed n) (pair_of g m) []) (gone_from needed g (suc n) rest) in
    let q = times_append i (cond (needed n) (ops m) []) (reads_of needed (suc n) rest) in
    let r = ap (λ (b : Bool). times i (cond b (pair_of g m) [])) at in
    let s = ap (λ (b : Bool). times i (cond b (ops m) [])) at in
    omega (arith, gone_few needed g (suc n) rest i)
gone_bound needed g n (m ∷ rest) (suc j) d i h e =
    let at : needed (suc n + j) ≡ true = ap needed (let z : suc n + j ≡ n + suc j = omega arith in z) ∙ e in
    let p = times_append i (cond (needed n) (pair_of g m) []) (gone_from needed g (suc n) rest) in
    let q = times_append i (cond (needed n) (ops m) []) (reads_of needed (suc n) rest) in
    omega (arith, cond_few (needed n) (pair_of g m) (ops m) i (pair_few g m i), gone_bound needed g (suc n) rest j d i (omega arith) at)

-- what a node reads and its case does not take away stays
pub stays : (g : MigView) (k : ℕ) (m : Maj) (i : ℕ) → IsMig g → AtNode g k m → 0 < times i (ops m) → times i (pair_of g m) ≡ 0 → gone g i ≡ false
stays g k m i sound at h p = elim (bool_cases (gone g i)) [
  | inr f ↦ f
  | inl t ↦
      let is_gone = positive (times i (gone_list g)) t in
      let o = gone_once (is_needed g) g (1 + g.inputs) g.nodes i is_gone in
      let b = gone_bound (is_needed g) g (1 + g.inputs) g.nodes k none i at.there at.needed in
      let x = ap (λ (n : Maj). times i (ops n)) at.is in
      let y = ap (λ (n : Maj). times i (pair_of g n)) at.is in
      absurd (let z : ⊥ = omega (arith, mig_reads g sound i, o.once) in z)
]

-- ---- nodes that are read twice
reads_two : (needed : ℕ → Bool) (n : ℕ) (nodes : List Maj) (j k : ℕ) (d : Maj) (i : ℕ) → j < k → k < length nodes → needed (n + j) ≡ true → needed (n + k) ≡ true → times i (ops (get_or nodes j d)) + times i (ops (get_or nodes k d)) ≤ times i (reads_of needed n nodes)
reads_two needed n [] j k d i b h e f = absurd (omega arith)
reads_two needed n (m ∷ rest) j zero d i b h e f = absurd (omega arith)
reads_two needed n (m ∷ rest) zero (suc k) d i b h e f =
    let at : needed n ≡ true = ap needed (let z : n ≡ n + 0 = omega arith in z) ∙ e in
    let to : needed (suc n + k) ≡ true = ap needed (let z : suc n + k ≡ n + suc k = omega arith in z) ∙ f in
    let q = times_append i (cond (needed n) (ops m) []) (reads_of needed (suc n) rest) in
    let s = ap (λ (v : Bool). times i (cond v (ops m) [])) at in
    omega (arith, reads_part needed (suc n) rest k d i (omega arith) to)
reads_two needed n (m ∷ rest) (suc j) (suc k) d i b h e f =
    let at : needed (suc n + j) ≡ true = ap needed (let z : suc n + j ≡ n + suc j = omega arith in z) ∙ e in
    let to : needed (suc n + k) ≡ true = ap needed (let z : suc n + k ≡ n + suc k = omega arith in z) ∙ f in
    let q = times_append i (cond (needed n) (ops m) []) (reads_of needed (suc n) rest) in
    omega (arith, reads_two needed (suc n) rest j k d i (omega arith) (omega arith) at to)

two_orders : (j k : ℕ) → j ≢ k → (j < k) ⊎ (k < j)
two_orders zero zero h = absurd (h refl)
two_orders zero (suc k) h = inl (omega arith)
two_orders (suc j) zero h = inr (omega arith)
two_orders (suc j) (suc k) h = elim (two_orders j k (λ e. h (ap suc e))) [
  | inl a ↦ inl (omega arith)
  | inr a ↦ inr (omega arith)
]

read_twice : (g : MigView) (j k : ℕ) (a b : Maj) (i : ℕ) → IsMig g → AtNode g j a → AtNode g k b → j ≢ k → 0 < times i (ops a) → 0 < times i (ops b) → 1 < reads g i
read_twice g j k a b i sound at to apart p q =
    let x = ap (λ (n : Maj). times i (ops n)) at.is in
    let y = ap (λ (n : Maj). times i (ops n)) to.is in
    elim (two_orders j k apart) [
      | inl h ↦ omega (arith, reads_two (is_needed g) (1 + g.inputs) g.nodes j k none i h to.there at.needed to.needed, mig_reads g sound i)
      | inr h ↦ omega (arith, reads_two (is_needed g) (1 + g.inputs) g.nodes k j none i h at.there to.needed at.needed, mig_reads g sound i)
    ]

not_spreadable : (g : MigView) (l : Lit) → 1 < reads g (node l) → is_spreadable g l ≡ false
not_spreadable g l h = elim (bool_cases (is_spreadable g l)) [
  | inr f ↦ f
  | inl t ↦ absurd (let z : ⊥ = omega (arith, (single g l t).once) in z)
]

twice_stays : (g : MigView) (i : ℕ) → 1 < reads g i → gone g i ≡ false
twice_stays g i h = elim (bool_cases (gone g i)) [
  | inr f ↦ f
  | inl t ↦ absurd (let z : ⊥ = omega (arith, (gone_once (is_needed g) g (1 + g.inputs) g.nodes i (positive (times i (gone_list g)) t)).once) in z)
]

-- an operand is one of those that a case takes, or the third
operand_taken : (m : Maj) (e f w l : Lit) → Taken m e f w → IsOperand l m → (l ≡ e) ⊎ ((l ≡ f) ⊎ (l ≡ w))
operand_taken m e f w l (xyz a b d) h = elim h [
  | inl p ↦ inl (p ∙ sym a)
  | inr r ↦ elim r [ inl p ↦ inr (inl (p ∙ sym b)) | inr p ↦ inr (inr (p ∙ sym d)) ]
]
operand_taken m e f w l (xzy a b d) h = elim h [
  | inl p ↦ inl (p ∙ sym a)
  | inr r ↦ elim r [ inl p ↦ inr (inr (p ∙ sym d)) | inr p ↦ inr (inl (p ∙ sym b)) ]
]
operand_taken m e f w l (yzx a b d) h = elim h [
  | inl p ↦ inr (inr (p ∙ sym d))
  | inr r ↦ elim r [ inl p ↦ inl (p ∙ sym a) | inr p ↦ inr (inl (p ∙ sym b)) ]
]

third_is : (g : MigView) (m : Maj) (e f w c l : Lit) → Taken m e f w → is_spreadable g e ≡ true → is_spreadable g f ≡ true → IsOperand l m → is_spreadable g l ≡ false → l ≡ w
third_is g m e f w c l taken p q h not = elim (operand_taken m e f w l taken h) [
  | inl a ↦ absurd (true_not_false (is_spreadable g l) (ap (is_spreadable g) a ∙ p) not)
  | inr r ↦ elim r [
    | inl a ↦ absurd (true_not_false (is_spreadable g l) (ap (is_spreadable g) a ∙ q) not)
    | inr a ↦ a
  ]
]

-- a node of which two operands are not read once has no case
no_pair : (g : MigView) (m : Maj) (s t : Lit) → View g m → IsOperand s m → IsOperand t m → node s ≢ node t → is_spreadable g s ≡ false → is_spreadable g t ≡ false → pair_of g m ≡ []
no_pair g m s t (no_case n p) hs ht apart ns nt = p
no_pair g m s t (a_case e f w c is) hs ht apart ns nt =
    let a = third_is g m e f w s s is.taken is.first is.second hs ns in
    let b = third_is g m e f w t t is.taken is.first is.second ht nt in
    absurd (apart (ap node (a ∙ sym b)))

-- ---- the literals of a case
-- a literal is of a needed node before this one that is not gone
pub record IsKept (g : MigView) (n : ℕ) (l : Lit) : Type 0 where
  pub before : node l < n
  pub needed : is_needed g (node l) ≡ true
  pub stays : gone g (node l) ≡ false

pub record AreKept (g : MigView) (n : ℕ) (c : Case) : Type 0 where
  pub s : IsKept g n c.s
  pub t : IsKept g n c.t
  pub u : IsKept g n c.u
  pub v : IsKept g n c.v
  pub w : IsKept g n c.w

needed_operand : (g : MigView) (k : ℕ) (m : Maj) (l : Lit) → IsMig g → AtNode g k m → IsOperand l m → is_needed g (node l) ≡ true
needed_operand g k m l sound at h = operand_needed g k m (node l) sound at (elim h [
  | inl e ↦ inl (ap node e)
  | inr r ↦ elim r [ inl e ↦ inr (inl (ap node e)) | inr e ↦ inr (inr (ap node e)) ]
])

apart_places : (p q i : ℕ) → i < p → i < q → p ≢ q → p - (1 + i) ≢ q - (1 + i)
apart_places p q i a b h e = h (omega arith)

none_of_two : (i a b : ℕ) → a ≢ i → b ≢ i → times i (a ∷ b ∷ []) ≡ 0
none_of_two i a b p q = elim (eqb_tells a i) [
  | inl e ↦ absurd (p e.1)
  | inr x ↦ elim (eqb_tells b i) [
    | inl e ↦ absurd (q e.1)
    | inr y ↦ let s = ap one_if x.0 in let t = ap one_if y.0 in omega arith
  ]
]

pub kept : (g : MigView) (k : ℕ) (m : Maj) (e f w : Lit) (c : Case) → IsMig g → AtNode g k m → IsCase g m e f w c → AreKept g (1 + g.inputs + k) c
kept g k m e f w c sound at is =
    let o = taken_operands m e f w is.taken in
    let ap3 = taken_apart m e f w (node_apart g k m sound at) is.taken in
    let one = single g e is.first in
    let two = single g f is.second in
    let a = node_at g e in
    let b = node_at g f in
    let ka = node e - (1 + g.inputs) in
    let kb = node f - (1 + g.inputs) in
    let at_a = at_single g k m e sound at o.0 one in
    let at_b = at_single g k m f sound at o.1 two in
    let places = apart_places (node e) (node f) g.inputs one.majority two.majority ap3.ef in
    let sh = shares a b w c (node_apart g ka a sound at_a) (matches a b w c is.match) in
    let e_before = operand_before g k m e sound at o.0 in
    let f_before = operand_before g k m f sound at o.1 in
    let twice_s = read_twice g ka kb a b (node c.s) sound at_a at_b places (operand_node c.s a sh.s_first) (operand_node c.s b sh.s_second) in
    let twice_t = read_twice g ka kb a b (node c.t) sound at_a at_b places (operand_node c.t a sh.t_first) (operand_node c.t b sh.t_second) in
    let no_s = not_spreadable g c.s twice_s in
    let no_t = not_spreadable g c.t twice_t in
    let none_a = no_pair g a c.s c.t (view g a) sh.s_first sh.t_first sh.apart no_s no_t in
    let none_b = no_pair g b c.s c.t (view g b) sh.s_second sh.t_second sh.apart no_s no_t in
    let vb = v_operand a b w c sh in
    let w_is : node c.w ≡ node w = ap node sh.w_is in
    let wm : IsOperand c.w m = let P : Lit → Type 0 = λ l. IsOperand l m in subst P (sym sh.w_is) o.2 in
    let none_w : times (node c.w) (pair_of g m) ≡ 0 =
    ap (times (node c.w)) is.pair ∙ none_of_two (node c.w) (node e) (node f) (λ z. ap3.ew (z ∙ w_is)) (λ z. ap3.fw (z ∙ w_is)) in
    record {
      s = record { before = (let p = operand_before g ka a c.s sound at_a sh.s_first in omega (arith, one.majority)); needed = needed_operand g ka a c.s sound at_a sh.s_first; stays = twice_stays g (node c.s) twice_s };
      t = record { before = (let p = operand_before g ka a c.t sound at_a sh.t_first in omega (arith, one.majority)); needed = needed_operand g ka a c.t sound at_a sh.t_first; stays = twice_stays g (node c.t) twice_t };
      u = record { before = (let p = operand_before g ka a c.u sound at_a sh.u_first in omega (arith, one.majority)); needed = needed_operand g ka a c.u sound at_a sh.u_first; stays = stays g ka a (node c.u) sound at_a (operand_node c.u a sh.u_first) (ap (times (node c.u)) none_a) };
      v = record { before = (let p = operand_before g kb b c.v sound at_b vb in omega (arith, two.majority)); needed = needed_operand g kb b c.v sound at_b vb; stays = stays g kb b (node c.v) sound at_b (operand_node c.v b vb) (ap (times (node c.v)) none_b) };
      w = record { before = operand_before g k m c.w sound at wm; needed = needed_operand g k m c.w sound at wm; stays = stays g k m (node c.w) sound at (operand_node c.w m wm) none_w };
    }

-- ---- the step
abbrev pub spreads : MigView → Step
spreads g st m = spread (case_of g m) g.inputs st m

-- the node that comes
abbrev pub extra_by : Option Case → ℕ → Making → List ℕ
extra_by None inputs st = []
extra_by (Some c) inputs st = node (made inputs st.nodes (inner st.lits c)).lit ∷ []

abbrev pub extra : MigView → Making → Maj → List ℕ
extra g st m = extra_by (case_of g m) g.inputs st

spread_front : (laws : NodeLaws) (inputs : ℕ) (o : Option Case) (st : Making) (m : Maj) → IsFront st.nodes (spread o inputs st m).nodes
spread_front laws inputs None st m = laws.fronts inputs st.nodes (moved_node st.lits m)
spread_front laws inputs (Some c) st m =
    let d = made inputs st.nodes (inner st.lits c) in
    front_both st.nodes d.nodes (made inputs d.nodes (outer st.lits c d.lit)).nodes (laws.fronts inputs st.nodes (inner st.lits c)) (laws.fronts inputs d.nodes (outer st.lits c d.lit))

pub spread_grows : (laws : NodeLaws) (g : MigView) → Grows (spreads g)
spread_grows laws g = record { front = λ st m. spread_front laws g.inputs (case_of g m) st m }

kept_live : (g : MigView) (lits : List Lit) (live : List ℕ) (l : Lit) (n : ℕ) → length lits ≡ n → IsCovered g (gone g) lits live → IsKept g n l → IsLive g.inputs live (node (moved lits l))
kept_live g lits live l n len cov is = moved_live g (gone g) lits live l cov (omega (arith, is.before)) is.needed is.stays

inner_closed : (laws : NodeLaws) (g : MigView) (st : Making) (live : List ℕ) (c : Case) (n : ℕ) → length st.lits ≡ n → IsClosed g.inputs st.nodes live → IsCovered g (gone g) st.lits live → AreKept g n c → IsClosed g.inputs (made g.inputs st.nodes (inner st.lits c)).nodes (node (made g.inputs st.nodes (inner st.lits c)).lit ∷ live)
inner_closed laws g st live c n len cl cov is =
    made_closed laws g.inputs st.nodes (inner st.lits c) live cl
    (three_live g.inputs live (inner st.lits c) (kept_live g st.lits live c.u n len cov is.u) (kept_live g st.lits live c.v n len cov is.v) (kept_live g st.lits live c.w n len cov is.w))

-- the case of a node, if it has one
pub same_case : (o : Option Case) (c d : Case) → o ≡ Some c → o ≡ Some d → c ≡ d
same_case o c d e f = let g : Some c ≡ Some d = sym e ∙ f in (let h : c ≡ d = cc in h)

kept_of : (g : MigView) (k : ℕ) (m : Maj) (c : Case) → IsMig g → AtNode g k m → case_of g m ≡ Some c → View g m → AreKept g (1 + g.inputs + k) c
kept_of g k m c sound at is (no_case n p) = absurd (let e : Some c ≡ None = sym is ∙ n in let z : ⊥ = cc in z)
kept_of g k m c sound at is (a_case e f w d ic) = subst (AreKept g (1 + g.inputs + k)) (same_case (case_of g m) d c ic.is is) (kept g k m e f w d sound at ic)

no_pair_of : (g : MigView) (m : Maj) → case_of g m ≡ None → View g m → pair_of g m ≡ []
no_pair_of g m is (no_case n p) = p
no_pair_of g m is (a_case e f w d ic) = absurd (let e : Some d ≡ None = sym ic.is ∙ is in let z : ⊥ = cc in z)

plain_live : (g : MigView) (k : ℕ) (m : Maj) (lits : List Lit) (live : List ℕ) → IsMig g → AtNode g k m → length lits ≡ 1 + g.inputs + k → IsCovered g (gone g) lits live → case_of g m ≡ None → (i : ℕ) → 0 < times i (ops (moved_node lits m)) → IsLive g.inputs live i
plain_live g k m lits live sound at len cov is =
    let p = no_pair_of g m is (view g m) in
    operands_live g (gone g) k m lits live sound at len cov
    (stays g k m (node m.x) sound at (operand_times (node m.x) m (inl refl)) (ap (times (node m.x)) p))
    (stays g k m (node m.y) sound at (operand_times (node m.y) m (inr (inl refl))) (ap (times (node m.y)) p))
    (stays g k m (node m.z) sound at (operand_times (node m.z) m (inr (inr refl))) (ap (times (node m.z)) p))

added_by : (laws : NodeLaws) (g : MigView) (st : Making) (live : List ℕ) (k : ℕ) (m : Maj) (o : Option Case) → case_of g m ≡ o → IsMig g → AtNode g k m → length st.lits ≡ 1 + g.inputs + k → IsClosed g.inputs st.nodes live → IsCovered g (gone g) st.lits live → IsClosed g.inputs (spread o g.inputs st m).nodes (extra_by o g.inputs st ++ live)
added_by laws g st live k m None is sound at len cl cov = closed_front g.inputs st.nodes (made g.inputs st.nodes (moved_node st.lits m)).nodes live cl (laws.fronts g.inputs st.nodes (moved_node st.lits m))
added_by laws g st live k m (Some c) is sound at len cl cov =
    let d = made g.inputs st.nodes (inner st.lits c) in
    closed_front g.inputs d.nodes (made g.inputs d.nodes (outer st.lits c d.lit)).nodes (node d.lit ∷ live)
    (inner_closed laws g st live c (1 + g.inputs + k) len cl cov (kept_of g k m c sound at is (view g m)))
    (laws.fronts g.inputs d.nodes (outer st.lits c d.lit))

lived_by : (laws : NodeLaws) (g : MigView) (st : Making) (live : List ℕ) (k : ℕ) (m : Maj) (o : Option Case) → case_of g m ≡ o → IsMig g → AtNode g k m → length st.lits ≡ 1 + g.inputs + k → IsClosed g.inputs st.nodes live → IsCovered g (gone g) st.lits live → IsClosed g.inputs (spread o g.inputs st m).nodes (node (spread o g.inputs st m).lit ∷ extra_by o g.inputs st ++ live)
lived_by laws g st live k m None is sound at len cl cov = made_closed laws g.inputs st.nodes (moved_node st.lits m) live cl (plain_live g k m st.lits live sound at len cov is)
lived_by laws g st live k m (Some c) is sound at len cl cov =
    let n = 1 + g.inputs + k in
    let a = kept_of g k m c sound at is (view g m) in
    let d = made g.inputs st.nodes (inner st.lits c) in
    let q = node d.lit in
    made_closed laws g.inputs d.nodes (outer st.lits c d.lit) (q ∷ live) (inner_closed laws g st live c n len cl cov a)
    (three_live g.inputs (q ∷ live) (outer st.lits c d.lit)
    (live_more g.inputs live q (node (moved st.lits c.s)) (kept_live g st.lits live c.s n len cov a.s))
    (live_more g.inputs live q (node (moved st.lits c.t)) (kept_live g st.lits live c.t n len cov a.t))
    (live_self g.inputs q live))

pub spread_closes : (laws : NodeLaws) (g : MigView) → IsMig g → Closes (spreads g) g (gone g) (extra g)
spread_closes laws g sound = record {
  added = λ st live k m at len cl cov h. added_by laws g st live k m (case_of g m) refl sound at len cl cov;
  lived = λ st live k m at len cl cov h. lived_by laws g st live k m (case_of g m) refl sound at len cl cov;
}

-- ---- counting
abbrev case_one : Option Case → ℕ
case_one None = 0
case_one (Some c) = 1

-- how many of these nodes have a case
abbrev cases_from : (ℕ → Bool) → MigView → ℕ → List Maj → ℕ
cases_from needed g n [] = 0
cases_from needed g n (m ∷ rest) = cond (needed n) (case_one (case_of g m)) 0 + cases_from needed g (suc n) rest

extra_length : (o : Option Case) (inputs : ℕ) (st : Making) → length (extra_by o inputs st) ≡ case_one o
extra_length None inputs st = refl
extra_length (Some c) inputs st = omega arith

by_length : (g : MigView) (b c : Bool) (st : Making) (live : List ℕ) (m : Maj) → length (live_by b c (spreads g) (extra g) st live m) ≡ one_if (b && not c) + (cond b (case_one (case_of g m)) 0 + length live)
by_length g false c st live m = omega arith
by_length g true true st live m = omega (arith, extra_length (case_of g m) g.inputs st, length-append (extra g st m) live)
by_length g true false st live m = omega (arith, extra_length (case_of g m) g.inputs st, length-append (extra g st m) live)

lives_length : (g : MigView) (needed : ℕ → Bool) (st : Making) (live : List ℕ) (n : ℕ) (rest : List Maj) → length (lives_from (spreads g) needed (gone g) (extra g) st live n rest) ≡ counted (without_all needed (gone_list g)) n (length rest) + (cases_from needed g n rest + length live)
lives_length g needed st live n [] = omega arith
lives_length g needed st live n (m ∷ rest) =
    let next = after (spreads g) (needed n) st m in
    let now = live_by (needed n) (gone g n) (spreads g) (extra g) st live m in
    let e = lives_length g needed next now (suc n) rest in
    let f = by_length g (needed n) (gone g n) st live m in
    let h = ap (λ (a : ℕ). counted (without_all needed (gone_list g)) a (length rest)) (let z : suc n ≡ n + 1 = omega arith in z) in
    omega arith

pair_length : (g : MigView) (m : Maj) → View g m → length (pair_of g m) ≡ 2 * case_one (case_of g m)
pair_length g m (no_case n p) = let a = ap (λ (xs : List ℕ). length xs) p in let b = ap case_one n in omega arith
pair_length g m (a_case e f w c is) = let a = ap (λ (xs : List ℕ). length xs) is.pair in let b = ap case_one is.is in omega arith

cond_length : (b : Bool) (xs : List ℕ) (o : ℕ) → length xs ≡ 2 * o → length (cond b xs []) ≡ 2 * cond b o 0
cond_length true xs o h = h
cond_length false xs o h = omega arith

gone_length : (needed : ℕ → Bool) (g : MigView) (n : ℕ) (rest : List Maj) → length (gone_from needed g n rest) ≡ 2 * cases_from needed g n rest
gone_length needed g n [] = omega arith
gone_length needed g n (m ∷ rest) =
    let e = length-append (cond (needed n) (pair_of g m) []) (gone_from needed g (suc n) rest) in
    let f = cond_length (needed n) (pair_of g m) (case_one (case_of g m)) (pair_length g m (view g m)) in
    omega (arith, gone_length needed g (suc n) rest)

-- no number twice at the head
head_none : (a b : ℕ) (xs : List ℕ) → a ≢ b → times a xs ≡ 0 → times a (b ∷ xs) ≡ 0
head_none a b xs apart p = elim (eqb_tells b a) [
  | inl e ↦ absurd (apart (sym e.1))
  | inr x ↦ let s = ap one_if x.0 in omega arith
]

-- what a needed node reads once in all, later ones do not read
later_none : (needed : ℕ → Bool) (g : MigView) (n : ℕ) (m : Maj) (rest : List Maj) (i : ℕ) → needed n ≡ true → times i (reads_of needed n (m ∷ rest)) ≤ reads g i → reads g i ≡ 1 → 0 < times i (ops m) → times i (gone_from needed g (suc n) rest) ≡ 0
later_none needed g n m rest i at few once h =
    let q = times_append i (cond (needed n) (ops m) []) (reads_of needed (suc n) rest) in
    let s = ap (λ (v : Bool). times i (cond v (ops m) [])) at in
    omega (arith, gone_few needed g (suc n) rest i)

rest_few : (needed : ℕ → Bool) (g : MigView) (n : ℕ) (m : Maj) (rest : List Maj) → ((i : ℕ) → times i (reads_of needed n (m ∷ rest)) ≤ reads g i) → (i : ℕ) → times i (reads_of needed (suc n) rest) ≤ reads g i
rest_few needed g n m rest few i =
    let q = times_append i (cond (needed n) (ops m) []) (reads_of needed (suc n) rest) in
    omega (arith, few i)

distinct_by : (needed : ℕ → Bool) (g : MigView) (n : ℕ) (m : Maj) (rest : List Maj) (b : Bool) → needed n ≡ b → View g m → (b ≡ true → IsApart m) → ((i : ℕ) → times i (reads_of needed n (m ∷ rest)) ≤ reads g i) → IsDistinct (gone_from needed g (suc n) rest) → IsDistinct (cond b (pair_of g m) [] ++ gone_from needed g (suc n) rest)
distinct_by needed g n m rest false at v apart few d = d
distinct_by needed g n m rest true at (no_case k p) apart few d =
    let P : List ℕ → Type 0 = λ xs. IsDistinct (xs ++ gone_from needed g (suc n) rest) in
    subst P (sym p) d
distinct_by needed g n m rest true at (a_case e f w c is) apart few d =
    let P : List ℕ → Type 0 = λ xs. IsDistinct (xs ++ gone_from needed g (suc n) rest) in
    let later = gone_from needed g (suc n) rest in
    let o = taken_operands m e f w is.taken in
    let ap3 = taken_apart m e f w (apart refl) is.taken in
    let no_e = later_none needed g n m rest (node e) at (few (node e)) (single g e is.first).once (operand_node e m o.0) in
    let no_f = later_none needed g n m rest (node f) at (few (node f)) (single g f is.second).once (operand_node f m o.1) in
    subst P (sym is.pair) (head_none (node e) (node f) later ap3.ef no_e, (no_f, d))

distinct : (g : MigView) (k n : ℕ) (rest : List Maj) → IsMig g → AreRest g k rest → n ≡ 1 + g.inputs + k → ((i : ℕ) → times i (reads_of (is_needed g) n rest) ≤ reads g i) → IsDistinct (gone_from (is_needed g) g n rest)
distinct g k n [] sound are at few = tt
distinct g k n (m ∷ rest) sound are at few =
    distinct_by (is_needed g) g n m rest (is_needed g n) refl (view g m)
    (λ h. node_apart g k m sound (at_rest g k m rest are (ap (is_needed g) (sym at) ∙ h))) few
    (distinct g (k + 1) (suc n) rest sound (rest_next g k m rest are) (omega arith) (rest_few (is_needed g) g n m rest few))

gone_high : (needed : ℕ → Bool) (g : MigView) (n : ℕ) (rest : List Maj) (i : ℕ) → AreBefore n rest → 0 < times i (gone_from needed g n rest) → i < n + length rest
gone_high needed g n [] i before h = absurd (let z : ⊥ = omega arith in z)
gone_high needed g n (m ∷ rest) i before h = elim (some_times i (needed n) (pair_of g m) (gone_from needed g (suc n) rest) h) [
  | inl a ↦
      let o = node_operand i m (let p = pair_few g m i in omega arith) in
      let x = before.x 0 none (omega arith) in
      let y = before.y 0 none (omega arith) in
      let z = before.z 0 none (omega arith) in
      elim o.1 [
        | inl e ↦ let f = ap node e in let k = o.2 in omega arith
        | inr r ↦ elim r [
          | inl e ↦ let f = ap node e in let k = o.2 in omega arith
          | inr e ↦ let f = ap node e in let k = o.2 in omega arith
        ]
      ]
  | inr a ↦ let l = gone_high needed g (suc n) rest i (before_rest n m rest before) a in omega arith
]

marked : (g : MigView) → IsMig g → AreMarked (is_needed g) (1 + g.inputs) (length g.nodes) (gone_list g)
marked g sound = record {
  low = λ i h. let o = gone_once (is_needed g) g (1 + g.inputs) g.nodes i h in omega (arith, o.majority);
  high = λ i h. gone_high (is_needed g) g (1 + g.inputs) g.nodes i (mig_before g sound) h;
  marked = λ i h. let o = gone_once (is_needed g) g (1 + g.inputs) g.nodes i h in is_positive (named g i + reads g i) (omega (arith, o.once));
}

some_case : (o : Option Case) → is_some o ≡ true → case_one o ≡ 1
some_case None h = absurd (let z : ⊥ = cc in z)
some_case (Some c) h = refl

cases_some : (g : MigView) (n : ℕ) (rest : List Maj) → has_case_from g n rest ≡ true → 0 < cases_from (is_needed g) g n rest
cases_some g n [] h = absurd (true_not_false true refl (sym h))
cases_some g n (m ∷ rest) h = elim (either (is_needed g n && is_some (case_of g m)) (has_case_from g (suc n) rest) h) [
  | inl a ↦
      let b = both (is_needed g n) (is_some (case_of g m)) a in
      let e = ap (λ (v : Bool). cond v (case_one (case_of g m)) 0) b.0 in
      let f = some_case (case_of g m) b.1 in
      omega arith
  | inr a ↦ let e = cases_some g (suc n) rest a in omega arith
]

-- an output's node is not gone
outs_stay : (g : MigView) (k : ℕ) (d : Lit) → k < length g.outputs → gone g (node (get_or g.outputs k d)) ≡ false
outs_stay g k d h = elim (bool_cases (gone g (node (get_or g.outputs k d)))) [
  | inr f ↦ f
  | inl t ↦
      let i = node (get_or g.outputs k d) in
      let o = gone_once (is_needed g) g (1 + g.inputs) g.nodes i (positive (times i (gone_list g)) t) in
      absurd (let z : ⊥ = omega (arith, o.unnamed, output_times g.outputs k d h) in z)
]

pub spread_fewer : (laws : NodeLaws) (g t : MigView) → IsMig g → has_case g ≡ true → t ≡ distribute g → needed_count t < needed_count g
spread_fewer laws g t sound has is =
    let few = passed_live (spreads g) g t (gone g) (extra g) sound (spread_closes laws g sound) (outs_stay g) is in
    let count = lives_length g (is_needed g) (begun g.inputs) [] (1 + g.inputs) g.nodes in
    let less = without_list (is_needed g) (1 + g.inputs) (length g.nodes) (gone_list g)
    (distinct g 0 (1 + g.inputs) g.nodes sound (rest_all g) (omega arith) (λ i. omega (arith, mig_reads g sound i))) (marked g sound) in
    let pairs = gone_length (is_needed g) g (1 + g.inputs) g.nodes in
    let some = cases_some g (1 + g.inputs) g.nodes has in
    let all = counted_is (is_needed g) (1 + g.inputs) (length g.nodes) in
    omega arith
