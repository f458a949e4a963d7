-- A distribution pass keeps the values of needed nodes.
use Rattle.std.proofs.Common.{◌≡◌, ◌≢◌, ℕ, ◌+◌, ◌-◌, ◌/◌, Bool, true, false, cond, eqb, ◌||◌, List, length, Option, Some, refl, sym, ◌∙◌, ap, subst, arith, inl, inr}
use Rattle.std.proofs.lemmas.Bool.Decides.{nat_tests}
use Rattle.pim_aig.specs.Literals.{node, plain}
use Rattle.pim_aig.specs.declared.literal.Lit.{Lit}
use Rattle.pim_mig.specs.Graph.{IsApart, MigView}
use Rattle.pim_mig.specs.Laws.{IsFront, IsOperand}
use Rattle.pim_mig.specs.Majs.{Making}
use Rattle.pim_aig.specs.Moving.{moved}
use Rattle.pim_mig.specs.Nodes.{made}
use Rattle.pim_mig.specs.Values.{majority, mval}
use Rattle.pim_mig.specs.declared.node.Maj.{Maj}
use Rattle.pim_rewrite.specs.Cases.{inner, node_at, other, outer, spread}
use Rattle.pim_rewrite.specs.declared.cases.Case.{Case}
use Rattle.pim_rewrite.proofs.Frame.{AtNode, front_both}
use Rattle.pim_rewrite.proofs.Gone.{IsKept, kept, spreads}
use Rattle.pim_rewrite.proofs.Values.{AreTwo, AreValued, by_three, KeepsValues, moved_value, old_value, plain_values, value_in}
use Rattle.pim_rewrite.proofs.Views.{at_single, IsCase, lit_is, Matches, matches, node_apart, shares, single, Single, Taken, taken_operands, View, view}
use Rattle.pim_rewrite.proofs.Views.Matches.{at_xy, at_xz, at_yz}
use Rattle.pim_rewrite.proofs.Views.Taken.{xyz, xzy, yzx}
use Rattle.pim_rewrite.proofs.Views.View.{a_case, no_case}

-- ---- laws of the majority
turn_first : (a b c : Bool) → majority a b c ≡ majority b a c
turn_first a b c = grind arith

turn_last : (a b c : Bool) → majority a b c ≡ majority a c b
turn_last a b c = grind arith

distributes : (s t u v w : Bool) → majority (majority s t u) (majority s t v) w ≡ majority s t (majority u v w)
distributes s t u v w = grind arith

-- ---- the value of the node whose operands are shared, and of the other one
match_value : (f : Lit → Bool) (a b : Maj) (w : Lit) (c : Case) → Matches a b w c → majority (f a.x) (f a.y) (f a.z) ≡ majority (f c.s) (f c.t) (f c.u)
match_value f a b w c (at_xy p q e) = sym (ap (λ (d : Case). majority (f d.s) (f d.t) (f d.u)) e)
match_value f a b w c (at_xz p q e) = turn_last (f a.x) (f a.y) (f a.z) ∙ sym (ap (λ (d : Case). majority (f d.s) (f d.t) (f d.u)) e)
match_value f a b w c (at_yz p q e) =
    turn_first (f a.x) (f a.y) (f a.z) ∙ turn_last (f a.y) (f a.x) (f a.z) ∙ sym (ap (λ (d : Case). majority (f d.s) (f d.t) (f d.u)) e)

eqb_yes : (m n : ℕ) → m ≡ n → eqb m n ≡ true
eqb_yes m n e = grind (arith, nat_tests)

eqb_no : (m n : ℕ) → m ≢ n → eqb m n ≡ false
eqb_no m n e = grind (arith, nat_tests)

lit_yes : (l m : Lit) → m ≡ l → eqb l.0 m.0 ≡ true
lit_yes l m e = eqb_yes l.0 m.0 (ap (λ (k : Lit). k.0) (sym e))

lit_no : (l m n : Lit) → m ≡ n → node l ≢ node n → eqb l.0 m.0 ≡ false
lit_no l m n e h = eqb_no l.0 m.0 (λ z. h (ap (λ (k : ℕ). k / 2) z ∙ ap node e))

first_yes : (a b : Bool) → a ≡ true → (a || b) ≡ true
first_yes a b e = ap (λ (c : Bool). c || b) e

second_yes : (a b : Bool) → b ≡ true → (a || b) ≡ true
second_yes true b e = refl
second_yes false b e = e

both_no : (a b : Bool) → a ≡ false → b ≡ false → (a || b) ≡ false
both_no a b e f = ap (λ (c : Bool). c || b) e ∙ f

-- which operand is neither
other_at : (m : Maj) (s t : Lit) (a b : Bool) → (eqb m.x.0 s.0 || eqb m.x.0 t.0) ≡ a → (eqb m.y.0 s.0 || eqb m.y.0 t.0) ≡ b → other m s t ≡ cond a (cond b m.z m.y) m.x
other_at m s t a b e f =
    ap (λ (c : Bool). cond c (cond (eqb m.y.0 s.0 || eqb m.y.0 t.0) m.z m.y) m.x) e ∙ ap (λ (c : Bool). cond a (cond c m.z m.y) m.x) f

other_x : (m : Maj) (s t : Lit) → (eqb m.x.0 s.0 || eqb m.x.0 t.0) ≡ false → other m s t ≡ m.x
other_x m s t e = ap (λ (c : Bool). cond c (cond (eqb m.y.0 s.0 || eqb m.y.0 t.0) m.z m.y) m.x) e

turned : (m n : ℕ) → m ≢ n → n ≢ m
turned m n h e = h (sym e)

three_is : (f : Lit → Bool) (a b c p q r : Lit) → p ≡ a → q ≡ b → r ≡ c → majority (f a) (f b) (f c) ≡ majority (f p) (f q) (f r)
three_is f a b c p q r x y z = by_three (f a) (f b) (f c) (f p) (f q) (f r) (ap f (sym x)) (ap f (sym y)) (ap f (sym z))

other_value : (f : Lit → Bool) (m : Maj) (s t : Lit) → IsApart m → IsOperand s m → IsOperand t m → node s ≢ node t → majority (f m.x) (f m.y) (f m.z) ≡ majority (f s) (f t) (f (other m s t))
other_value f m s t p hs ht apart =
    let xt = eqb m.x.0 s.0 in
    let xs = eqb m.x.0 t.0 in
    let ys = eqb m.y.0 s.0 in
    let yt = eqb m.y.0 t.0 in
    let xy = p.first in
    let xz = p.second in
    let yz = p.third in
    let yx = turned (node m.x) (node m.y) p.first in
    elim hs [
      | inl e ↦ elim ht [
        | inl d ↦ absurd (apart (ap node (e ∙ sym d)))
        | inr r ↦ elim r [
          | inl d ↦ three_is f m.x m.y m.z s t (other m s t) e d (other_at m s t true true (first_yes xt xs (lit_yes m.x s e)) (second_yes ys yt (lit_yes m.y t d)))
          | inr d ↦ turn_last (f m.x) (f m.y) (f m.z) ∙ three_is f m.x m.z m.y s t (other m s t) e d (other_at m s t true false (first_yes xt xs (lit_yes m.x s e)) (both_no ys yt (lit_no m.y s m.x e yx) (lit_no m.y t m.z d yz)))
        ]
      ]
      | inr q ↦ elim q [
        | inl e ↦ elim ht [
          | inl d ↦ turn_first (f m.x) (f m.y) (f m.z) ∙ three_is f m.y m.x m.z s t (other m s t) e d (other_at m s t true true (second_yes xt xs (lit_yes m.x t d)) (first_yes ys yt (lit_yes m.y s e)))
          | inr r ↦ elim r [
            | inl d ↦ absurd (apart (ap node (e ∙ sym d)))
            | inr d ↦ turn_first (f m.x) (f m.y) (f m.z) ∙ turn_last (f m.y) (f m.x) (f m.z) ∙ three_is f m.y m.z m.x s t (other m s t) e d (other_x m s t (both_no xt xs (lit_no m.x s m.y e xy) (lit_no m.x t m.z d xz)))
          ]
        ]
        | inr e ↦ elim ht [
          | inl d ↦ turn_last (f m.x) (f m.y) (f m.z) ∙ turn_first (f m.x) (f m.z) (f m.y) ∙ three_is f m.z m.x m.y s t (other m s t) e d (other_at m s t true false (second_yes xt xs (lit_yes m.x t d)) (both_no ys yt (lit_no m.y s m.z e yz) (lit_no m.y t m.x d yx)))
          | inr r ↦ elim r [
            | inl d ↦ turn_last (f m.x) (f m.y) (f m.z) ∙ turn_first (f m.x) (f m.z) (f m.y) ∙ turn_last (f m.z) (f m.x) (f m.y) ∙ three_is f m.z m.y m.x s t (other m s t) e d (other_x m s t (both_no xt xs (lit_no m.x s m.z e xz) (lit_no m.x t m.y d xy)))
            | inr d ↦ absurd (apart (ap node (e ∙ sym d)))
          ]
        ]
      ]
    ]

-- ---- the step
-- a literal of a case, moved
kept_value : (g t : MigView) (bits : List Bool) (lits : List Lit) (n : ℕ) (l : Lit) → AreTwo g t bits → AreValued g t bits lits → length lits ≡ n → IsKept g n l → mval t bits (moved lits l) ≡ mval g bits l
kept_value g t bits lits n l two v len is = moved_value g t bits lits l two v (omega (arith, is.before)) is.needed

-- a single literal has the value of its node's majority
single_value : (g t : MigView) (bits : List Bool) (k : ℕ) (m : Maj) (e : Lit) → AreTwo g t bits → AtNode g k m → IsOperand e m → Single g e → mval g bits e ≡ majority (mval g bits (node_at g e).x) (mval g bits (node_at g e).y) (mval g bits (node_at g e).z)
single_value g t bits k m e two at h s =
    let ka = node e - (1 + g.inputs) in
    let at_e = at_single g k m e two.sound at h s in
    let is : e ≡ plain (1 + g.inputs + ka) = lit_is e (plain (1 + g.inputs + ka)) (omega (arith, s.plain, s.majority)) in
    ap (mval g bits) is ∙ sym (old_value g t bits ka (node_at g e) two at_e)

taken_value : (f : Lit → Bool) (m : Maj) (a b w : Lit) → Taken m a b w → majority (f a) (f b) (f w) ≡ majority (f m.x) (f m.y) (f m.z)
taken_value f m a b w (xyz p q r) = sym (three_is f m.x m.y m.z a b w p q r)
taken_value f m a b w (xzy p q r) = sym (three_is f m.x m.z m.y a b w p q r) ∙ turn_last (f m.x) (f m.z) (f m.y)
taken_value f m a b w (yzx p q r) = sym (three_is f m.y m.z m.x a b w p q r) ∙ turn_last (f m.y) (f m.z) (f m.x) ∙ turn_first (f m.y) (f m.x) (f m.z)

-- the value of a node that has a case
case_value : (g t : MigView) (bits : List Bool) (k : ℕ) (m : Maj) (e f w : Lit) (c : Case) → AreTwo g t bits → AtNode g k m → IsCase g m e f w c → majority (mval g bits c.s) (mval g bits c.t) (majority (mval g bits c.u) (mval g bits c.v) (mval g bits c.w)) ≡ mval g bits (plain (1 + g.inputs + k))
case_value g t bits k m e f w c two at is =
    let val : Lit → Bool = λ l. mval g bits l in
    let o = taken_operands m e f w is.taken in
    let one = single g e is.first in
    let other_one = single g f is.second in
    let a = node_at g e in
    let b = node_at g f in
    let at_a = at_single g k m e two.sound at o.0 one in
    let at_b = at_single g k m f two.sound at o.1 other_one in
    let ms = matches a b w c is.match in
    let sh = shares a b w c (node_apart g (node e - (1 + g.inputs)) a two.sound at_a) ms in
    let val_e : val e ≡ majority (val c.s) (val c.t) (val c.u) = single_value g t bits k m e two at o.0 one ∙ match_value val a b w c ms in
    let val_f : val f ≡ majority (val c.s) (val c.t) (val c.v) =
    single_value g t bits k m f two at o.1 other_one
    ∙ other_value val b c.s c.t (node_apart g (node f - (1 + g.inputs)) b two.sound at_b) sh.s_second sh.t_second sh.apart
    ∙ ap (λ (l : Lit). majority (val c.s) (val c.t) (val l)) (sym sh.v_second) in
    sym (distributes (val c.s) (val c.t) (val c.u) (val c.v) (val c.w))
    ∙ by_three (majority (val c.s) (val c.t) (val c.u)) (majority (val c.s) (val c.t) (val c.v)) (val c.w) (val e) (val f) (val w) (sym val_e) (sym val_f) (ap val sh.w_is)
    ∙ taken_value val m e f w is.taken ∙ old_value g t bits k m two at

spread_value : (g t : MigView) (bits : List Bool) (st : Making) (k : ℕ) (m : Maj) (e f w : Lit) (c : Case) → AreTwo g t bits → AtNode g k m → length st.lits ≡ 1 + g.inputs + k → AreValued g t bits st.lits → IsCase g m e f w c → IsFront (spread (Some c) g.inputs st m).nodes t.nodes → mval t bits (spread (Some c) g.inputs st m).lit ≡ mval g bits (plain (1 + g.inputs + k))
spread_value g t bits st k m e f w c two at len v is front =
    let n = 1 + g.inputs + k in
    let keep = kept g k m e f w c two.sound at is in
    let d = made g.inputs st.nodes (inner st.lits c) in
    let out = made g.inputs d.nodes (outer st.lits c d.lit) in
    let front_d = front_both d.nodes out.nodes t.nodes (two.laws.fronts g.inputs d.nodes (outer st.lits c d.lit)) front in
    let val_d : mval t bits d.lit ≡ majority (mval g bits c.u) (mval g bits c.v) (mval g bits c.w) =
    value_in g t bits st.nodes (inner st.lits c) two front_d
    ∙ by_three (mval t bits (moved st.lits c.u)) (mval t bits (moved st.lits c.v)) (mval t bits (moved st.lits c.w)) (mval g bits c.u) (mval g bits c.v) (mval g bits c.w)
    (kept_value g t bits st.lits n c.u two v len keep.u) (kept_value g t bits st.lits n c.v two v len keep.v) (kept_value g t bits st.lits n c.w two v len keep.w) in
    value_in g t bits d.nodes (outer st.lits c d.lit) two front
    ∙ by_three (mval t bits (moved st.lits c.s)) (mval t bits (moved st.lits c.t)) (mval t bits d.lit) (mval g bits c.s) (mval g bits c.t) (majority (mval g bits c.u) (mval g bits c.v) (mval g bits c.w))
    (kept_value g t bits st.lits n c.s two v len keep.s) (kept_value g t bits st.lits n c.t two v len keep.t) val_d
    ∙ case_value g t bits k m e f w c two at is

by_view : (g t : MigView) (bits : List Bool) (st : Making) (k : ℕ) (m : Maj) → AreTwo g t bits → AtNode g k m → length st.lits ≡ 1 + g.inputs + k → AreValued g t bits st.lits → View g m → IsFront (spreads g st m).nodes t.nodes → mval t bits (spreads g st m).lit ≡ mval g bits (plain (1 + g.inputs + k))
by_view g t bits st k m two at len v (no_case n p) front =
    let F : Option Case → Type 0 = λ o. IsFront (spread o g.inputs st m).nodes t.nodes in
    ap (λ (o : Option Case). mval t bits (spread o g.inputs st m).lit) n ∙ (plain_values g t bits two).value st k m at len v (subst F n front)
by_view g t bits st k m two at len v (a_case e f w c is) front =
    let F : Option Case → Type 0 = λ o. IsFront (spread o g.inputs st m).nodes t.nodes in
    ap (λ (o : Option Case). mval t bits (spread o g.inputs st m).lit) is.is ∙ spread_value g t bits st k m e f w c two at len v is (subst F is.is front)

pub spread_values : (g t : MigView) (bits : List Bool) → AreTwo g t bits → KeepsValues (spreads g) g t bits
spread_values g t bits two = record { value = λ st k m at len v front. by_view g t bits st k m two at len v (view g m) front }
