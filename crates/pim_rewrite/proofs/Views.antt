-- What a case is, by cases.
use Rattle.std.proofs.Common.{◌≡◌, ◌≢◌, ◌⊎◌, ℕ, ◌+◌, ◌-◌, ◌%◌, ◌<◌, Bool, true, false, cond, eqb, ltb, ◌&&◌, ◌||◌, List, [], ◌∷◌, Option, Some, None, refl, sym, ◌∙◌, ap, subst, arith, inl, inr}
use Rattle.std.proofs.lemmas.Bool.Decides.{nat_tests}
use Rattle.pim_aig.specs.Literals.{node}
use Rattle.pim_aig.specs.declared.literal.Lit.{Lit}
use Rattle.pim_mig.specs.Graph.{IsApart, IsMig, MigView}
use Rattle.pim_mig.specs.Laws.{IsOperand}
use Rattle.pim_mig.specs.Needs.{is_needed, is_single, named, reads}
use Rattle.pim_mig.specs.declared.node.Maj.{Maj}
use Rattle.pim_rewrite.specs.Cases.{case_of, first_of_two, has, is_spreadable, match_nodes, match_pair, node_at, other}
use Rattle.pim_rewrite.specs.declared.cases.Case.{Case}
use Rattle.pim_rewrite.proofs.Frame.{AtNode, bool_cases, is_positive, none}

pub both : (a b : Bool) → (a && b) ≡ true → (a ≡ true) × (b ≡ true)
both true b h = (refl, h)
both false b h = absurd (let z : ⊥ = cc in z)

pub either : (a b : Bool) → (a || b) ≡ true → (a ≡ true) ⊎ (b ≡ true)
either true b h = inl refl
either false b h = inr h

pub neither : (a b : Bool) → (a || b) ≡ false → (a ≡ false) × (b ≡ false)
neither true b h = absurd (let z : ⊥ = cc in z)
neither false b h = (refl, h)

pub eqb_is : (m n : ℕ) → eqb m n ≡ true → m ≡ n
eqb_is m n e = grind (arith, nat_tests)

pub eqb_no : (m n : ℕ) → eqb m n ≡ false → m ≢ n
eqb_no m n h = grind (arith, nat_tests)

pub lit_is : (l m : Lit) → l.0 ≡ m.0 → l ≡ m
lit_is l m e = ap (λ (k : ℕ). let r : Lit = record { 0 = k } in r) e

pub has_operand : (m : Maj) (l : Lit) → has m l ≡ true → IsOperand l m
has_operand m l h = elim (either (eqb m.x.0 l.0) (eqb m.y.0 l.0 || eqb m.z.0 l.0) h) [
  | inl e ↦ inl (sym (lit_is m.x l (eqb_is m.x.0 l.0 e)))
  | inr s ↦ elim (either (eqb m.y.0 l.0) (eqb m.z.0 l.0) s) [
    | inl e ↦ inr (inl (sym (lit_is m.y l (eqb_is m.y.0 l.0 e))))
    | inr e ↦ inr (inr (sym (lit_is m.z l (eqb_is m.z.0 l.0 e))))
  ]
]

-- ---- matching nodes
-- which two operands of a node the other one reads too
pub data Matches (a b : Maj) (w : Lit) (c : Case) : Type 0 where
  at_xy : has b a.x ≡ true → has b a.y ≡ true → c ≡ record { s = a.x; t = a.y; u = a.z; v = other b a.x a.y; w = w } → Matches a b w c
  at_xz : has b a.x ≡ true → has b a.z ≡ true → c ≡ record { s = a.x; t = a.z; u = a.y; v = other b a.x a.z; w = w } → Matches a b w c
  at_yz : has b a.y ≡ true → has b a.z ≡ true → c ≡ record { s = a.y; t = a.z; u = a.x; v = other b a.y a.z; w = w } → Matches a b w c

some_of : (b : Bool) (v c : Case) (r : Option Case) → cond b (Some v) r ≡ Some c → ((b ≡ true) × (v ≡ c)) ⊎ (r ≡ Some c)
some_of true v c r h = inl (refl, (let e : v ≡ c = cc in e))
some_of false v c r h = inr h

pub matches : (a b : Maj) (w : Lit) (c : Case) → match_nodes a b w ≡ Some c → Matches a b w c
matches a b w c h = elim (some_of (has b a.x && has b a.y) _ c _ h) [
  | inl e ↦ let p = both (has b a.x) (has b a.y) e.0 in at_xy p.0 p.1 (sym e.1)
  | inr r ↦ elim (some_of (has b a.x && has b a.z) _ c _ r) [
    | inl e ↦ let p = both (has b a.x) (has b a.z) e.0 in at_xz p.0 p.1 (sym e.1)
    | inr s ↦ elim (some_of (has b a.y && has b a.z) _ c _ s) [
      | inl e ↦ let p = both (has b a.y) (has b a.z) e.0 in at_yz p.0 p.1 (sym e.1)
      | inr n ↦ absurd (let z : ⊥ = cc in z)
    ]
  ]
]

-- the shared operands of a match and the remaining ones
pub record Shares (a b : Maj) (w : Lit) (c : Case) : Type 0 where
  pub s_first : IsOperand c.s a
  pub t_first : IsOperand c.t a
  pub u_first : IsOperand c.u a
  pub s_second : IsOperand c.s b
  pub t_second : IsOperand c.t b
  pub v_second : c.v ≡ other b c.s c.t
  pub w_is : c.w ≡ w
  pub apart : node c.s ≢ node c.t

other_operand : (m : Maj) (s t : Lit) → IsOperand (other m s t) m
other_operand m s t = elim (bool_cases (eqb m.x.0 s.0 || eqb m.x.0 t.0)) [
  | inl e ↦ elim (bool_cases (eqb m.y.0 s.0 || eqb m.y.0 t.0)) [
    | inl f ↦ inr (inr (ap (λ (b : Bool). cond b (cond (eqb m.y.0 s.0 || eqb m.y.0 t.0) m.z m.y) m.x) e ∙ ap (λ (b : Bool). cond b m.z m.y) f))
    | inr f ↦ inr (inl (ap (λ (b : Bool). cond b (cond (eqb m.y.0 s.0 || eqb m.y.0 t.0) m.z m.y) m.x) e ∙ ap (λ (b : Bool). cond b m.z m.y) f))
  ]
  | inr e ↦ inl (ap (λ (b : Bool). cond b (cond (eqb m.y.0 s.0 || eqb m.y.0 t.0) m.z m.y) m.x) e)
]

pub v_operand : (a b : Maj) (w : Lit) (c : Case) → Shares a b w c → IsOperand c.v b
v_operand a b w c h =
    let P : Lit → Type 0 = λ l. IsOperand l b in
    subst P (sym h.v_second) (other_operand b c.s c.t)

shares_at : (a b : Maj) (w : Lit) (c d : Case) → c ≡ d → Shares a b w d → Shares a b w c
shares_at a b w c d e h = subst (Shares a b w) (sym e) h

turned : (m n : ℕ) → m ≢ n → n ≢ m
turned m n h e = h (sym e)

pub shares : (a b : Maj) (w : Lit) (c : Case) → IsApart a → Matches a b w c → Shares a b w c
shares a b w c ap_a (at_xy p q e) = shares_at a b w c _ e (record {
  s_first = inl refl;
  t_first = inr (inl refl);
  u_first = inr (inr refl);
  s_second = has_operand b a.x p;
  t_second = has_operand b a.y q;
  v_second = refl;
  w_is = refl;
  apart = ap_a.first;
})
shares a b w c ap_a (at_xz p q e) = shares_at a b w c _ e (record {
  s_first = inl refl;
  t_first = inr (inr refl);
  u_first = inr (inl refl);
  s_second = has_operand b a.x p;
  t_second = has_operand b a.z q;
  v_second = refl;
  w_is = refl;
  apart = ap_a.second;
})
shares a b w c ap_a (at_yz p q e) = shares_at a b w c _ e (record {
  s_first = inr (inl refl);
  t_first = inr (inr refl);
  u_first = inl refl;
  s_second = has_operand b a.y p;
  t_second = has_operand b a.z q;
  v_second = refl;
  w_is = refl;
  apart = ap_a.third;
})

abbrev pub pair_by : Option Case → ℕ → ℕ → List ℕ → List ℕ
pair_by (Some c) i j later = i ∷ j ∷ []
pair_by None i j later = later

-- ---- the case of a node
-- the nodes that a case takes away
abbrev pub pair_of : MigView → Maj → List ℕ
pair_of g m = pair_by (match_pair g m.x m.y m.z) (node m.x) (node m.y) (pair_by (match_pair g m.x m.z m.y) (node m.x) (node m.z) (pair_by (match_pair g m.y m.z m.x) (node m.y) (node m.z) []))

-- the operands in the order in which a case takes them
pub data Taken (m : Maj) (e f w : Lit) : Type 0 where
  xyz : e ≡ m.x → f ≡ m.y → w ≡ m.z → Taken m e f w
  xzy : e ≡ m.x → f ≡ m.z → w ≡ m.y → Taken m e f w
  yzx : e ≡ m.y → f ≡ m.z → w ≡ m.x → Taken m e f w

pub record IsCase (g : MigView) (m : Maj) (e f w : Lit) (c : Case) : Type 0 where
  pub taken : Taken m e f w
  pub first : is_spreadable g e ≡ true
  pub second : is_spreadable g f ≡ true
  pub match : match_nodes (node_at g e) (node_at g f) w ≡ Some c
  pub is : case_of g m ≡ Some c
  pub pair : pair_of g m ≡ node e ∷ node f ∷ []

pub data View (g : MigView) (m : Maj) : Type 0 where
  no_case : case_of g m ≡ None → pair_of g m ≡ [] → View g m
  a_case : (e f w : Lit) (c : Case) → IsCase g m e f w c → View g m

option_cases : (o : Option Case) → (o ≡ None) ⊎ ((c : Case) × (o ≡ Some c))
option_cases None = inl refl
option_cases (Some c) = inr (c, refl)

cond_some : (b : Bool) (o : Option Case) (c : Case) → cond b o None ≡ Some c → (b ≡ true) × (o ≡ Some c)
cond_some true o c h = (refl, h)
cond_some false o c h = absurd (let z : ⊥ = cc in z)

-- what a pair that has a case tells
pub record PairCase (g : MigView) (e f w : Lit) (c : Case) : Type 0 where
  pub first : is_spreadable g e ≡ true
  pub second : is_spreadable g f ≡ true
  pub match : match_nodes (node_at g e) (node_at g f) w ≡ Some c

pub pair_case : (g : MigView) (e f w : Lit) (c : Case) → match_pair g e f w ≡ Some c → PairCase g e f w c
pair_case g e f w c h =
    let p = cond_some (is_spreadable g e && is_spreadable g f) (match_nodes (node_at g e) (node_at g f) w) c h in
    let q = both (is_spreadable g e) (is_spreadable g f) p.0 in
    record { first = q.0; second = q.1; match = p.1 }

pub view : (g : MigView) (m : Maj) → View g m
view g m =
    let xy = match_pair g m.x m.y m.z in
    let xz = match_pair g m.x m.z m.y in
    let yz = match_pair g m.y m.z m.x in
    elim (option_cases xy) [
      | inr s ↦
          let p = pair_case g m.x m.y m.z s.0 s.1 in
          a_case m.x m.y m.z s.0 (record {
            taken = xyz refl refl refl;
            first = p.first;
            second = p.second;
            match = p.match;
            is = ap (λ (o : Option Case). first_of_two o (first_of_two xz yz)) s.1;
            pair = ap (λ (o : Option Case). pair_by o (node m.x) (node m.y) (pair_by xz (node m.x) (node m.z) (pair_by yz (node m.y) (node m.z) []))) s.1;
          })
      | inl n ↦
          let is_n = ap (λ (o : Option Case). first_of_two o (first_of_two xz yz)) n in
          let pair_n = ap (λ (o : Option Case). pair_by o (node m.x) (node m.y) (pair_by xz (node m.x) (node m.z) (pair_by yz (node m.y) (node m.z) []))) n in
          elim (option_cases xz) [
            | inr s ↦
                let p = pair_case g m.x m.z m.y s.0 s.1 in
                a_case m.x m.z m.y s.0 (record {
                  taken = xzy refl refl refl;
                  first = p.first;
                  second = p.second;
                  match = p.match;
                  is = is_n ∙ ap (λ (o : Option Case). first_of_two o yz) s.1;
                  pair = pair_n ∙ ap (λ (o : Option Case). pair_by o (node m.x) (node m.z) (pair_by yz (node m.y) (node m.z) [])) s.1;
                })
            | inl k ↦
                let is_k = is_n ∙ ap (λ (o : Option Case). first_of_two o yz) k in
                let pair_k = pair_n ∙ ap (λ (o : Option Case). pair_by o (node m.x) (node m.z) (pair_by yz (node m.y) (node m.z) [])) k in
                elim (option_cases yz) [
                  | inr s ↦
                      let p = pair_case g m.y m.z m.x s.0 s.1 in
                      a_case m.y m.z m.x s.0 (record {
                        taken = yzx refl refl refl;
                        first = p.first;
                        second = p.second;
                        match = p.match;
                        is = is_k ∙ s.1;
                        pair = pair_k ∙ ap (λ (o : Option Case). pair_by o (node m.y) (node m.z) []) s.1;
                      })
                  | inl j ↦ no_case (is_k ∙ j) (pair_k ∙ ap (λ (o : Option Case). pair_by o (node m.y) (node m.z) []) j)
                ]
          ]
    ]

-- ---- spreadable literals
-- a plain literal of a majority node that is read once, and that no output is of
pub record Single (g : MigView) (e : Lit) : Type 0 where
  pub plain : e.0 % 2 ≡ 0
  pub majority : g.inputs < node e
  pub once : reads g (node e) ≡ 1
  pub unnamed : named g (node e) ≡ 0

ltb_is : (m n : ℕ) → ltb m n ≡ true → m < n
ltb_is m n h = grind (arith, nat_tests)

pub single : (g : MigView) (e : Lit) → is_spreadable g e ≡ true → Single g e
single g e h =
    let p = both (eqb (e.0 % 2) 0) (is_single g (node e)) h in
    let q = both (ltb g.inputs (node e)) (eqb (reads g (node e)) 1 && eqb (named g (node e)) 0) p.1 in
    let r = both (eqb (reads g (node e)) 1) (eqb (named g (node e)) 0) q.1 in
    record {
      plain = eqb_is (e.0 % 2) 0 p.0;
      majority = ltb_is g.inputs (node e) q.0;
      once = eqb_is (reads g (node e)) 1 r.0;
      unnamed = eqb_is (named g (node e)) 0 r.1;
    }

pub single_needed : (g : MigView) (e : Lit) → Single g e → is_needed g (node e) ≡ true
single_needed g e s = is_positive (named g (node e) + reads g (node e)) (omega (arith, s.once))

-- the node of a single literal that a needed node reads
pub operand_before : (g : MigView) (k : ℕ) (m : Maj) (l : Lit) → IsMig g → AtNode g k m → IsOperand l m → node l < 1 + g.inputs + k
operand_before g k m l sound at h =
    let x = sound.x_before k none at.there in
    let y = sound.y_before k none at.there in
    let z = sound.z_before k none at.there in
    let ex = ap (λ (n : Maj). n.x.0) at.is in
    let ey = ap (λ (n : Maj). n.y.0) at.is in
    let ez = ap (λ (n : Maj). n.z.0) at.is in
    elim h [
      | inl e ↦ let i = ap (λ (n : Lit). n.0) e in omega arith
      | inr r ↦ elim r [
        | inl e ↦ let i = ap (λ (n : Lit). n.0) e in omega arith
        | inr e ↦ let i = ap (λ (n : Lit). n.0) e in omega arith
      ]
    ]

pub at_single : (g : MigView) (k : ℕ) (m : Maj) (e : Lit) → IsMig g → AtNode g k m → IsOperand e m → Single g e → AtNode g (node e - (1 + g.inputs)) (node_at g e)
at_single g k m e sound at h s =
    let before = operand_before g k m e sound at h in
    record {
      there = omega (arith, at.there, s.majority);
      is = refl;
      needed = ap (is_needed g) (let i : 1 + g.inputs + (node e - (1 + g.inputs)) ≡ node e = omega (arith, s.majority) in i) ∙ single_needed g e s;
    }

pub taken_operands : (m : Maj) (e f w : Lit) → Taken m e f w → (IsOperand e m) × (IsOperand f m) × (IsOperand w m)
taken_operands m e f w (xyz a b d) = (inl a, inr (inl b), inr (inr d))
taken_operands m e f w (xzy a b d) = (inl a, inr (inr b), inr (inl d))
taken_operands m e f w (yzx a b d) = (inr (inl a), inr (inr b), inl d)

-- the operands that a case takes are of three nodes
pub record Apart3 (e f w : Lit) : Type 0 where
  pub ef : node e ≢ node f
  pub ew : node e ≢ node w
  pub fw : node f ≢ node w

apart_at : (a b d e f w : Lit) → e ≡ a → f ≡ b → w ≡ d → node a ≢ node b → node a ≢ node d → node b ≢ node d → Apart3 e f w
apart_at a b d e f w p q r x y z = record {
  ef = λ h. x (ap node (sym p) ∙ h ∙ ap node q);
  ew = λ h. y (ap node (sym p) ∙ h ∙ ap node r);
  fw = λ h. z (ap node (sym q) ∙ h ∙ ap node r);
}

pub taken_apart : (m : Maj) (e f w : Lit) → IsApart m → Taken m e f w → Apart3 e f w
taken_apart m e f w p (xyz a b d) = apart_at m.x m.y m.z e f w a b d p.first p.second p.third
taken_apart m e f w p (xzy a b d) = apart_at m.x m.z m.y e f w a b d p.second p.first (turned (node m.y) (node m.z) p.third)
taken_apart m e f w p (yzx a b d) = apart_at m.y m.z m.x e f w a b d p.third (turned (node m.x) (node m.y) p.first) (turned (node m.x) (node m.z) p.second)

pub node_apart : (g : MigView) (k : ℕ) (m : Maj) → IsMig g → AtNode g k m → IsApart m
node_apart g k m sound at = subst IsApart (sym at.is) (sound.apart k none at.there)
