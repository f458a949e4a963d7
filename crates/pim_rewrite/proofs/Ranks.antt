-- The number of a needed node among the needed ones: the copy of a graph renumbers its nodes so.
use Rattle.std.proofs.Common.{◌≡◌, ◌≢◌, ◌⊎◌, ℕ, zero, suc, ◌+◌, ◌-◌, ◌*◌, ◌/◌, ◌%◌, ◌<◌, ◌≤◌, min, max, Bool, true, false, cond, eqb, ltb, ◌&&◌, List, get_or, sym, ◌∙◌, ap, subst, arith, inl, inr}
use Rattle.std.proofs.lemmas.Bool.Decides.{nat_tests, eqb_tells}
use Rattle.pim_aig.specs.Literals.{complement, node, plain}
use Rattle.pim_aig.specs.declared.literal.Lit.{Lit}
use Rattle.pim_mig.specs.Graph.{IsApart, MigView}
use Rattle.pim_aig.specs.Moving.{moved}
use Rattle.pim_mig.specs.Needs.{is_needed}
use Rattle.pim_mig.specs.Nodes.{greatest, least, middle, same_operands}
use Rattle.pim_mig.specs.declared.node.Maj.{Maj}
use Rattle.pim_rewrite.proofs.Counting.{counted, counted_split}
use Rattle.pim_rewrite.proofs.Frame.{one_if}
use Rattle.pim_rewrite.proofs.Views.{both, eqb_is, lit_is}

-- an input stays, and a majority node comes after the needed ones before it
abbrev pub rank : MigView → ℕ → ℕ
rank g i = cond (ltb g.inputs i) (1 + g.inputs + counted (is_needed g) (1 + g.inputs) (i - (1 + g.inputs))) i

-- an input or a needed node
abbrev pub IsRanked : MigView → ℕ → Type 0
IsRanked g i = (i ≤ g.inputs) ⊎ (is_needed g i ≡ true)

ltb_yes : (m n : ℕ) → m < n → ltb m n ≡ true
ltb_yes m n h = grind (arith, nat_tests)

ltb_not : (m n : ℕ) → n ≤ m → ltb m n ≡ false
ltb_not m n h = grind (arith, nat_tests)

pub rank_input : (g : MigView) (i : ℕ) → i ≤ g.inputs → rank g i ≡ i
rank_input g i h = ap (λ (b : Bool). cond b (1 + g.inputs + counted (is_needed g) (1 + g.inputs) (i - (1 + g.inputs))) i) (ltb_not g.inputs i h)

pub rank_node : (g : MigView) (k : ℕ) → rank g (1 + g.inputs + k) ≡ 1 + g.inputs + counted (is_needed g) (1 + g.inputs) k
rank_node g k =
    let n = 1 + g.inputs + k in
    ap (λ (b : Bool). cond b (1 + g.inputs + counted (is_needed g) (1 + g.inputs) (n - (1 + g.inputs))) n) (ltb_yes g.inputs n (omega arith))
    ∙ ap (λ (j : ℕ). 1 + g.inputs + counted (is_needed g) (1 + g.inputs) j) (let e : n - (1 + g.inputs) ≡ k = omega arith in e)

pub counted_more : (p : ℕ → Bool) (a k : ℕ) → counted p a (k + 1) ≡ counted p a k + one_if (p (a + k))
counted_more p a k = let e = counted_split p a k 1 in omega arith

pub counted_rises : (p : ℕ → Bool) (a j k : ℕ) → j < k → p (a + j) ≡ true → counted p a j < counted p a k
counted_rises p a j k h marked =
    let e = counted_split p a (j + 1) (k - (j + 1)) in
    let f = ap (counted p a) (let z : j + 1 + (k - (j + 1)) ≡ k = omega arith in z) in
    let s = ap one_if marked in
    omega (arith, counted_more p a j)

two_ways : (m n : ℕ) → (m ≤ n) ⊎ (n < m)
two_ways zero n = inl (omega arith)
two_ways (suc m) zero = inr (omega arith)
two_ways (suc m) (suc n) = elim (two_ways m n) [
  | inl a ↦ inl (omega arith)
  | inr a ↦ inr (omega arith)
]

-- ranks rise
pub rank_rises : (g : MigView) (i j : ℕ) → i < j → IsRanked g i → rank g i < rank g j
rank_rises g i j h ranked = elim (two_ways j g.inputs) [
  | inl b ↦ let x = rank_input g i (omega arith) in let y = rank_input g j b in omega arith
  | inr b ↦
      let kj = j - (1 + g.inputs) in
      let at_j : 1 + g.inputs + kj ≡ j = omega arith in
      let y = rank_node g kj in
      let y2 = ap (rank g) at_j in
      elim (two_ways i g.inputs) [
        | inl a ↦ let x = rank_input g i a in omega arith
        | inr a ↦
            let ki = i - (1 + g.inputs) in
            let at_i : 1 + g.inputs + ki ≡ i = omega arith in
            let x = rank_node g ki in
            let x2 = ap (rank g) at_i in
            let needed : is_needed g (1 + g.inputs + ki) ≡ true = elim ranked [
              | inl z ↦ absurd (omega arith)
              | inr z ↦ ap (is_needed g) at_i ∙ z
            ] in
            let r = counted_rises (is_needed g) (1 + g.inputs) ki kj (omega arith) needed in
            omega arith
      ]
]

pub rank_is : (g : MigView) (i j : ℕ) → IsRanked g i → IsRanked g j → rank g i ≡ rank g j → i ≡ j
rank_is g i j a b e = elim (eqb_tells i j) [
  | inl h ↦ h.1
  | inr o ↦ elim (two_ways i j) [
    | inl h ↦ absurd (let z = rank_rises g i j (omega (arith, o.1)) a in let y : ⊥ = omega arith in y)
    | inr h ↦ absurd (let z = rank_rises g j i h b in let y : ⊥ = omega arith in y)
  ]
]

-- ---- literals
-- the number of a literal in the copy
abbrev pub number : MigView → ℕ → ℕ
number g n = 2 * rank g (n / 2) + n % 2

abbrev pub ren : MigView → Lit → Lit
ren g l = record { 0 = number g l.0 }

abbrev pub ren_node : MigView → Maj → Maj
ren_node g m = record { x = ren g m.x; y = ren g m.y; z = ren g m.z }

pub node_ren : (g : MigView) (l : Lit) → node (ren g l) ≡ rank g (node l)
node_ren g l = let r = rank g (l.0 / 2) in let e : (2 * r + l.0 % 2) / 2 ≡ r = omega arith in e

pub sign_ren : (g : MigView) (l : Lit) → (ren g l).0 % 2 ≡ l.0 % 2
sign_ren g l = let r = rank g (l.0 / 2) in let e : (2 * r + l.0 % 2) % 2 ≡ l.0 % 2 = omega arith in e

pub number_rises : (g : MigView) (m n : ℕ) → m < n → IsRanked g (m / 2) → number g m < number g n
number_rises g m n h ranked = elim (eqb_tells (m / 2) (n / 2)) [
  | inl e ↦ let f = ap (rank g) e.1 in omega (arith, e.1)
  | inr o ↦ let f = rank_rises g (m / 2) (n / 2) (omega (arith, o.1)) ranked in omega arith
]

pub number_is : (g : MigView) (m n : ℕ) → IsRanked g (m / 2) → IsRanked g (n / 2) → number g m ≡ number g n → m ≡ n
number_is g m n a b e = elim (eqb_tells m n) [
  | inl h ↦ h.1
  | inr o ↦ elim (two_ways m n) [
    | inl h ↦ absurd (let z = number_rises g m n (omega (arith, o.1)) a in let y : ⊥ = omega arith in y)
    | inr h ↦ absurd (let z = number_rises g n m h b in let y : ⊥ = omega arith in y)
  ]
]

-- a moved literal, where its node has the literal of its rank
pub moved_ren : (g : MigView) (lits : List Lit) (l : Lit) → get_or lits (node l) (record { 0 = 0 }) ≡ plain (rank g (node l)) → moved lits l ≡ ren g l
moved_ren g lits l is =
    let r = rank g (node l) in
    let entry = get_or lits (l.0 / 2) (record { 0 = 0 }) in
    elim (eqb_tells (l.0 % 2) 1) [
      | inl odd ↦
          ap (λ (b : Bool). cond b (complement entry) entry) odd.0 ∙ ap complement is
          ∙ lit_is (complement (plain r)) (ren g l)
          (let e : eqb (2 * r % 2) 0 ≡ true = grind (arith, nat_tests) in
          let f : (complement (plain r)).0 ≡ 2 * r + 1 = ap (λ (b : Bool). cond b (2 * r + 1) (2 * r - 1)) e in
          omega (arith, odd.1))
      | inr even ↦
          ap (λ (b : Bool). cond b (complement entry) entry) even.0 ∙ is
          ∙ lit_is (plain r) (ren g l) (omega (arith, even.1))
    ]

-- ---- nodes
-- the operands of a node are ranked
pub record AreRanked (g : MigView) (m : Maj) : Type 0 where
  pub x : IsRanked g (node m.x)
  pub y : IsRanked g (node m.y)
  pub z : IsRanked g (node m.z)

min_rises : (g : MigView) (m n : ℕ) → IsRanked g (m / 2) → IsRanked g (n / 2) → min (number g m) (number g n) ≡ number g (min m n)
min_rises g m n a b = elim (eqb_tells m n) [
  | inl e ↦
      let f : min m n ≡ m = omega (arith, e.1) in
      let h = ap (number g) f in
      let k = ap (number g) e.1 in
      omega arith
  | inr o ↦ elim (two_ways m n) [
    | inl h ↦
        let r = number_rises g m n (omega (arith, o.1)) a in
        let f : min m n ≡ m = omega arith in
        let k = ap (number g) f in
        omega arith
    | inr h ↦
        let r = number_rises g n m h b in
        let f : min m n ≡ n = omega arith in
        let k = ap (number g) f in
        omega arith
  ]
]

max_rises : (g : MigView) (m n : ℕ) → IsRanked g (m / 2) → IsRanked g (n / 2) → max (number g m) (number g n) ≡ number g (max m n)
max_rises g m n a b = elim (eqb_tells m n) [
  | inl e ↦
      let f : max m n ≡ m = omega (arith, e.1) in
      let h = ap (number g) f in
      let k = ap (number g) e.1 in
      omega arith
  | inr o ↦ elim (two_ways m n) [
    | inl h ↦
        let r = number_rises g m n (omega (arith, o.1)) a in
        let f : max m n ≡ n = omega arith in
        let k = ap (number g) f in
        omega arith
    | inr h ↦
        let r = number_rises g n m h b in
        let f : max m n ≡ m = omega arith in
        let k = ap (number g) f in
        omega arith
  ]
]

min_ranked : (g : MigView) (m n : ℕ) → IsRanked g (m / 2) → IsRanked g (n / 2) → IsRanked g (min m n / 2)
min_ranked g m n a b =
    let P : ℕ → Type 0 = λ k. IsRanked g (k / 2) in
    elim (two_ways m n) [
      | inl h ↦ let e : m ≡ min m n = omega arith in subst P e a
      | inr h ↦ let e : n ≡ min m n = omega arith in subst P e b
    ]

max_ranked : (g : MigView) (m n : ℕ) → IsRanked g (m / 2) → IsRanked g (n / 2) → IsRanked g (max m n / 2)
max_ranked g m n a b =
    let P : ℕ → Type 0 = λ k. IsRanked g (k / 2) in
    elim (two_ways m n) [
      | inl h ↦ let e : n ≡ max m n = omega arith in subst P e b
      | inr h ↦ let e : m ≡ max m n = omega arith in subst P e a
    ]

least_ren : (g : MigView) (m : Maj) → AreRanked g m → least (ren_node g m) ≡ number g (least m)
least_ren g m a =
    let p = m.x.0 in
    let q = m.y.0 in
    ap (λ (k : ℕ). min k (number g m.z.0)) (min_rises g p q a.x a.y) ∙ min_rises g (min p q) m.z.0 (min_ranked g p q a.x a.y) a.z

greatest_ren : (g : MigView) (m : Maj) → AreRanked g m → greatest (ren_node g m) ≡ number g (greatest m)
greatest_ren g m a =
    let p = m.x.0 in
    let q = m.y.0 in
    ap (λ (k : ℕ). max k (number g m.z.0)) (max_rises g p q a.x a.y) ∙ max_rises g (max p q) m.z.0 (max_ranked g p q a.x a.y) a.z

middle_ren : (g : MigView) (m : Maj) → AreRanked g m → middle (ren_node g m) ≡ number g (middle m)
middle_ren g m a =
    let p = m.x.0 in
    let q = m.y.0 in
    let r = m.z.0 in
    ap (λ (k : ℕ). max k (min (max (number g p) (number g q)) (number g r))) (min_rises g p q a.x a.y)
    ∙ ap (λ (k : ℕ). max (number g (min p q)) (min k (number g r))) (max_rises g p q a.x a.y)
    ∙ ap (λ (k : ℕ). max (number g (min p q)) k) (min_rises g (max p q) r (max_ranked g p q a.x a.y) a.z)
    ∙ max_rises g (min p q) (min (max p q) r) (min_ranked g p q a.x a.y) (min_ranked g (max p q) r (max_ranked g p q a.x a.y) a.z)

least_ranked : (g : MigView) (m : Maj) → AreRanked g m → IsRanked g (least m / 2)
least_ranked g m a = min_ranked g (min m.x.0 m.y.0) m.z.0 (min_ranked g m.x.0 m.y.0 a.x a.y) a.z

greatest_ranked : (g : MigView) (m : Maj) → AreRanked g m → IsRanked g (greatest m / 2)
greatest_ranked g m a = max_ranked g (max m.x.0 m.y.0) m.z.0 (max_ranked g m.x.0 m.y.0 a.x a.y) a.z

middle_ranked : (g : MigView) (m : Maj) → AreRanked g m → IsRanked g (middle m / 2)
middle_ranked g m a =
    max_ranked g (min m.x.0 m.y.0) (min (max m.x.0 m.y.0) m.z.0) (min_ranked g m.x.0 m.y.0 a.x a.y) (min_ranked g (max m.x.0 m.y.0) m.z.0 (max_ranked g m.x.0 m.y.0 a.x a.y) a.z)

eqb_yes : (m n : ℕ) → m ≡ n → eqb m n ≡ true
eqb_yes m n e = grind (arith, nat_tests)

eqb_no : (m n : ℕ) → m ≢ n → eqb m n ≡ false
eqb_no m n e = grind (arith, nat_tests)

all_yes : (a b c : Bool) → a ≡ true → b ≡ true → c ≡ true → (a && (b && c)) ≡ true
all_yes a b c e f h = ap (λ (v : Bool). v && (b && c)) e ∙ ap (λ (v : Bool). v && c) f ∙ h

-- nodes that read the same after it did so before
pub same_ren : (g : MigView) (a b : Maj) → AreRanked g a → AreRanked g b → same_operands (ren_node g a) (ren_node g b) ≡ true → same_operands a b ≡ true
same_ren g a b ra rb h =
    let na = ren_node g a in
    let nb = ren_node g b in
    let p = both (eqb (least na) (least nb)) (eqb (middle na) (middle nb) && eqb (greatest na) (greatest nb)) h in
    let q = both (eqb (middle na) (middle nb)) (eqb (greatest na) (greatest nb)) p.1 in
    let l = number_is g (least a) (least b) (least_ranked g a ra) (least_ranked g b rb) (sym (least_ren g a ra) ∙ eqb_is (least na) (least nb) p.0 ∙ least_ren g b rb) in
    let m = number_is g (middle a) (middle b) (middle_ranked g a ra) (middle_ranked g b rb) (sym (middle_ren g a ra) ∙ eqb_is (middle na) (middle nb) q.0 ∙ middle_ren g b rb) in
    let t = number_is g (greatest a) (greatest b) (greatest_ranked g a ra) (greatest_ranked g b rb) (sym (greatest_ren g a ra) ∙ eqb_is (greatest na) (greatest nb) q.1 ∙ greatest_ren g b rb) in
    all_yes (eqb (least a) (least b)) (eqb (middle a) (middle b)) (eqb (greatest a) (greatest b)) (eqb_yes (least a) (least b) l) (eqb_yes (middle a) (middle b) m) (eqb_yes (greatest a) (greatest b) t)

-- the renumbered operands are of three nodes still
pub ren_apart : (g : MigView) (m : Maj) → AreRanked g m → IsApart m → IsApart (ren_node g m)
ren_apart g m a p = record {
  first = λ e. p.first (rank_is g (node m.x) (node m.y) a.x a.y (sym (node_ren g m.x) ∙ e ∙ node_ren g m.y));
  second = λ e. p.second (rank_is g (node m.x) (node m.z) a.x a.z (sym (node_ren g m.x) ∙ e ∙ node_ren g m.z));
  third = λ e. p.third (rank_is g (node m.y) (node m.z) a.y a.z (sym (node_ren g m.y) ∙ e ∙ node_ren g m.z));
}
