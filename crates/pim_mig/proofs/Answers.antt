-- The laws of nodes that are made.
use Rattle.std.proofs.Common.{◌≡◌, ◌≢◌, ◌⊎◌, ℕ, zero, suc, ◌+◌, ◌-◌, ◌*◌, ◌/◌, ◌%◌, ◌<◌, ◌≤◌, min, max, Bool, true, false, cond, eqb, not, ◌&&◌, ◌||◌, List, [], ◌∷◌, ◌++◌, length, get_or, Option, Some, None, refl, sym, ◌∙◌, ap, subst, arith, inl, inr, length-append}
use Rattle.std.proofs.lemmas.Bool.Decides.{nat_tests, eqb_tells}
use Rattle.std.proofs.lemmas.List.{get_or_append_left}
use Rattle.std.proofs.Math.Seq.{get_or-append_seam}
use Rattle.pim_aig.specs.Literals.{complement, plain}
use Rattle.pim_aig.specs.declared.literal.Lit.{Lit}
use Rattle.pim_mig.specs.Graph.{IsApart, IsMig, MigView, size}
use Rattle.pim_mig.specs.Laws.{Answer, IsFront, IsOperand, MajorityLaws, NodeLaws}
use Rattle.pim_mig.specs.Laws.Answer.{by_new, by_node, by_rule}
use Rattle.pim_mig.specs.Nodes.{greatest, least, made, made_by, Made, middle, place_of, same_operands, simplified}
use Rattle.pim_mig.specs.Values.{majority, mval, node_values}
use Rattle.pim_mig.specs.declared.node.Maj.{Maj}
use Rattle.pim_mig.specs.declared.node.TheConstants.{MAX_NODES}
use Rattle.pim_mig.proofs.Keys.{bool_cases}

-- ---- places
pub place_within : (nodes : List Maj) (m : Maj) → place_of nodes m ≤ length nodes
place_within [] m = omega arith
place_within (n ∷ ns) m =
    elim (same_operands n m) as (λ t. cond t 0 (suc (place_of ns m)) ≤ suc (length ns)) [
      | true ↦ omega arith
      | false ↦ omega (arith, place_within ns m)
    ]

place_same : (nodes : List Maj) (m d : Maj) → place_of nodes m < length nodes → same_operands (get_or nodes (place_of nodes m) d) m ≡ true
place_same [] m d h = absurd (omega arith)
place_same (n ∷ ns) m d h = elim (bool_cases (same_operands n m)) [
  | inl t ↦ ap (λ (k : ℕ). same_operands (get_or (n ∷ ns) k d) m) (ap (λ (v : Bool). cond v 0 (suc (place_of ns m))) t) ∙ t
  | inr f ↦
      let at : place_of (n ∷ ns) m ≡ suc (place_of ns m) = ap (λ (v : Bool). cond v 0 (suc (place_of ns m))) f in
      ap (λ (k : ℕ). same_operands (get_or (n ∷ ns) k d) m) at ∙ place_same ns m d (omega arith)
]

none_at_each : (n : Maj) (ns : List Maj) (m d : Maj) (j : ℕ) → same_operands n m ≡ false → ((i : ℕ) (d : Maj) → i < length ns → same_operands (get_or ns i d) m ≡ false) → j < suc (length ns) → same_operands (get_or (n ∷ ns) j d) m ≡ false
none_at_each n ns m d zero f rest h = f
none_at_each n ns m d (suc j) f rest h = rest j d (omega arith)

place_none : (nodes : List Maj) (m : Maj) → place_of nodes m ≡ length nodes → (j : ℕ) (d : Maj) → j < length nodes → same_operands (get_or nodes j d) m ≡ false
place_none [] m e j d h = absurd (omega arith)
place_none (n ∷ ns) m e j d h = elim (bool_cases (same_operands n m)) [
  | inl t ↦ let z : place_of (n ∷ ns) m ≡ 0 = ap (λ (v : Bool). cond v 0 (suc (place_of ns m))) t in absurd (omega arith)
  | inr f ↦
      let at : place_of (n ∷ ns) m ≡ suc (place_of ns m) = ap (λ (v : Bool). cond v 0 (suc (place_of ns m))) f in
      none_at_each n ns m d j f (place_none ns m (omega arith)) h
]

option_cases : (o : Option Lit) → (o ≡ None) ⊎ ((l : Lit) × (o ≡ Some l))
option_cases None = inl refl
option_cases (Some l) = inr (l, refl)

pub answers : (inputs : ℕ) (nodes : List Maj) (m : Maj) → Answer inputs nodes m (made inputs nodes m).nodes (made inputs nodes m).lit
answers inputs nodes m = elim (option_cases (simplified m)) [
  | inr s ↦
      let whole = ap (λ (o : Option Lit). made_by o inputs nodes m) s.1 in
      by_rule (s.1 ∙ ap Some (sym (ap (λ (j : Made). j.lit) whole))) (ap (λ (j : Made). j.nodes) whole)
  | inl n ↦
      let whole = ap (λ (o : Option Lit). made_by o inputs nodes m) n in
      let p = place_of nodes m in
      elim (eqb_tells p (length nodes)) [
        | inl e ↦ by_new n (place_none nodes m e.1)
            (ap (λ (j : Made). j.nodes) whole ∙ ap (λ (b : Bool). cond b (nodes ++ m ∷ []) nodes) e.0)
            (ap (λ (j : Made). j.lit) whole ∙ ap (λ (k : ℕ). plain (1 + inputs + k)) e.1)
        | inr o ↦
            let some : p < length nodes = let w = place_within nodes m in omega (arith, o.1) in
            by_node n p some (ap (λ (j : Made). j.nodes) whole ∙ ap (λ (b : Bool). cond b (nodes ++ m ∷ []) nodes) o.0) (λ d. place_same nodes m d some) (ap (λ (j : Made). j.lit) whole)
      ]
]

-- ---- what there is without a node
some_of : (b : Bool) (v l : Lit) (r : Option Lit) → cond b (Some v) r ≡ Some l → ((b ≡ true) × (v ≡ l)) ⊎ (r ≡ Some l)
some_of true v l r h = inl (refl, (let e : v ≡ l = cc in e))
some_of false v l r h = inr h

none_of : (b : Bool) (v : Lit) (r : Option Lit) → cond b (Some v) r ≡ None → (b ≡ false) × (r ≡ None)
none_of true v r h = absurd (let z : ⊥ = cc in z)
none_of false v r h = (refl, h)

either : (a b : Bool) → (a || b) ≡ true → (a ≡ true) ⊎ (b ≡ true)
either true b h = inl refl
either false b h = inr h

neither : (a b : Bool) → (a || b) ≡ false → (a ≡ false) × (b ≡ false)
neither true b h = absurd (let z : ⊥ = cc in z)
neither false b h = (refl, h)

eqb_is : (m n : ℕ) → eqb m n ≡ true → m ≡ n
eqb_is m n e = grind (arith, nat_tests)

eqb_no : (m n : ℕ) → eqb m n ≡ false → m ≢ n
eqb_no m n h = grind (arith, nat_tests)

lit_is : (l m : Lit) → l.0 ≡ m.0 → l ≡ m
lit_is l m e = ap (λ (k : ℕ). let r : Lit = record { 0 = k } in r) e

-- which literal it is: a literal that stands twice, or the one beside two complements
pub data Rule (m : Maj) (l : Lit) : Type 0 where
  xy_same : m.x ≡ m.y → l ≡ m.x → Rule m l
  xz_same : m.x ≡ m.z → l ≡ m.x → Rule m l
  yz_same : m.y ≡ m.z → l ≡ m.y → Rule m l
  xy_other : complement m.x ≡ m.y → l ≡ m.z → Rule m l
  xz_other : complement m.x ≡ m.z → l ≡ m.y → Rule m l
  yz_other : complement m.y ≡ m.z → l ≡ m.x → Rule m l

rule : (m : Maj) (l : Lit) → simplified m ≡ Some l → Rule m l
rule m l h = elim (some_of (eqb m.x.0 m.y.0 || eqb m.x.0 m.z.0) m.x l _ h) [
  | inl a ↦ elim (either (eqb m.x.0 m.y.0) (eqb m.x.0 m.z.0) a.0) [
    | inl e ↦ xy_same (lit_is m.x m.y (eqb_is m.x.0 m.y.0 e)) (sym a.1)
    | inr e ↦ xz_same (lit_is m.x m.z (eqb_is m.x.0 m.z.0 e)) (sym a.1)
  ]
  | inr r ↦ elim (some_of (eqb m.y.0 m.z.0) m.y l _ r) [
    | inl a ↦ yz_same (lit_is m.y m.z (eqb_is m.y.0 m.z.0 a.0)) (sym a.1)
    | inr s ↦ elim (some_of (eqb (complement m.x).0 m.y.0) m.z l _ s) [
      | inl a ↦ xy_other (lit_is (complement m.x) m.y (eqb_is (complement m.x).0 m.y.0 a.0)) (sym a.1)
      | inr u ↦ elim (some_of (eqb (complement m.x).0 m.z.0) m.y l _ u) [
        | inl a ↦ xz_other (lit_is (complement m.x) m.z (eqb_is (complement m.x).0 m.z.0 a.0)) (sym a.1)
        | inr w ↦ elim (some_of (eqb (complement m.y).0 m.z.0) m.x l _ w) [
          | inl a ↦ yz_other (lit_is (complement m.y) m.z (eqb_is (complement m.y).0 m.z.0 a.0)) (sym a.1)
          | inr n ↦ absurd (let z : ⊥ = cc in z)
        ]
      ]
    ]
  ]
]

rule_operand : (m : Maj) (l : Lit) → Rule m l → IsOperand l m
rule_operand m l (xy_same a b) = inl b
rule_operand m l (xz_same a b) = inl b
rule_operand m l (yz_same a b) = inr (inl b)
rule_operand m l (xy_other a b) = inr (inr b)
rule_operand m l (xz_other a b) = inr (inl b)
rule_operand m l (yz_other a b) = inl b

other_sign : (x : Lit) (n : ℕ) → (complement x).0 ≢ n → x.0 ≢ n → x.0 / 2 ≢ n / 2
other_sign x n apart differ = elim (eqb_tells (x.0 % 2) 0) [
  | inl even ↦
      let is : (complement x).0 ≡ x.0 + 1 = ap (λ (b : Bool). (cond b (x.0 + 1) (x.0 - 1))) even.0 in
      λ same. absurd (let z : ⊥ = omega (arith, even.1) in z)
  | inr odd ↦
      let is : (complement x).0 ≡ x.0 - 1 = ap (λ (b : Bool). (cond b (x.0 + 1) (x.0 - 1))) odd.0 in
      λ same. absurd (let z : ⊥ = omega (arith, odd.1) in z)
]

-- where there is nothing without a node, the operands are of three nodes
pub is_apart : (m : Maj) → simplified m ≡ None → IsApart m
is_apart m h =
    let p = none_of (eqb m.x.0 m.y.0 || eqb m.x.0 m.z.0) _ _ h in
    let q = none_of (eqb m.y.0 m.z.0) _ _ p.1 in
    let r = none_of (eqb (complement m.x).0 m.y.0) _ _ q.1 in
    let s = none_of (eqb (complement m.x).0 m.z.0) _ _ r.1 in
    let t = none_of (eqb (complement m.y).0 m.z.0) _ _ s.1 in
    let first = neither (eqb m.x.0 m.y.0) (eqb m.x.0 m.z.0) p.0 in
    record {
      first = other_sign m.x m.y.0 (eqb_no (complement m.x).0 m.y.0 r.0) (eqb_no m.x.0 m.y.0 first.0);
      second = other_sign m.x m.z.0 (eqb_no (complement m.x).0 m.z.0 s.0) (eqb_no m.x.0 m.z.0 first.1);
      third = other_sign m.y m.z.0 (eqb_no (complement m.y).0 m.z.0 t.0) (eqb_no m.y.0 m.z.0 q.0);
    }

-- ---- the order of the operands
-- in which order the operands stand
data Order (p q r : ℕ) (low mid high : ℕ) : Type 0 where
  pqr : low ≡ p → mid ≡ q → high ≡ r → Order p q r low mid high
  prq : low ≡ p → mid ≡ r → high ≡ q → Order p q r low mid high
  qpr : low ≡ q → mid ≡ p → high ≡ r → Order p q r low mid high
  qrp : low ≡ q → mid ≡ r → high ≡ p → Order p q r low mid high
  rpq : low ≡ r → mid ≡ p → high ≡ q → Order p q r low mid high
  rqp : low ≡ r → mid ≡ q → high ≡ p → Order p q r low mid high

two_ways : (p q : ℕ) → (p ≤ q) ⊎ (q < p)
two_ways zero q = inl (omega arith)
two_ways (suc p) zero = inr (omega arith)
two_ways (suc p) (suc q) = elim (two_ways p q) [
  | inl a ↦ inl (omega arith)
  | inr a ↦ inr (omega arith)
]

order : (p q r : ℕ) → Order p q r (min (min p q) r) (max (min p q) (min (max p q) r)) (max (max p q) r)
order p q r = elim (two_ways p q) [
  | inl a ↦
      let low : min p q ≡ p = omega arith in
      let high : max p q ≡ q = omega arith in
      elim (two_ways q r) [
        | inl b ↦ pqr (omega arith) (omega arith) (omega arith)
        | inr b ↦ elim (two_ways p r) [
          | inl d ↦ prq (omega arith) (omega arith) (omega arith)
          | inr d ↦ rpq (omega arith) (omega arith) (omega arith)
        ]
      ]
  | inr a ↦
      let low : min p q ≡ q = omega arith in
      let high : max p q ≡ p = omega arith in
      elim (two_ways p r) [
        | inl b ↦ qpr (omega arith) (omega arith) (omega arith)
        | inr b ↦ elim (two_ways q r) [
          | inl d ↦ qrp (omega arith) (omega arith) (omega arith)
          | inr d ↦ rqp (omega arith) (omega arith) (omega arith)
        ]
      ]
]

-- a number is one of three
abbrev IsOf : ℕ → ℕ → ℕ → ℕ → Type 0
IsOf n a b c = (n ≡ a) ⊎ ((n ≡ b) ⊎ (n ≡ c))

-- a number that is one of three is so by other names
renamed : (n a b c p q r : ℕ) → (n ≡ a → IsOf n p q r) → (n ≡ b → IsOf n p q r) → (n ≡ c → IsOf n p q r) → IsOf n a b c → IsOf n p q r
renamed n a b c p q r f g h is = elim is [
  | inl e ↦ f e
  | inr s ↦ elim s [
    | inl e ↦ g e
    | inr e ↦ h e
  ]
]

sorted_of : (p q r low mid high n : ℕ) → Order p q r low mid high → IsOf n p q r → IsOf n low mid high
sorted_of p q r low mid high n (pqr a b d) h = renamed n p q r low mid high (λ e. inl (e ∙ sym a)) (λ e. inr (inl (e ∙ sym b))) (λ e. inr (inr (e ∙ sym d))) h
sorted_of p q r low mid high n (prq a b d) h = renamed n p q r low mid high (λ e. inl (e ∙ sym a)) (λ e. inr (inr (e ∙ sym d))) (λ e. inr (inl (e ∙ sym b))) h
sorted_of p q r low mid high n (qpr a b d) h = renamed n p q r low mid high (λ e. inr (inl (e ∙ sym b))) (λ e. inl (e ∙ sym a)) (λ e. inr (inr (e ∙ sym d))) h
sorted_of p q r low mid high n (qrp a b d) h = renamed n p q r low mid high (λ e. inr (inr (e ∙ sym d))) (λ e. inl (e ∙ sym a)) (λ e. inr (inl (e ∙ sym b))) h
sorted_of p q r low mid high n (rpq a b d) h = renamed n p q r low mid high (λ e. inr (inl (e ∙ sym b))) (λ e. inr (inr (e ∙ sym d))) (λ e. inl (e ∙ sym a)) h
sorted_of p q r low mid high n (rqp a b d) h = renamed n p q r low mid high (λ e. inr (inr (e ∙ sym d))) (λ e. inr (inl (e ∙ sym b))) (λ e. inl (e ∙ sym a)) h

of_sorted : (p q r low mid high n : ℕ) → Order p q r low mid high → IsOf n low mid high → IsOf n p q r
of_sorted p q r low mid high n (pqr a b d) h = renamed n low mid high p q r (λ e. inl (e ∙ a)) (λ e. inr (inl (e ∙ b))) (λ e. inr (inr (e ∙ d))) h
of_sorted p q r low mid high n (prq a b d) h = renamed n low mid high p q r (λ e. inl (e ∙ a)) (λ e. inr (inr (e ∙ b))) (λ e. inr (inl (e ∙ d))) h
of_sorted p q r low mid high n (qpr a b d) h = renamed n low mid high p q r (λ e. inr (inl (e ∙ a))) (λ e. inl (e ∙ b)) (λ e. inr (inr (e ∙ d))) h
of_sorted p q r low mid high n (qrp a b d) h = renamed n low mid high p q r (λ e. inr (inl (e ∙ a))) (λ e. inr (inr (e ∙ b))) (λ e. inl (e ∙ d)) h
of_sorted p q r low mid high n (rpq a b d) h = renamed n low mid high p q r (λ e. inr (inr (e ∙ a))) (λ e. inl (e ∙ b)) (λ e. inr (inl (e ∙ d))) h
of_sorted p q r low mid high n (rqp a b d) h = renamed n low mid high p q r (λ e. inr (inr (e ∙ a))) (λ e. inr (inl (e ∙ b))) (λ e. inl (e ∙ d)) h

order_of : (m : Maj) → Order m.x.0 m.y.0 m.z.0 (least m) (middle m) (greatest m)
order_of m = order m.x.0 m.y.0 m.z.0

both : (a b : Bool) → (a && b) ≡ true → (a ≡ true) × (b ≡ true)
both true b h = (refl, h)
both false b h = absurd (let z : ⊥ = cc in z)

-- nodes that read the same have the same least, middle and greatest operand
pub record SameSorted (a b : Maj) : Type 0 where
  pub low : least a ≡ least b
  pub mid : middle a ≡ middle b
  pub high : greatest a ≡ greatest b

same_sorted : (a b : Maj) → same_operands a b ≡ true → SameSorted a b
same_sorted a b h =
    let p = both (eqb (least a) (least b)) (eqb (middle a) (middle b) && eqb (greatest a) (greatest b)) h in
    let q = both (eqb (middle a) (middle b)) (eqb (greatest a) (greatest b)) p.1 in
    record { low = eqb_is (least a) (least b) p.0; mid = eqb_is (middle a) (middle b) q.0; high = eqb_is (greatest a) (greatest b) q.1 }

number_of : (l : Lit) (m : Maj) → IsOperand l m → IsOf l.0 m.x.0 m.y.0 m.z.0
number_of l m h = elim h [
  | inl e ↦ inl (ap (λ (k : Lit). k.0) e)
  | inr r ↦ elim r [
    | inl e ↦ inr (inl (ap (λ (k : Lit). k.0) e))
    | inr e ↦ inr (inr (ap (λ (k : Lit). k.0) e))
  ]
]

operand_of : (l : Lit) (m : Maj) → IsOf l.0 m.x.0 m.y.0 m.z.0 → IsOperand l m
operand_of l m h = elim h [
  | inl e ↦ inl (lit_is l m.x e)
  | inr r ↦ elim r [
    | inl e ↦ inr (inl (lit_is l m.y e))
    | inr e ↦ inr (inr (lit_is l m.z e))
  ]
]

moved_of : (n a b c p q r : ℕ) → a ≡ p → b ≡ q → c ≡ r → IsOf n a b c → IsOf n p q r
moved_of n a b c p q r e f g h = renamed n a b c p q r (λ d. inl (d ∙ e)) (λ d. inr (inl (d ∙ f))) (λ d. inr (inr (d ∙ g))) h

operands : (a b : Maj) (l : Lit) → same_operands a b ≡ true → IsOperand l a → IsOperand l b
operands a b l same h =
    let s = same_sorted a b same in
    let in_a = sorted_of a.x.0 a.y.0 a.z.0 (least a) (middle a) (greatest a) l.0 (order_of a) (number_of l a h) in
    operand_of l b (of_sorted b.x.0 b.y.0 b.z.0 (least b) (middle b) (greatest b) l.0 (order_of b)
    (moved_of l.0 (least a) (middle a) (greatest a) (least b) (middle b) (greatest b) s.low s.mid s.high in_a))

-- ---- values
turn_first : (a b c : Bool) → majority a b c ≡ majority b a c
turn_first a b c = grind arith

turn_last : (a b c : Bool) → majority a b c ≡ majority a c b
turn_last a b c = grind arith

-- the majority of what three numbers stand for
abbrev of_three : (ℕ → Bool) → ℕ → ℕ → ℕ → Bool
of_three v p q r = majority (v p) (v q) (v r)

by_three : (v : ℕ → Bool) (p q r a b c : ℕ) → p ≡ a → q ≡ b → r ≡ c → of_three v p q r ≡ of_three v a b c
by_three v p q r a b c e f g =
    ap (λ (n : ℕ). of_three v n q r) e ∙ ap (λ (n : ℕ). of_three v a n r) f ∙ ap (λ (n : ℕ). of_three v a b n) g

sorted_value : (v : ℕ → Bool) (p q r low mid high : ℕ) → Order p q r low mid high → of_three v low mid high ≡ of_three v p q r
sorted_value v p q r low mid high (pqr a b d) = by_three v low mid high p q r a b d
sorted_value v p q r low mid high (prq a b d) = by_three v low mid high p r q a b d ∙ turn_last (v p) (v r) (v q)
sorted_value v p q r low mid high (qpr a b d) = by_three v low mid high q p r a b d ∙ turn_first (v q) (v p) (v r)
sorted_value v p q r low mid high (qrp a b d) = by_three v low mid high q r p a b d ∙ turn_last (v q) (v r) (v p) ∙ turn_first (v q) (v p) (v r)
sorted_value v p q r low mid high (rpq a b d) = by_three v low mid high r p q a b d ∙ turn_first (v r) (v p) (v q) ∙ turn_last (v p) (v r) (v q)
sorted_value v p q r low mid high (rqp a b d) =
    by_three v low mid high r q p a b d ∙ turn_first (v r) (v q) (v p) ∙ turn_last (v q) (v r) (v p) ∙ turn_first (v q) (v p) (v r)

-- the majority of a node's operands
abbrev pub of_node : MigView → List Bool → Maj → Bool
of_node g bits m = majority (mval g bits m.x) (mval g bits m.y) (mval g bits m.z)

same_value : (g : MigView) (bits : List Bool) (a b : Maj) → same_operands a b ≡ true → of_node g bits a ≡ of_node g bits b
same_value g bits a b h =
    let s = same_sorted a b h in
    let v : ℕ → Bool = λ n. mval g bits (record { 0 = n }) in
    sym (sorted_value v a.x.0 a.y.0 a.z.0 (least a) (middle a) (greatest a) (order_of a))
    ∙ by_three v (least a) (middle a) (greatest a) (least b) (middle b) (greatest b) s.low s.mid s.high
    ∙ sorted_value v b.x.0 b.y.0 b.z.0 (least b) (middle b) (greatest b) (order_of b)

two_same : (a b : Bool) → a ≡ majority a a b
two_same a b = grind arith

two_other : (a b : Bool) → b ≡ majority a (not a) b
two_other a b = grind arith

rule_value : (g : MigView) (bits : List Bool) (m : Maj) (l : Lit) → MajorityLaws g → Rule m l → mval g bits l ≡ of_node g bits m
rule_value g bits m l laws (xy_same a b) =
    ap (mval g bits) b ∙ two_same (mval g bits m.x) (mval g bits m.z)
    ∙ ap (λ (k : Lit). majority (mval g bits m.x) (mval g bits k) (mval g bits m.z)) a
rule_value g bits m l laws (xz_same a b) =
    ap (mval g bits) b ∙ two_same (mval g bits m.x) (mval g bits m.y) ∙ turn_last (mval g bits m.x) (mval g bits m.x) (mval g bits m.y)
    ∙ ap (λ (k : Lit). majority (mval g bits m.x) (mval g bits m.y) (mval g bits k)) a
rule_value g bits m l laws (yz_same a b) =
    ap (mval g bits) b ∙ two_same (mval g bits m.y) (mval g bits m.x) ∙ turn_last (mval g bits m.y) (mval g bits m.y) (mval g bits m.x)
    ∙ turn_first (mval g bits m.y) (mval g bits m.x) (mval g bits m.y)
    ∙ ap (λ (k : Lit). majority (mval g bits m.x) (mval g bits m.y) (mval g bits k)) a
rule_value g bits m l laws (xy_other a b) =
    ap (mval g bits) b ∙ two_other (mval g bits m.x) (mval g bits m.z)
    ∙ ap (λ (v : Bool). majority (mval g bits m.x) v (mval g bits m.z)) (sym (laws.complements (node_values g bits) m.x) ∙ ap (mval g bits) a)
rule_value g bits m l laws (xz_other a b) =
    ap (mval g bits) b ∙ two_other (mval g bits m.x) (mval g bits m.y)
    ∙ turn_last (mval g bits m.x) (not (mval g bits m.x)) (mval g bits m.y)
    ∙ ap (λ (v : Bool). majority (mval g bits m.x) (mval g bits m.y) v) (sym (laws.complements (node_values g bits) m.x) ∙ ap (mval g bits) a)
rule_value g bits m l laws (yz_other a b) =
    ap (mval g bits) b ∙ two_other (mval g bits m.y) (mval g bits m.x)
    ∙ turn_last (mval g bits m.y) (not (mval g bits m.y)) (mval g bits m.x) ∙ turn_first (mval g bits m.y) (mval g bits m.x) (not (mval g bits m.y))
    ∙ ap (λ (v : Bool). majority (mval g bits m.x) (mval g bits m.y) v) (sym (laws.complements (node_values g bits) m.y) ∙ ap (mval g bits) a)

abbrev none : Maj
none = record { x = record { 0 = 0 }; y = record { 0 = 0 }; z = record { 0 = 0 } }

place_value : (g : MigView) (bits : List Bool) (p : ℕ) (m : Maj) → MajorityLaws g → length bits ≡ g.inputs → p < length g.nodes → get_or g.nodes p none ≡ m → mval g bits (plain (1 + g.inputs + p)) ≡ of_node g bits m
place_value g bits p m laws count h is = laws.nodes bits p none count h ∙ ap (of_node g bits) is

answer_value : (g : MigView) (bits : List Bool) (nodes : List Maj) (m : Maj) (new : List Maj) (l : Lit) → MajorityLaws g → length bits ≡ g.inputs → IsFront new g.nodes → Answer g.inputs nodes m new l → mval g bits l ≡ of_node g bits m
answer_value g bits nodes m new l laws count front (by_rule f e) = rule_value g bits m l laws (rule m l f)
answer_value g bits nodes m new l laws count front (by_node f p h e s w) =
    let len = ap (λ (xs : List Maj). length xs) e in
    let at : get_or g.nodes p none ≡ get_or nodes p none = front.same p none (omega arith) ∙ ap (λ (xs : List Maj). get_or xs p none) e in
    ap (mval g bits) w ∙ place_value g bits p (get_or nodes p none) laws count (omega (arith, front.few)) at ∙ same_value g bits (get_or nodes p none) m (s none)
answer_value g bits nodes m new l laws count front (by_new f n e w) =
    let len = ap (λ (xs : List Maj). length xs) e in
    let more = length-append nodes (m ∷ []) in
    let at : get_or g.nodes (length nodes) none ≡ m = front.same (length nodes) none (omega arith) ∙ ap (λ (xs : List Maj). get_or xs (length nodes) none) e ∙ get_or-append_seam nodes m [] none in
    ap (mval g bits) w ∙ place_value g bits (length nodes) m laws count (omega (arith, front.few)) at

pub made_value : (g : MigView) (bits : List Bool) (nodes : List Maj) (m : Maj) → MajorityLaws g → length bits ≡ g.inputs → IsFront (made g.inputs nodes m).nodes g.nodes → mval g bits (made g.inputs nodes m).lit ≡ of_node g bits m
made_value g bits nodes m laws count front =
    answer_value g bits nodes m (made g.inputs nodes m).nodes (made g.inputs nodes m).lit laws count front (answers g.inputs nodes m)

pub front_refl : (nodes : List Maj) → IsFront nodes nodes
front_refl nodes = record { few = omega arith; same = λ k d h. refl }

answer_front : (inputs : ℕ) (nodes : List Maj) (m : Maj) (new : List Maj) (l : Lit) → Answer inputs nodes m new l → IsFront nodes new
answer_front inputs nodes m new l (by_rule f e) = subst (IsFront nodes) (sym e) (front_refl nodes)
answer_front inputs nodes m new l (by_node f p h e s w) = subst (IsFront nodes) (sym e) (front_refl nodes)
answer_front inputs nodes m new l (by_new f n e w) =
    let whole : IsFront nodes (nodes ++ m ∷ []) = record { few = omega (arith, length-append nodes (m ∷ [])); same = λ k d h. get_or_append_left nodes (m ∷ []) d k h } in
    subst (IsFront nodes) (sym e) whole

pub made_front : (inputs : ℕ) (nodes : List Maj) (m : Maj) → IsFront nodes (made inputs nodes m).nodes
made_front inputs nodes m = answer_front inputs nodes m (made inputs nodes m).nodes (made inputs nodes m).lit (answers inputs nodes m)

pub node_laws : NodeLaws
node_laws = record {
  answers = answers;
  fronts = made_front;
  operands = operands;
  rules = λ m l h. rule_operand m l (rule m l h);
  values = made_value;
}

-- ---- one node more
at_end : (nodes : List Maj) (m d : Maj) (k : ℕ) → k ≡ length nodes → get_or (nodes ++ m ∷ []) k d ≡ m
at_end nodes m d k e = ap (λ (i : ℕ). get_or (nodes ++ m ∷ []) i d) e ∙ get_or-append_seam nodes m [] d

-- what holds of each node, and of one more
each_more : (P : ℕ → Maj → Type 0) (nodes : List Maj) (m : Maj) → ((k : ℕ) (d : Maj) → k < length nodes → P k (get_or nodes k d)) → P (length nodes) m → (k : ℕ) (d : Maj) → k < length (nodes ++ m ∷ []) → P k (get_or (nodes ++ m ∷ []) k d)
each_more P nodes m each here k d h =
    let count = length-append nodes (m ∷ []) in
    elim (eqb_tells k (length nodes)) [
      | inl e ↦
          let Q : ℕ → Type 0 = λ i. P i m in
          subst (P k) (sym (at_end nodes m d k e.1)) (subst Q (sym e.1) here)
      | inr o ↦ let l : k < length nodes = omega (arith, o.1) in subst (P k) (sym (get_or_append_left nodes (m ∷ []) d k l)) (each k d l)
    ]

-- a graph with one node more, which reads what is there and what no other node reads
pub mig_push : (g : MigView) (m : Maj) → IsMig g → m.x.0 < 2 * size g → m.y.0 < 2 * size g → m.z.0 < 2 * size g → length g.nodes < MAX_NODES → simplified m ≡ None → place_of g.nodes m ≡ length g.nodes → IsMig (record g { nodes = g.nodes ++ m ∷ [] })
mig_push g m sound x y z room plain new =
    let count = length-append g.nodes (m ∷ []) in
    let none = place_none g.nodes m new in
    record {
      inputs_fit = sound.inputs_fit;
      nodes_fit = omega arith;
      outputs_fit = sound.outputs_fit;
      x_before = each_more (λ k n. n.x.0 < 2 * (1 + g.inputs + k)) g.nodes m sound.x_before x;
      y_before = each_more (λ k n. n.y.0 < 2 * (1 + g.inputs + k)) g.nodes m sound.y_before y;
      z_before = each_more (λ k n. n.z.0 < 2 * (1 + g.inputs + k)) g.nodes m sound.z_before z;
      apart = each_more (λ k n. IsApart n) g.nodes m sound.apart (is_apart m plain);
      once = λ j k d before h. elim (eqb_tells k (length g.nodes)) [
        | inl e ↦
            let l : j < length g.nodes = omega (arith, e.1) in
            ap (λ (n : Maj). same_operands n (get_or (g.nodes ++ m ∷ []) k d)) (get_or_append_left g.nodes (m ∷ []) d j l)
            ∙ ap (same_operands (get_or g.nodes j d)) (at_end g.nodes m d k e.1) ∙ none j d l
        | inr o ↦
            let l : k < length g.nodes = omega (arith, o.1) in
            ap (λ (n : Maj). same_operands n (get_or (g.nodes ++ m ∷ []) k d)) (get_or_append_left g.nodes (m ∷ []) d j (omega arith))
            ∙ ap (same_operands (get_or g.nodes j d)) (get_or_append_left g.nodes (m ∷ []) d k l) ∙ sound.once j k d before l
      ];
      outputs_there = λ k d h. let b = sound.outputs_there k d h in omega arith;
    }

-- the value of a literal that was made, in the graph after that
pub value_after : (g : MigView) (bits : List Bool) (inputs : ℕ) (nodes : List Maj) (m : Maj) (l : Lit) → MajorityLaws g → length bits ≡ inputs → g.inputs ≡ inputs → g.nodes ≡ (made inputs nodes m).nodes → l ≡ (made inputs nodes m).lit → mval g bits l ≡ of_node g bits m
value_after g bits inputs nodes m l laws count same is lit =
    let P : List Maj → Type 0 = λ xs. IsFront xs g.nodes in
    let Q : ℕ → Type 0 = λ i. IsFront (made i nodes m).nodes g.nodes in
    let front : IsFront (made inputs nodes m).nodes g.nodes = subst P is (front_refl g.nodes) in
    ap (mval g bits) lit ∙ ap (λ (i : ℕ). mval g bits (made i nodes m).lit) (sym same) ∙ made_value g bits nodes m laws (count ∙ sym same) (subst Q (sym same) front)
