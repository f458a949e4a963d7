-- What the gates of the graph read, and which gates the outputs reach.
use Rattle.std.proofs.Common.{◌≡◌, ◌⊎◌, ℕ, ◌+◌, ◌-◌, ◌*◌, ◌/◌, ◌%◌, ◌<◌, ◌≤◌, Bool, true, false, cond, eqb, nat_lt, nat_le, ◌||◌, List, [], ◌∷◌, ◌++◌, length, fold, All, refl, sym, ◌∙◌, ap, arith, inl, inr}
use Rattle.std.specs.List.{AllByRecursion}
use Rattle.std.proofs.lemmas.Bool.{false≢true}
use Rattle.std.proofs.lemmas.Bool.Decides.{nat_tests, eqb_tells, leb_tells}
use Rattle.std.proofs.lemmas.List.{get_or_past}
use Rattle.std.proofs.lemmas.List.Elements.{All-cons}
use Rattle.std.proofs.lemmas.List.FromFn.{get_or-map-range_with_len, length-map-range_with_len}
use Rattle.pim_aig.specs.Graph.{AigView, IsAig, nodes}
use Rattle.pim_aig.specs.declared.graph.And.{And}
use Rattle.pim_aig.specs.declared.literal.Lit.{Lit}
use Rattle.pim_graph.specs.Graphs.{has, kids_of}
use Rattle.pim_graph.specs.Orders.{IsReached}
use Rattle.pim_graph.specs.Orders.IsReached.{as_root, as_child}
use Rattle.pim_imply.specs.Gates.{gates_of, imply_graph, is_input, nand_operands, operands, turned, with_root}
use Rattle.pim_imply.proofs.Literals.{Kind, kind_of, and_of, bool_cases, turned_twice}
use Rattle.pim_imply.proofs.Literals.Kind.{zero as Zero, one, input, plain, inverse, nand}

pub kids_count : (g : AigView) → length (imply_graph g).kids ≡ 2 * nodes g
kids_count g = length-map-range_with_len (λ k. gates_of g (operands g (turned k))) 0 (2 * nodes g)

pub kids_at : (g : AigView) (gate : ℕ) → gate < 2 * nodes g → kids_of (imply_graph g) gate ≡ gates_of g (operands g (turned gate))
kids_at g gate h = get_or-map-range_with_len (λ k. gates_of g (operands g (turned k))) 0 (2 * nodes g) gate gate [] h (omega arith)

pub or_true : (b c : Bool) → c ≡ true → (b || c) ≡ true
or_true true c h = refl
or_true false c h = h

same_eqb : (x : ℕ) → eqb x x ≡ true
same_eqb x = grind (arith, nat_tests)

-- the gate of a literal that takes one is among the gates of literals
pub gate_has : (g : AigView) (ls : List ℕ) (o : ℕ) → has ls o ≡ true → is_input g o ≡ false → has (gates_of g ls) (turned o) ≡ true
gate_has g [] o h none = absurd (false≢true h)
gate_has g (l ∷ ls) o h none = elim (eqb_tells l o) [
  | inl t ↦
      let takes : is_input g l ≡ false = ap (is_input g) t.1 ∙ none in
      rw takes (ap (λ (x : ℕ). eqb (turned x) (turned o) || has (gates_of g ls) (turned o)) t.1 ∙ ap (λ (b : Bool). b || has (gates_of g ls) (turned o)) (same_eqb (turned o)))
  | inr f ↦
      let rest = gate_has g ls o (sym (ap (λ (b : Bool). b || has ls o) f.0) ∙ h) none in
      elim (bool_cases (is_input g l)) [
        | inl i ↦ rw i rest
        | inr i ↦ rw i (or_true (eqb (turned l) (turned o)) (has (gates_of g ls) (turned o)) rest)
      ]
]

-- each of these gates is that of a literal that takes one
pub gate_from : (g : AigView) (ls : List ℕ) (y : ℕ) → has (gates_of g ls) y ≡ true → is_input g (turned y) ≡ false
gate_from g [] y h = absurd (false≢true h)
gate_from g (l ∷ ls) y h = elim (bool_cases (is_input g l)) [
  | inl i ↦ gate_from g ls y (sym (ap (λ (b : Bool). has (cond b (gates_of g ls) (turned l ∷ gates_of g ls)) y) i) ∙ h)
  | inr i ↦
      let open_list = sym (ap (λ (b : Bool). has (cond b (gates_of g ls) (turned l ∷ gates_of g ls)) y) i) ∙ h in
      elim (eqb_tells (turned l) y) [
        | inl t ↦ ap (λ (x : ℕ). is_input g (turned x)) (sym t.1) ∙ ap (is_input g) (turned_twice l) ∙ i
        | inr f ↦ gate_from g ls y (sym (ap (λ (b : Bool). b || has (gates_of g ls) y) f.0) ∙ open_list)
      ]
]

-- what a list with one number more has
pub has_split : (xs : List ℕ) (x y : ℕ) → has (xs ++ x ∷ []) y ≡ true → (has xs y ≡ true) ⊎ (x ≡ y)
has_split [] x y h = elim (eqb_tells x y) [
  | inl t ↦ inr t.1
  | inr f ↦ absurd (false≢true (sym (ap (λ (b : Bool). b || false) f.0) ∙ h))
]
has_split (z ∷ zs) x y h = elim (eqb_tells z y) [
  | inl t ↦ inl (ap (λ (b : Bool). b || has zs y) t.0)
  | inr f ↦ elim (has_split zs x y (sym (ap (λ (b : Bool). b || has (zs ++ x ∷ []) y) f.0) ∙ h)) [
    | inl q ↦ inl (ap (λ (b : Bool). b || has zs y) f.0 ∙ q)
    | inr e ↦ inr e
  ]
]

-- no root is the gate of an input
abbrev Takes : AigView → List ℕ → Type 0
Takes g roots = (r : ℕ) → has roots r ≡ true → is_input g (turned r) ≡ false

root_takes : (g : AigView) (roots : List ℕ) (o : Lit) → Takes g roots → Takes g (with_root g roots o)
root_takes g roots o all r h = elim (bool_cases (is_input g o.0)) [
  | inl i ↦ all r (sym (ap (λ (b : Bool). has (cond b roots (cond (has roots (turned o.0)) roots (roots ++ turned o.0 ∷ []))) r) i) ∙ h)
  | inr i ↦
      let opened = sym (ap (λ (b : Bool). has (cond b roots (cond (has roots (turned o.0)) roots (roots ++ turned o.0 ∷ []))) r) i) ∙ h in
      elim (bool_cases (has roots (turned o.0))) [
        | inl t ↦ all r (sym (ap (λ (b : Bool). has (cond b roots (roots ++ turned o.0 ∷ [])) r) t) ∙ opened)
        | inr t ↦ elim (has_split roots (turned o.0) r (sym (ap (λ (b : Bool). has (cond b roots (roots ++ turned o.0 ∷ [])) r) t) ∙ opened)) [
          | inl q ↦ all r q
          | inr e ↦ ap (λ (x : ℕ). is_input g (turned x)) (sym e) ∙ ap (is_input g) (turned_twice o.0) ∙ i
        ]
      ]
]

roots_take : (g : AigView) (os : List Lit) (roots : List ℕ) → Takes g roots → Takes g (fold (with_root g) roots os)
roots_take g [] roots all = all
roots_take g (o ∷ os) roots all = roots_take g os (with_root g roots o) (root_takes g roots o all)

-- no gate that the outputs reach is that of an input
pub reached_takes : (g : AigView) (y : ℕ) → IsReached (imply_graph g) y → is_input g (turned y) ≡ false
reached_takes g y (as_root h) = roots_take g g.outputs [] (λ r none. absurd (false≢true none)) y h
reached_takes g y (as_child {reader = r} before h) = elim (leb_tells (2 * nodes g) r) [
  | inl past ↦
      let count = kids_count g in
      absurd (false≢true (ap (λ (xs : List ℕ). has xs y) (sym (get_or_past (imply_graph g).kids r [] (omega (arith, past.1)))) ∙ h))
  | inr there ↦
      let below : r < 2 * nodes g = omega (arith, there.1) in
      gate_from g (operands g (turned r)) y (ap (λ (xs : List ℕ). has xs y) (sym (kids_at g r below)) ∙ h)
]

-- the gate of a literal of one of the first nodes

pub turned_below : (l n : ℕ) → l < 2 * n → turned l < 2 * n
turned_below l n h = elim (eqb_tells (l / 2) 0) [
  | inl z ↦ rw z.0 h
  | inr s ↦ elim (eqb_tells (l % 2) 0) [
    | inl e ↦ rw (s.0, e.0) (omega (arith, e.1))
    | inr o ↦ rw (s.0, o.0) (omega arith)
  ]
]

gates_below : (g : AigView) (ls : List ℕ) (m : ℕ) → AllByRecursion (λ o. turned o < m) ls → All (λ c. c < m) (gates_of g ls)
gates_below g [] m h = λ k d l. absurd (omega arith)
gates_below g (l ∷ ls) m h = elim (bool_cases (is_input g l)) [
  | inl i ↦ rw i (gates_below g ls m h.1)
  | inr i ↦ rw i (All-cons (λ c. c < m) (turned l) (gates_of g ls) h.0 (gates_below g ls m h.1))
]

nand_below : (a : And) (m : ℕ) → turned a.x.0 < m → turned a.y.0 < m → AllByRecursion (λ o. turned o < m) (nand_operands a)
nand_below a m h k = by (eqb a.x.0 a.y.0)
  where
    by : (t : Bool) → AllByRecursion (λ o. turned o < m) (cond t (a.x.0 ∷ []) (a.x.0 ∷ a.y.0 ∷ []))
    by true = (h, tt)
    by false = (h, (k, tt))

no_gate : (g : AigView) (l m : ℕ) → is_input g l ≡ true → All (λ c. c < m) (gates_of g (l ∷ []))
no_gate g l m i = rw i (λ k d h. absurd (omega arith))

-- what a gate reads has a lower number
kind_below : (g : AigView) (gate l : ℕ) → IsAig g → gate < 2 * nodes g → turned gate ≡ l → gate ≡ turned l → Kind g l → All (λ c. c < gate) (gates_of g (operands g l))
kind_below g gate l s there t u (Zero is ops) = rw ops (λ k d h. absurd (omega arith))
kind_below g gate l s there t u (one is ops) =
    let same : gate ≡ 1 = u ∙ ap turned is in
    rw ops (gates_below g (0 ∷ []) gate (omega arith, tt))
kind_below g gate l s there t u (input some even few ops) = rw ops (λ k d h. absurd (omega arith))
kind_below g gate l s there t u (plain even above ops) =
    let some : eqb (l / 2) 0 ≡ false = let ne : l / 2 ≡ 0 → ⊥ = λ q. omega arith in grind (arith, nat_tests) in
    let e : eqb (l % 2) 0 ≡ true = grind (arith, nat_tests) in
    let up : turned l ≡ l + 1 = rw (some, e) refl in
    let back : turned (l + 1) ≡ l = ap turned (sym up) ∙ turned_twice l in
    rw ops (gates_below g ((l + 1) ∷ []) gate (omega (arith, u, up, back), tt))
kind_below g gate l s there t u (inverse odd some few ops) =
    let a : eqb ((l - 1) % 2) 0 ≡ true = let eq : (l - 1) % 2 ≡ 0 = omega arith in grind (arith, nat_tests) in
    let b : nat_lt 0 ((l - 1) / 2) ≡ true = let lt : 0 < (l - 1) / 2 = omega arith in grind (arith, nat_tests) in
    let d : nat_le ((l - 1) / 2) g.inputs ≡ true = let le : (l - 1) / 2 ≤ g.inputs = omega arith in grind (arith, nat_tests) in
    rw ops (no_gate g (l - 1) gate (rw (a, b, d) refl))
kind_below g gate l s there t u (nand odd above ops) =
    let k = l / 2 - 1 - g.inputs in
    let some : eqb (l / 2) 0 ≡ false = let ne : l / 2 ≡ 0 → ⊥ = λ q. omega arith in grind (arith, nat_tests) in
    let o : eqb (l % 2) 0 ≡ false = let ne : l % 2 ≡ 0 → ⊥ = λ q. omega arith in grind (arith, nat_tests) in
    let down : turned l ≡ l - 1 = rw (some, o) refl in
    let own : gate ≡ 2 * (l / 2) = omega (arith, u, down) in
    let small : k < length g.ands = omega arith in
    let zeros : And = record { x = record { 0 = 0 }; y = record { 0 = 0 } } in
    let x = s.x_before k zeros small in
    let y = s.y_before k zeros small in
    let tx = turned_below (and_of g k).x.0 (l / 2) (omega (arith, x)) in
    let ty = turned_below (and_of g k).y.0 (l / 2) (omega (arith, y)) in
    rw ops (gates_below g (nand_operands (and_of g k)) gate (nand_below (and_of g k) gate (omega (arith, tx, own)) (omega (arith, ty, own))))

pub reads_below : (g : AigView) (gate : ℕ) → IsAig g → gate < 2 * nodes g → All (λ c. c < gate) (gates_of g (operands g (turned gate)))
reads_below g gate s there = kind_below g gate (turned gate) s there refl (sym (turned_twice gate)) (kind_of g (turned gate))

gates_few : (g : AigView) (ls : List ℕ) → length (gates_of g ls) ≤ length ls
gates_few g [] = omega arith
gates_few g (l ∷ ls) = let rest = gates_few g ls in by (is_input g l) rest
  where
    by : (t : Bool) → length (gates_of g ls) ≤ length ls → length (cond t (gates_of g ls) (turned l ∷ gates_of g ls)) ≤ length (l ∷ ls)
    by true rest = omega arith
    by false rest = omega arith

nand_few : (a : And) → length (nand_operands a) ≤ 2
nand_few a = by (eqb a.x.0 a.y.0)
  where
    by : (t : Bool) → length (cond t (a.x.0 ∷ []) (a.x.0 ∷ a.y.0 ∷ [])) ≤ 2
    by true = omega arith
    by false = omega arith

kind_few : (g : AigView) (l : ℕ) → Kind g l → length (operands g l) ≤ 2
kind_few g l (Zero is ops) = rw ops (omega arith)
kind_few g l (one is ops) = rw ops (omega arith)
kind_few g l (input some even few ops) = rw ops (omega arith)
kind_few g l (plain even above ops) = rw ops (omega arith)
kind_few g l (inverse odd some few ops) = rw ops (omega arith)
kind_few g l (nand odd above ops) = rw ops (nand_few (and_of g (l / 2 - 1 - g.inputs)))

pub operands_few : (g : AigView) (l : ℕ) → length (operands g l) ≤ 2
operands_few g l = kind_few g l (kind_of g l)

pub reads_few : (g : AigView) (l : ℕ) → length (gates_of g (operands g l)) ≤ 4
reads_few g l = let a = gates_few g (operands g l) in let b = operands_few g l in omega arith
