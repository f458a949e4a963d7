-- Which literals gates read, and their values.
use Rattle.std.proofs.Common.{◌≡◌, ◌⊎◌, ℕ, ◌+◌, ◌-◌, ◌*◌, ◌/◌, ◌%◌, ◌<◌, ◌≤◌, Bool, true, false, cond, eqb, nat_lt, nat_le, ◌&&◌, not, List, [], ◌∷◌, length, get_or, refl, sym, ◌∙◌, ap, arith, inl, inr}
use Rattle.std.specs.List.{list_all}
use Rattle.std.proofs.lemmas.Bool.{false≢true}
use Rattle.std.proofs.lemmas.Bool.Decides.{nat_tests, eqb_tells, leb_tells}
use Rattle.pim_aig.specs.Graph.{AigView, nodes}
use Rattle.pim_aig.specs.Laws.{ValueLaws}
use Rattle.pim_aig.specs.Values.{aval, node_values}
use Rattle.pim_aig.specs.declared.graph.And.{And}
use Rattle.pim_aig.specs.declared.literal.Lit.{Lit}
use Rattle.pim_imply.specs.Gates.{is_input, nand_operands, operands, turned}

abbrev pub lit : ℕ → Lit
lit l = record { 0 = l }

abbrev pub and_of : AigView → ℕ → And
and_of g k = get_or g.ands k (record { x = record { 0 = 0 }; y = record { 0 = 0 } })

pub bool_cases : (b : Bool) → (b ≡ true) ⊎ (b ≡ false)
bool_cases true = inl refl
bool_cases false = inr refl

pub turned_twice : (l : ℕ) → turned (turned l) ≡ l
turned_twice l = elim (eqb_tells (l / 2) 0) [
  | inl z ↦ rw (z.0, z.0) refl
  | inr s ↦ elim (eqb_tells (l % 2) 0) [
    | inl e ↦
        let up : turned l ≡ l + 1 = rw (s.0, e.0) refl in
        let some : eqb ((l + 1) / 2) 0 ≡ false = let ne : (l + 1) / 2 ≡ 0 → ⊥ = λ q. s.1 (omega (arith, e.1)) in grind (arith, nat_tests) in
        let odd : eqb ((l + 1) % 2) 0 ≡ false = let ne : (l + 1) % 2 ≡ 0 → ⊥ = λ q. omega (arith, e.1) in grind (arith, nat_tests) in
        ap turned up ∙ rw (some, odd) (omega arith)
    | inr o ↦
        let down : turned l ≡ l - 1 = rw (s.0, o.0) refl in
        let some : eqb ((l - 1) / 2) 0 ≡ false = let ne : (l - 1) / 2 ≡ 0 → ⊥ = λ q. s.1 (omega (arith, o.1)) in grind (arith, nat_tests) in
        let even : eqb ((l - 1) % 2) 0 ≡ true = let eq : (l - 1) % 2 ≡ 0 = omega (arith, o.1) in grind (arith, nat_tests) in
        ap turned down ∙ rw (some, even) (omega (arith, o.1, s.1))
  ]
]

-- the kinds of literals
pub data Kind (g : AigView) (l : ℕ) : Type 0 where
  zero : l ≡ 0 → operands g l ≡ [] → Kind g l
  one : l ≡ 1 → operands g l ≡ 0 ∷ [] → Kind g l
  input : 0 < l / 2 → l % 2 ≡ 0 → l / 2 ≤ g.inputs → operands g l ≡ [] → Kind g l
  plain : l % 2 ≡ 0 → g.inputs < l / 2 → operands g l ≡ (l + 1) ∷ [] → Kind g l
  inverse : l % 2 ≡ 1 → 0 < l / 2 → l / 2 ≤ g.inputs → operands g l ≡ (l - 1) ∷ [] → Kind g l
  nand : l % 2 ≡ 1 → g.inputs < l / 2 → operands g l ≡ nand_operands (and_of g (l / 2 - 1 - g.inputs)) → Kind g l

pub kind_of : (g : AigView) (l : ℕ) → Kind g l
kind_of g l = elim (eqb_tells (l / 2) 0) [
  | inl z ↦ elim (eqb_tells l 0) [
    | inl n ↦ zero n.1 (rw (z.0, n.0) refl)
    | inr n ↦ one (omega (arith, z.1, n.1)) (rw (z.0, n.0) refl)
  ]
  | inr s ↦ elim (eqb_tells (l % 2) 0) [
    | inl e ↦ elim (leb_tells (l / 2) g.inputs) [
      | inl i ↦ input (omega (arith, s.1)) e.1 i.1 (rw (s.0, e.0, i.0) refl)
      | inr a ↦ plain e.1 a.1 (rw (s.0, e.0, a.0) refl)
    ]
    | inr o ↦ elim (leb_tells (l / 2) g.inputs) [
      | inl i ↦ inverse (omega (arith, o.1)) (omega (arith, s.1)) i.1 (rw (s.0, o.0, i.0) refl)
      | inr a ↦ nand (omega (arith, o.1)) a.1 (rw (s.0, o.0, a.0) refl)
    ]
  ]
]

-- the value of a node
abbrev pub node_value : AigView → List Bool → ℕ → Bool
node_value g bits n = get_or (node_values g bits) n false

pub even_value : (g : AigView) (bits : List Bool) (l : ℕ) → l % 2 ≡ 0 → aval g bits (lit l) ≡ node_value g bits (l / 2)
even_value g bits l even =
    let t : eqb (l % 2) 1 ≡ false = grind (arith, nat_tests) in
    ap (λ (b : Bool). cond b (not (node_value g bits (l / 2))) (node_value g bits (l / 2))) t

pub odd_value : (g : AigView) (bits : List Bool) (l : ℕ) → l % 2 ≡ 1 → aval g bits (lit l) ≡ not (node_value g bits (l / 2))
odd_value g bits l odd =
    let t : eqb (l % 2) 1 ≡ true = grind (arith, nat_tests) in
    ap (λ (b : Bool). cond b (not (node_value g bits (l / 2))) (node_value g bits (l / 2))) t

zero_value : (g : AigView) (bits : List Bool) → ValueLaws g → node_value g bits 0 ≡ false
zero_value g bits laws = sym (laws.plains (node_values g bits) 0) ∙ laws.constant bits

pub input_value : (g : AigView) (bits : List Bool) (n : ℕ) → ValueLaws g → length bits ≡ g.inputs → 0 < n → n ≤ g.inputs → node_value g bits n ≡ get_or bits (n - 1) false
input_value g bits n laws len some few =
    let e : 1 + (n - 1) ≡ n = omega arith in
    ap (node_value g bits) (sym e) ∙ sym (laws.plains (node_values g bits) (1 + (n - 1))) ∙ laws.inputs bits (n - 1) len (omega arith)

and_value : (g : AigView) (bits : List Bool) (n : ℕ) → ValueLaws g → length bits ≡ g.inputs → n < nodes g → g.inputs < n → node_value g bits n ≡ (aval g bits (and_of g (n - 1 - g.inputs)).x && aval g bits (and_of g (n - 1 - g.inputs)).y)
and_value g bits n laws len there above =
    let k = n - 1 - g.inputs in
    let e : 1 + g.inputs + k ≡ n = omega arith in
    ap (node_value g bits) (sym e) ∙ sym (laws.plains (node_values g bits) (1 + g.inputs + k)) ∙ laws.ands bits k (record { x = record { 0 = 0 }; y = record { 0 = 0 } }) len (omega arith)

not_not : (b : Bool) → b ≡ not (not b && true)
not_not true = refl
not_not false = refl

not_one : (b : Bool) → not b ≡ not (b && true)
not_one true = refl
not_one false = refl

not_two : (a b : Bool) → not (a && b) ≡ not (a && (b && true))
not_two true true = refl
not_two true false = refl
not_two false b = refl

and_same : (a : Bool) → not (a && a) ≡ not (a && true)
and_same true = refl
and_same false = refl

nand_of : (g : AigView) (bits : List Bool) (a : And) → not (aval g bits a.x && aval g bits a.y) ≡ not (list_all (λ o. aval g bits (lit o)) (nand_operands a))
nand_of g bits a = elim (eqb_tells a.x.0 a.y.0) [
  | inl t ↦
      let same : a.x ≡ a.y = ap (λ (n : ℕ). lit n) t.1 in
      rw t.0 (ap (λ (e : Lit). not (aval g bits a.x && aval g bits e)) (sym same) ∙ and_same (aval g bits a.x))
  | inr f ↦ rw f.0 (not_two (aval g bits a.x) (aval g bits a.y))
]

-- a literal that is no input has the value of its gate
pub gate_value : (g : AigView) (bits : List Bool) (l : ℕ) → ValueLaws g → length bits ≡ g.inputs → l < 2 * nodes g → is_input g l ≡ false → Kind g l → aval g bits (lit l) ≡ not (list_all (λ o. aval g bits (lit o)) (operands g l))
gate_value g bits l laws len there none (zero is ops) = rw ops (ap (λ (n : ℕ). aval g bits (lit n)) is ∙ zero_value g bits laws)
gate_value g bits l laws len there none (one is ops) = rw ops (ap (λ (n : ℕ). aval g bits (lit n)) is ∙ not_one (node_value g bits 0))
gate_value g bits l laws len there none (input some even few ops) =
    let a : eqb (l % 2) 0 ≡ true = grind (arith, nat_tests) in
    let b : nat_lt 0 (l / 2) ≡ true = grind (arith, nat_tests) in
    let d : nat_le (l / 2) g.inputs ≡ true = grind (arith, nat_tests) in
    absurd (false≢true (sym none ∙ rw (a, b, d) refl))
gate_value g bits l laws len there none (plain even above ops) =
    let half : (l + 1) / 2 ≡ l / 2 = omega arith in
    let next : aval g bits (lit (l + 1)) ≡ not (node_value g bits (l / 2)) = odd_value g bits (l + 1) (omega arith) ∙ ap (λ (n : ℕ). not (node_value g bits n)) half in
    even_value g bits l even ∙ not_not (node_value g bits (l / 2)) ∙ ap (λ (b : Bool). not (b && true)) (sym next) ∙ ap (λ (os : List ℕ). not (list_all (λ o. aval g bits (lit o)) os)) (sym ops)
gate_value g bits l laws len there none (inverse odd some few ops) =
    let half : (l - 1) / 2 ≡ l / 2 = omega arith in
    let before : aval g bits (lit (l - 1)) ≡ node_value g bits (l / 2) = even_value g bits (l - 1) (omega arith) ∙ ap (node_value g bits) half in
    odd_value g bits l odd ∙ not_one (node_value g bits (l / 2)) ∙ ap (λ (b : Bool). not (b && true)) (sym before) ∙ ap (λ (os : List ℕ). not (list_all (λ o. aval g bits (lit o)) os)) (sym ops)
gate_value g bits l laws len there none (nand odd above ops) =
    odd_value g bits l odd ∙ ap not (and_value g bits (l / 2) laws len (omega arith) above) ∙ nand_of g bits (and_of g (l / 2 - 1 - g.inputs)) ∙ ap (λ (os : List ℕ). not (list_all (λ o. aval g bits (lit o)) os)) (sym ops)
