-- What gates are, what they read and what their values are.
use Rattle.std.proofs.Common.{◌≡◌, ℕ, ◌+◌, ◌-◌, ◌*◌, ◌/◌, ◌%◌, ◌<◌, ◌≤◌, Bool, true, false, cond, eqb, nat_lt, ◌&&◌, not, List, [], ◌∷◌, ◌++◌, length, get_or, refl, sym, ◌∙◌, ap, arith, inl, inr}
use Rattle.std.proofs.lemmas.Bool.Decides.{nat_tests, eqb_tells, leb_tells}
use Rattle.std.proofs.lemmas.List.FromFn.{get_or-map-range_with_len}
use Rattle.pim_aig.specs.Graph.{AigView, nodes}
use Rattle.pim_aig.specs.Laws.{ValueLaws}
use Rattle.pim_aig.specs.Values.{aval, literal_value, node_values}
use Rattle.pim_aig.specs.declared.graph.And.{And}
use Rattle.pim_aig.specs.declared.literal.Lit.{Lit}
use Rattle.pim_graph.specs.Graphs.{has, kids_of}
use Rattle.pim_isa.specs.Steps.{bit}
use Rattle.pim_rm3.specs.Gates.{ands_read, gate_graph, gate_of, with_and}
use Rattle.pim_rm3.specs.Schedules.{cell_of}
use Rattle.pim_rm3.specs.declared.gate.Gate.TheVariants as gate
use Rattle.pim_rm3.proofs.Lists.{last, has_front}
use Rattle.pim_rm3.proofs.Rows.{bool_cases, lit_bit}

-- an AND node by its place, with node 0 as both operands past the end
abbrev pub and_of : AigView → ℕ → And
and_of g k = get_or g.ands k (record { x = record { 0 = 0 }; y = record { 0 = 0 } })

-- the four kinds of gates
pub data Kind (g : AigView) (l : ℕ) : Type 0 where
  constant : l / 2 ≡ 0 → gate_of g l ≡ gate.Constant (eqb l 1) → Kind g l
  inverse : 0 < l / 2 → l % 2 ≡ 1 → gate_of g l ≡ gate.Not (record { 0 = l - 1 }) → Kind g l
  input : 0 < l / 2 → l % 2 ≡ 0 → l / 2 ≤ g.inputs → gate_of g l ≡ gate.Input → Kind g l
  meet : l % 2 ≡ 0 → g.inputs < l / 2 → gate_of g l ≡ gate.And (and_of g (l / 2 - 1 - g.inputs)).x (and_of g (l / 2 - 1 - g.inputs)).y → Kind g l

pub kind_of : (g : AigView) (l : ℕ) → Kind g l
kind_of g l = elim (eqb_tells (l / 2) 0) [
  | inl z ↦ constant z.1 (rw z.0 refl)
  | inr s ↦ elim (eqb_tells (l % 2) 1) [
    | inl o ↦ inverse (omega (arith, s.1)) o.1 (rw (s.0, o.0) refl)
    | inr e ↦
        let even : l % 2 ≡ 0 = let r : l % 2 < 2 = omega arith in omega (arith, e.1) in
        elim (leb_tells (l / 2) g.inputs) [
          | inl i ↦ input (omega (arith, s.1)) even i.1 (rw (s.0, e.0, i.0) refl)
          | inr a ↦ meet even a.1 (rw (s.0, e.0, a.0) refl)
        ]
  ]
]

-- what a gate of the graph reads
pub kids_at : (g : AigView) (l : ℕ) → l < 2 * nodes g → kids_of (gate_graph g) l ≡ ands_read g (gate_of g l)
kids_at g l h = get_or-map-range_with_len (λ k. ands_read g (gate_of g k)) 0 (2 * nodes g) l l [] h (omega arith)

-- the AND node of a literal is among those that a gate with this operand reads
with_and_has : (g : AigView) (gs : List ℕ) (e : Lit) → g.inputs < e.0 / 2 → has (with_and g gs e) (2 * (e.0 / 2)) ≡ true
with_and_has g gs e h =
    let k = 2 * (e.0 / 2) in
    let lt : nat_lt g.inputs (e.0 / 2) ≡ true = grind (arith, nat_tests) in
    let opened : with_and g gs e ≡ cond (has gs k) gs (gs ++ k ∷ []) = ap (λ (b : Bool). cond b (cond (has gs k) gs (gs ++ k ∷ [])) gs) lt in
    elim (bool_cases (has gs k)) [
      | inl t ↦ ap (λ (xs : List ℕ). has xs k) (opened ∙ ap (λ (b : Bool). cond b gs (gs ++ k ∷ [])) t) ∙ t
      | inr f ↦ ap (λ (xs : List ℕ). has xs k) (opened ∙ ap (λ (b : Bool). cond b gs (gs ++ k ∷ [])) f) ∙ last gs k
    ]

with_and_keeps : (g : AigView) (gs : List ℕ) (e : Lit) (k : ℕ) → has gs k ≡ true → has (with_and g gs e) k ≡ true
with_and_keeps g gs e k h = elim (bool_cases (nat_lt g.inputs (e.0 / 2))) [
  | inl t ↦ elim (bool_cases (has gs (2 * (e.0 / 2)))) [
    | inl u ↦ ap (λ (xs : List ℕ). has xs k) (ap (λ (b : Bool). cond b (cond (has gs (2 * (e.0 / 2))) gs (gs ++ 2 * (e.0 / 2) ∷ [])) gs) t ∙ ap (λ (b : Bool). cond b gs (gs ++ 2 * (e.0 / 2) ∷ [])) u) ∙ h
    | inr u ↦ ap (λ (xs : List ℕ). has xs k) (ap (λ (b : Bool). cond b (cond (has gs (2 * (e.0 / 2))) gs (gs ++ 2 * (e.0 / 2) ∷ [])) gs) t ∙ ap (λ (b : Bool). cond b gs (gs ++ 2 * (e.0 / 2) ∷ [])) u) ∙ has_front gs (2 * (e.0 / 2) ∷ []) k h
  ]
  | inr f ↦ ap (λ (xs : List ℕ). has xs k) (ap (λ (b : Bool). cond b (cond (has gs (2 * (e.0 / 2))) gs (gs ++ 2 * (e.0 / 2) ∷ [])) gs) f) ∙ h
]

pub first_read : (g : AigView) (x y : Lit) → g.inputs < x.0 / 2 → has (ands_read g (gate.And x y)) (2 * (x.0 / 2)) ≡ true
first_read g x y h = with_and_keeps g (with_and g [] x) y (2 * (x.0 / 2)) (with_and_has g [] x h)

pub second_read : (g : AigView) (x y : Lit) → g.inputs < y.0 / 2 → has (ands_read g (gate.And x y)) (2 * (y.0 / 2)) ≡ true
second_read g x y h = with_and_has g (with_and g [] x) y h

pub inverse_read : (g : AigView) (m : Lit) → g.inputs < m.0 / 2 → has (ands_read g (gate.Not m)) (2 * (m.0 / 2)) ≡ true
inverse_read g m h = with_and_has g [] m h

-- a complement above the inputs reads its node
pub inverse_child : (g : AigView) (l : ℕ) → l < 2 * nodes g → l % 2 ≡ 1 → gate_of g l ≡ gate.Not (record { 0 = l - 1 }) → g.inputs < l / 2 → has (kids_of (gate_graph g) l) (2 * (l / 2)) ≡ true
inverse_child g l below odd is above =
    let half : 2 * ((l - 1) / 2) ≡ 2 * (l / 2) = omega arith in
    let over : g.inputs < (l - 1) / 2 = omega arith in
    ap (λ (xs : List ℕ). has xs (2 * (l / 2))) (kids_at g l below ∙ ap (ands_read g) is)
    ∙ ap (has (ands_read g (gate.Not (record { 0 = l - 1 })))) (sym half)
    ∙ inverse_read g (record { 0 = l - 1 }) over

-- the value of a node
abbrev pub node_value : AigView → List Bool → ℕ → Bool
node_value g bits n = get_or (node_values g bits) n false

sign_false : (b : Bool) → cond b (not false) false ≡ b
sign_false true = refl
sign_false false = refl

-- a row that holds a literal's node holds its value
pub lit_value : (ins : ℕ) (values : List Bool) (cells : List ℕ) (m : List Bool) (e : Lit) → get_or values 0 false ≡ false → (0 < e.0 / 2 → bit m (cell_of ins cells e) ≡ get_or values (e.0 / 2) false) → lit_bit ins cells m e ≡ literal_value values e
lit_value ins values cells m e none held = elim (eqb_tells (e.0 / 2) 0) [
  | inl z ↦
      ap (λ (b : Bool). cond b (eqb (e.0 % 2) 1) (cond (eqb (e.0 % 2) 1) (not (bit m (cell_of ins cells e))) (bit m (cell_of ins cells e)))) z.0
      ∙ sym (ap (λ (b : Bool). cond (eqb (e.0 % 2) 1) (not b) b) (ap (λ (n : ℕ). get_or values n false) z.1 ∙ none) ∙ sign_false (eqb (e.0 % 2) 1))
  | inr s ↦
      ap (λ (b : Bool). cond b (eqb (e.0 % 2) 1) (cond (eqb (e.0 % 2) 1) (not (bit m (cell_of ins cells e))) (bit m (cell_of ins cells e)))) s.0
      ∙ ap (λ (b : Bool). cond (eqb (e.0 % 2) 1) (not b) b) (held (omega (arith, s.1)))
]

-- a plain literal's value is its node's
pub literal_plain : (values : List Bool) (l : ℕ) → l % 2 ≡ 0 → literal_value values (record { 0 = l }) ≡ get_or values (l / 2) false
literal_plain values l even =
    let t : eqb (l % 2) 1 ≡ false = grind (arith, nat_tests) in
    ap (λ (b : Bool). cond b (not (get_or values (l / 2) false)) (get_or values (l / 2) false)) t

-- a constant's value, where node 0 is false
pub literal_constant : (values : List Bool) (l : ℕ) → get_or values 0 false ≡ false → l / 2 ≡ 0 → literal_value values (record { 0 = l }) ≡ eqb l 1
literal_constant values l none z =
    let t : eqb (l % 2) 1 ≡ eqb l 1 = ap (λ (k : ℕ). eqb k 1) (let e : l % 2 ≡ l = omega arith in e) in
    ap (λ (b : Bool). cond (eqb (l % 2) 1) (not b) b) (ap (λ (n : ℕ). get_or values n false) z ∙ none)
    ∙ sign_false (eqb (l % 2) 1) ∙ t

pub plain_value : (g : AigView) (bits : List Bool) (l : ℕ) → l % 2 ≡ 0 → aval g bits (record { 0 = l }) ≡ node_value g bits (l / 2)
plain_value g bits l even = literal_plain (node_values g bits) l even

pub zero_value : (g : AigView) (bits : List Bool) → ValueLaws g → node_value g bits 0 ≡ false
zero_value g bits laws = sym (laws.plains (node_values g bits) 0) ∙ laws.constant bits

pub input_value : (g : AigView) (bits : List Bool) (n : ℕ) → ValueLaws g → length bits ≡ g.inputs → 0 < n → n ≤ g.inputs → node_value g bits n ≡ get_or bits (n - 1) false
input_value g bits n laws len some few =
    let e : 1 + (n - 1) ≡ n = omega arith in
    ap (node_value g bits) (sym e) ∙ sym (laws.plains (node_values g bits) (1 + (n - 1))) ∙ laws.inputs bits (n - 1) len (omega arith)

pub meet_value : (g : AigView) (bits : List Bool) (l : ℕ) → ValueLaws g → length bits ≡ g.inputs → l < 2 * nodes g → l % 2 ≡ 0 → g.inputs < l / 2 → aval g bits (record { 0 = l }) ≡ (aval g bits (and_of g (l / 2 - 1 - g.inputs)).x && aval g bits (and_of g (l / 2 - 1 - g.inputs)).y)
meet_value g bits l laws len there even above =
    let k = l / 2 - 1 - g.inputs in
    let e : 1 + g.inputs + k ≡ l / 2 = omega arith in
    plain_value g bits l even
    ∙ ap (node_value g bits) (sym e)
    ∙ sym (laws.plains (node_values g bits) (1 + g.inputs + k))
    ∙ laws.ands bits k (record { x = record { 0 = 0 }; y = record { 0 = 0 } }) len (omega arith)

pub constant_value : (g : AigView) (bits : List Bool) (l : ℕ) → ValueLaws g → l / 2 ≡ 0 → aval g bits (record { 0 = l }) ≡ eqb l 1
constant_value g bits l laws z = literal_constant (node_values g bits) l (zero_value g bits laws) z
