-- The laws of a graph's values.
use Rattle.std.proofs.Common.{◌≡◌, ℕ, ◌+◌, ◌-◌, ◌*◌, ◌/◌, ◌%◌, ◌<◌, zero, suc, Bool, true, false, cond, eqb, not, List, [], ◌∷◌, ◌++◌, length, get_or, refl, sym, ◌∙◌, ap, arith, inl, inr}
use Rattle.std.proofs.lemmas.Bool.Decides.{nat_tests, eqb_tells}
use Rattle.std.proofs.lemmas.List.{get_or_append_left, get_or_push, length_push}
use Rattle.pim_aig.specs.Literals.{complement, plain}
use Rattle.pim_aig.specs.Values.{literal_value}
use Rattle.pim_aig.specs.declared.literal.Lit.{Lit}
use Rattle.pim_mig.specs.Graph.{IsMig, MigView}
use Rattle.pim_mig.specs.Laws.{MajorityLaws}
use Rattle.pim_mig.specs.Values.{majority, node_values, values_from}
use Rattle.pim_mig.specs.declared.node.Maj.{Maj}

value_even : (values : List Bool) (l : Lit) → l.0 % 2 ≡ 0 → literal_value values l ≡ get_or values (l.0 / 2) false
value_even values l e = grind (arith, nat_tests)

value_odd : (values : List Bool) (l : Lit) → l.0 % 2 ≡ 1 → literal_value values l ≡ not (get_or values (l.0 / 2) false)
value_odd values l e = grind (arith, nat_tests)

not_not : (b : Bool) → not (not b) ≡ b
not_not true = refl
not_not false = refl

value_complement : (values : List Bool) (l : Lit) → literal_value values (complement l) ≡ not (literal_value values l)
value_complement values l =
    let c = complement l in
    elim (eqb_tells (l.0 % 2) 0) [
      | inl even ↦
          let n : c.0 ≡ l.0 + 1 = ap (λ (b : Bool). cond b (l.0 + 1) (l.0 - 1)) even.0 in
          let half : c.0 / 2 ≡ l.0 / 2 = omega (arith, even.1) in
          value_odd values c (omega (arith, even.1)) ∙ (ap (λ (k : ℕ). not (get_or values k false)) half ∙ ap not (sym (value_even values l even.1)))
      | inr other ↦
          let odd : l.0 % 2 ≡ 1 = omega (arith, other.1) in
          let n : c.0 ≡ l.0 - 1 = ap (λ (b : Bool). cond b (l.0 + 1) (l.0 - 1)) other.0 in
          let half : c.0 / 2 ≡ l.0 / 2 = omega arith in
          value_even values c (omega arith) ∙ (ap (λ (k : ℕ). get_or values k false) half ∙ (sym (not_not (get_or values (l.0 / 2) false)) ∙ ap not (sym (value_odd values l odd))))
    ]

-- the value of a node where the earlier ones have these
abbrev node_value : List Bool → Maj → Bool
node_value values m = majority (literal_value values m.x) (literal_value values m.y) (literal_value values m.z)

-- more nodes change no value of earlier ones
values_keep : (values : List Bool) (nodes : List Maj) (k : ℕ) → k < length values → get_or (values_from values nodes) k false ≡ get_or values k false
values_keep values [] k h = refl
values_keep values (m ∷ rest) k h =
    let v = node_value values m in
    let len : length (values ++ v ∷ []) ≡ length values + 1 = length_push values v in
    values_keep (values ++ v ∷ []) rest k (omega arith) ∙ get_or_append_left values (v ∷ []) false k h

literal_keeps : (values : List Bool) (nodes : List Maj) (l : Lit) → l.0 < 2 * length values → literal_value (values_from values nodes) l ≡ literal_value values l
literal_keeps values nodes l h =
    let below : l.0 / 2 < length values = omega arith in
    ap (λ (b : Bool). cond (eqb (l.0 % 2) 1) (not b) b) (values_keep values nodes (l.0 / 2) below)

-- a node's value is the majority of its operands' values
majority_value : (values : List Bool) (nodes : List Maj) (k : ℕ) (d : Maj) → k < length nodes → (get_or nodes k d).x.0 < 2 * (length values + k) → (get_or nodes k d).y.0 < 2 * (length values + k) → (get_or nodes k d).z.0 < 2 * (length values + k) → get_or (values_from values nodes) (length values + k) false ≡ node_value (values_from values nodes) (get_or nodes k d)
majority_value values [] k d h x y z = absurd (omega arith)
majority_value values (m ∷ rest) zero d h x y z =
    let v = node_value values m in
    let whole = values_from values (m ∷ rest) in
    let len : length (values ++ v ∷ []) ≡ length values + 1 = length_push values v in
    let none : length values + 0 ≡ length values = omega arith in
    let here = values_keep (values ++ v ∷ []) rest (length values) (omega arith) ∙ get_or_push values v false (length values) refl in
    let ex = literal_keeps values (m ∷ rest) m.x (omega arith) in
    let ey = literal_keeps values (m ∷ rest) m.y (omega arith) in
    let ez = literal_keeps values (m ∷ rest) m.z (omega arith) in
    ap (λ (n : ℕ). get_or whole n false) none ∙ (here
    ∙ (ap (λ (b : Bool). majority b (literal_value values m.y) (literal_value values m.z)) (sym ex)
    ∙ (ap (λ (b : Bool). majority (literal_value whole m.x) b (literal_value values m.z)) (sym ey)
    ∙ ap (λ (b : Bool). majority (literal_value whole m.x) (literal_value whole m.y) b) (sym ez))))
majority_value values (m ∷ rest) (suc k) d h x y z =
    let v = node_value values m in
    let len : length (values ++ v ∷ []) ≡ length values + 1 = length_push values v in
    let e : length values + suc k ≡ length (values ++ v ∷ []) + k = omega arith in
    ap (λ (n : ℕ). get_or (values_from (values ++ v ∷ []) rest) n false) e ∙ majority_value (values ++ v ∷ []) rest k d (omega arith) (omega arith) (omega arith) (omega arith)

plain_value : (values : List Bool) (n : ℕ) → literal_value values (plain n) ≡ get_or values n false
plain_value values n =
    let half : 2 * n / 2 ≡ n = omega arith in
    value_even values (plain n) (omega arith) ∙ ap (λ (k : ℕ). get_or values k false) half

pub majority_laws : (g : MigView) → IsMig g → MajorityLaws g
majority_laws g sound = record {
  plains = plain_value;
  complements = value_complement;
  constant = λ bits. plain_value (node_values g bits) 0 ∙ values_keep (false ∷ bits) g.nodes 0 (omega arith);
  inputs = λ bits k len h. let e : 1 + k ≡ suc k = omega arith in plain_value (node_values g bits) (1 + k) ∙ (ap (λ (n : ℕ). get_or (node_values g bits) n false) e ∙ values_keep (false ∷ bits) g.nodes (suc k) (omega arith));
  nodes = λ bits k d len h. let e : 1 + g.inputs + k ≡ length (false ∷ bits) + k = omega arith in plain_value (node_values g bits) (1 + g.inputs + k) ∙ (ap (λ (n : ℕ). get_or (node_values g bits) n false) e ∙ majority_value (false ∷ bits) g.nodes k d h (let b = sound.x_before k d h in omega arith) (let b = sound.y_before k d h in omega arith) (let b = sound.z_before k d h in omega arith));
}
