-- The laws of a graph's values.
use Rattle.std.proofs.Common.{◌≡◌, ℕ, ◌+◌, ◌*◌, ◌/◌, ◌%◌, ◌<◌, zero, suc, Bool, false, cond, eqb, not, ◌&&◌, List, [], ◌∷◌, ◌++◌, length, get_or, refl, sym, ◌∙◌, ap, arith}
use Rattle.std.proofs.lemmas.List.{get_or_append_left, get_or_push, length_push}
use Rattle.pim_aig.specs.Graph.{AigView, IsAig}
use Rattle.pim_aig.specs.Laws.{ValueLaws}
use Rattle.pim_aig.specs.Literals.{plain}
use Rattle.pim_aig.specs.Values.{literal_value, node_values, values_from}
use Rattle.pim_aig.specs.declared.literal.Lit.{Lit}
use Rattle.pim_aig.specs.declared.graph.And.{And}
use Rattle.pim_aig.proofs.ChainValues.{value-even, value-complement}

-- more nodes change no value of earlier ones
values_from-keeps : (values : List Bool) (ands : List And) (k : ℕ) → k < length values → get_or (values_from values ands) k false ≡ get_or values k false
values_from-keeps values [] k h = refl
values_from-keeps values (a ∷ rest) k h =
    let v = literal_value values a.x && literal_value values a.y in
    let len : length (values ++ v ∷ []) ≡ length values + 1 = length_push values v in
    values_from-keeps (values ++ v ∷ []) rest k (omega arith) ∙ get_or_append_left values (v ∷ []) false k h

literal-keeps : (values : List Bool) (ands : List And) (l : Lit) → l.0 < 2 * length values → literal_value (values_from values ands) l ≡ literal_value values l
literal-keeps values ands l h =
    let below : l.0 / 2 < length values = omega arith in
    ap (λ (b : Bool). cond (eqb (l.0 % 2) 1) (not b) b) (values_from-keeps values ands (l.0 / 2) below)

-- an AND node's value is the AND of its operands' values
and_value : (values : List Bool) (ands : List And) (k : ℕ) (d : And) → k < length ands → (get_or ands k d).x.0 < 2 * (length values + k) → (get_or ands k d).y.0 < 2 * (length values + k) → get_or (values_from values ands) (length values + k) false ≡ (literal_value (values_from values ands) (get_or ands k d).x && literal_value (values_from values ands) (get_or ands k d).y)
and_value values [] k d h x y = absurd (omega arith)
and_value values (a ∷ rest) zero d h x y =
    let v = literal_value values a.x && literal_value values a.y in
    let whole = values_from values (a ∷ rest) in
    let len : length (values ++ v ∷ []) ≡ length values + 1 = length_push values v in
    let z : length values + 0 ≡ length values = omega arith in
    let here = values_from-keeps (values ++ v ∷ []) rest (length values) (omega arith) ∙ get_or_push values v false (length values) refl in
    let ex = literal-keeps values (a ∷ rest) a.x (omega arith) in
    let ey = literal-keeps values (a ∷ rest) a.y (omega arith) in
    ap (λ (n : ℕ). get_or whole n false) z ∙ (here ∙ (ap (λ (b : Bool). b && literal_value values a.y) (sym ex) ∙ ap (λ (b : Bool). literal_value whole a.x && b) (sym ey)))
and_value values (a ∷ rest) (suc k) d h x y =
    let v = literal_value values a.x && literal_value values a.y in
    let len : length (values ++ v ∷ []) ≡ length values + 1 = length_push values v in
    let e : length values + suc k ≡ length (values ++ v ∷ []) + k = omega arith in
    ap (λ (n : ℕ). get_or (values_from (values ++ v ∷ []) rest) n false) e ∙ and_value (values ++ v ∷ []) rest k d (omega arith) (omega arith) (omega arith)

plain-value : (values : List Bool) (n : ℕ) → literal_value values (plain n) ≡ get_or values n false
plain-value values n =
    let half : 2 * n / 2 ≡ n = omega arith in
    value-even values (plain n) (omega arith) ∙ ap (λ (k : ℕ). get_or values k false) half

pub value_laws : (g : AigView) → IsAig g → ValueLaws g
value_laws g sound = record {
  plains = plain-value;
  complements = value-complement;
  constant = λ bits. plain-value (node_values g bits) 0 ∙ values_from-keeps (false ∷ bits) g.ands 0 (omega arith);
  inputs = λ bits k len h. let e : 1 + k ≡ suc k = omega arith in plain-value (node_values g bits) (1 + k) ∙ (ap (λ (n : ℕ). get_or (node_values g bits) n false) e ∙ values_from-keeps (false ∷ bits) g.ands (suc k) (omega arith));
  ands = λ bits k d len h. let e : 1 + g.inputs + k ≡ length (false ∷ bits) + k = omega arith in plain-value (node_values g bits) (1 + g.inputs + k) ∙ (ap (λ (n : ℕ). get_or (node_values g bits) n false) e ∙ and_value (false ∷ bits) g.ands k d h (let b = sound.x_before k d h in omega arith) (let b = sound.y_before k d h in omega arith));
}
