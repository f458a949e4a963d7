-- The order of the gates, and the cells that gates take over.
use Rattle.std.proofs.Common.{◌≡◌, ℕ, ◌-◌, ◌*◌, ◌/◌, ◌%◌, ◌<◌, ◌≤◌, Bool, true, cond, List, length, get_or, map, All, Option, Some, None, sym, ◌∙◌, ap, subst, arith, inl, inr}
use Rattle.std.proofs.lemmas.List.{get_or-map}
use Rattle.std.proofs.lemmas.List.FromFn.{length-map-range_with_len}
use Rattle.pim_aig.specs.Graph.{AigView, nodes}
use Rattle.pim_graph.specs.Allotments.{AllotmentView, IsAllotment, IsOver, taken_at}
use Rattle.pim_graph.specs.Graphs.{GraphView, has, kids_of}
use Rattle.pim_graph.specs.Orders.{order}
use Rattle.pim_graph.specs.Peaks.{IsPlaced}
use Rattle.pim_rm3.specs.Gates.{ands_read, gate_graph, gate_of, gates, taken, taken_of}
use Rattle.pim_rm3.specs.Taking.{can_be_taken}
use Rattle.pim_rm3.specs.declared.gate.Gate.TheVariants as gate
use Rattle.pim_rm3.proofs.GateKinds.{Kind, kind_of, kids_at, and_of, first_read, second_read}
use Rattle.pim_rm3.proofs.GateKinds.Kind.{constant, inverse, input, meet}
use Rattle.pim_rm3.proofs.Rows.{bool_cases}
use Rattle.pim_rm3.proofs.TakenCells.{IsTakeable, spent, takeable}

pub kids_count : (g : AigView) → length (gate_graph g).kids ≡ 2 * nodes g
kids_count g = length-map-range_with_len (λ k. ands_read g (gate_of g k)) 0 (2 * nodes g)

-- the gates of the order are there
pub order_there : (g : AigView) (v : GraphView) → v ≡ gate_graph g → IsPlaced v (order v) → All (λ l. l < 2 * nodes g) (gates g)
order_there g v is placed =
    let P : GraphView → Type 0 = λ w. All (λ x. x < length w.kids) (order w) in
    let Q : ℕ → Type 0 = λ n. All (λ x. x < n) (gates g) in
    subst Q (kids_count g) (subst P is placed.there)

pub order_few : (g : AigView) (v : GraphView) → v ≡ gate_graph g → length (order v) ≤ length v.kids → length (gates g) ≤ 2 * nodes g
order_few g v is few =
    let a = ap (λ (w : GraphView). length (order w)) is in
    let b = ap (λ (w : GraphView). length w.kids) is in
    let d = kids_count g in
    omega arith

-- the literal at a place of a list that is the order
pub at_there : (g : AigView) (xs : List ℕ) (i : ℕ) → All (λ l. l < 2 * nodes g) (gates g) → xs ≡ gates g → i < length xs → get_or xs i 0 < 2 * nodes g
at_there g xs i all is h =
    let M : List ℕ → Type 0 = λ ys. get_or ys i 0 < 2 * nodes g in
    let len = ap (λ (ys : List ℕ). length ys) is in
    subst M (sym is) (all i 0 (omega arith))

pub some_same : (c d : ℕ) → Some c ≡ Some d → c ≡ d
some_same c d e = cc

none_some : (o : Option ℕ) (c : ℕ) → o ≡ None → o ≡ Some c → ⊥
none_some o c n e = cc

-- the gate that an AND takes over is one of its operands, and single
pub data IsTakenOver (g : AigView) (l c : ℕ) : Type 0 where
  by_first : l % 2 ≡ 0 → g.inputs < l / 2 → c ≡ (and_of g (l / 2 - 1 - g.inputs)).x.0 → IsTakeable g.inputs (gate_graph g) c → IsTakenOver g l c
  by_second : l % 2 ≡ 0 → g.inputs < l / 2 → c ≡ (and_of g (l / 2 - 1 - g.inputs)).y.0 → IsTakeable g.inputs (gate_graph g) c → IsTakenOver g l c

taken_means : (g : AigView) (l c : ℕ) → Kind g l → taken g l ≡ Some c → IsTakenOver g l c
taken_means g l c (constant z is) e = absurd (none_some (taken g l) c (ap (taken_of g) is) e)
taken_means g l c (inverse s o is) e = absurd (none_some (taken g l) c (ap (taken_of g) is) e)
taken_means g l c (input s o i is) e = absurd (none_some (taken g l) c (ap (taken_of g) is) e)
taken_means g l c (meet even above is) e =
    let x = (and_of g (l / 2 - 1 - g.inputs)).x in
    let y = (and_of g (l / 2 - 1 - g.inputs)).y in
    let free = can_be_taken g.inputs (gate_graph g) in
    let whole : taken g l ≡ cond (free x.0) (Some x.0) (cond (free y.0) (Some y.0) None) = ap (taken_of g) is in
    elim (bool_cases (free x.0)) [
      | inl t ↦
          let same : c ≡ x.0 = some_same c x.0 (sym e ∙ whole ∙ ap (λ (b : Bool). cond b (Some x.0) (cond (free y.0) (Some y.0) None)) t) in
          by_first even above same (takeable g.inputs (gate_graph g) c (ap free same ∙ t))
      | inr f ↦ elim (bool_cases (free y.0)) [
        | inl t ↦
            let same : c ≡ y.0 = some_same c y.0 (sym e ∙ whole ∙ ap (λ (b : Bool). cond b (Some x.0) (cond (free y.0) (Some y.0) None)) f ∙ ap (λ (b : Bool). cond b (Some y.0) None) t) in
            by_second even above same (takeable g.inputs (gate_graph g) c (ap free same ∙ t))
        | inr u ↦ absurd (none_some (taken g l) c (whole ∙ ap (λ (b : Bool). cond b (Some x.0) (cond (free y.0) (Some y.0) None)) f ∙ ap (λ (b : Bool). cond b (Some y.0) None) u) e)
      ]
    ]

pub taken_over : (g : AigView) (l c : ℕ) → taken g l ≡ Some c → IsTakenOver g l c
taken_over g l c e = taken_means g l c (kind_of g l) e

meet_kids : (g : AigView) (l : ℕ) → Kind g l → l % 2 ≡ 0 → g.inputs < l / 2 → gate_of g l ≡ gate.And (and_of g (l / 2 - 1 - g.inputs)).x (and_of g (l / 2 - 1 - g.inputs)).y
meet_kids g l (constant z is) even above = absurd (omega arith)
meet_kids g l (inverse s o is) even above = absurd (omega arith)
meet_kids g l (input s o i is) even above = absurd (omega arith)
meet_kids g l (meet e a is) even above = is

pub meet_is : (g : AigView) (l : ℕ) → l % 2 ≡ 0 → g.inputs < l / 2 → gate_of g l ≡ gate.And (and_of g (l / 2 - 1 - g.inputs)).x (and_of g (l / 2 - 1 - g.inputs)).y
meet_is g l even above = meet_kids g l (kind_of g l) even above

taken_child : (g : AigView) (l c : ℕ) → l < 2 * nodes g → IsTakenOver g l c → has (kids_of (gate_graph g) l) c ≡ true
taken_child g l c h (by_first even above same single) =
    let x = (and_of g (l / 2 - 1 - g.inputs)).x in
    let y = (and_of g (l / 2 - 1 - g.inputs)).y in
    let over : g.inputs < x.0 / 2 = let e = ap (λ (k : ℕ). k / 2) same in omega (arith, single.above) in
    let plain : 2 * (x.0 / 2) ≡ c = omega (arith, single.even) in
    ap (λ (xs : List ℕ). has xs c) (kids_at g l h ∙ ap (ands_read g) (meet_is g l even above)) ∙ ap (has (ands_read g (gate.And x y))) (sym plain) ∙ first_read g x y over
taken_child g l c h (by_second even above same single) =
    let x = (and_of g (l / 2 - 1 - g.inputs)).x in
    let y = (and_of g (l / 2 - 1 - g.inputs)).y in
    let over : g.inputs < y.0 / 2 = let e = ap (λ (k : ℕ). k / 2) same in omega (arith, single.above) in
    let plain : 2 * (y.0 / 2) ≡ c = omega (arith, single.even) in
    ap (λ (xs : List ℕ). has xs c) (kids_at g l h ∙ ap (ands_read g) (meet_is g l even above)) ∙ ap (has (ands_read g (gate.And x y))) (sym plain) ∙ second_read g x y over

taken_single : (g : AigView) (l c : ℕ) → IsTakenOver g l c → IsTakeable g.inputs (gate_graph g) c
taken_single g l c (by_first even above same single) = single
taken_single g l c (by_second even above same single) = single

-- the gates that are taken over, by places
pub taken_map : (g : AigView) (p : ℕ) → p < length (gates g) → taken_at (map (taken g) (gates g)) p ≡ taken g (get_or (gates g) p 0)
taken_map g p h = get_or-map (taken g) (gates g) p 0 None h

-- each gate that is taken over is a child, and needed no longer
pub over_sound : (g : AigView) → All (λ l. l < 2 * nodes g) (gates g) → IsOver (gate_graph g) (gates g) (map (taken g) (gates g))
over_sound g all = record {
  child = λ p c h e.
      taken_child g (get_or (gates g) p 0) c (all p 0 h) (taken_over g (get_or (gates g) p 0) c (sym (taken_map g p h) ∙ e));
  last = λ p c h e.
      let l = get_or (gates g) p 0 in
      let over = taken_over g l c (sym (taken_map g p h) ∙ e) in
      spent g.inputs (gate_graph g) p c (taken_single g l c over) h (taken_child g l c (all p 0 h) over);
}

-- an allotment of what is the same
pub moved : (v w : GraphView) (xs ys : List ℕ) (o u : List (Option ℕ)) (f h : ℕ) (a : AllotmentView) → v ≡ w → xs ≡ ys → o ≡ u → f ≡ h → IsAllotment v xs o f a → IsAllotment w ys u h a
moved v w xs ys o u f h a p q r s all =
    let A : GraphView → Type 0 = λ x. IsAllotment x xs o f a in
    let B : List ℕ → Type 0 = λ x. IsAllotment w x o f a in
    let C : List (Option ℕ) → Type 0 = λ x. IsAllotment w ys x f a in
    let D : ℕ → Type 0 = λ x. IsAllotment w ys u x a in
    subst D s (subst C r (subst B q (subst A p all)))
