-- The network has the values of the graph.
use Rattle.std.proofs.Common.{◌≡◌, ℕ, ◌+◌, ◌/◌, ◌%◌, ◌<◌, ◌≤◌, Bool, true, false, not, ◌&&◌, List, [], ◌∷◌, length, get_or, take, map, refl, sym, ◌∙◌, ap, subst, arith, inl, inr}
use Rattle.std.proofs.lemmas.Bool.{cases_eq, cases_lt}
use Rattle.std.proofs.lemmas.List.{take_all}
use Rattle.pim_aig.specs.Graph.{AigView, IsAig}
use Rattle.pim_aig.specs.Laws.{ValueLaws}
use Rattle.pim_aig.specs.Values.{literal_value, node_values, aval}
use Rattle.pim_aig.specs.Literals.{complement}
use Rattle.pim_aig.specs.declared.literal.Lit.{Lit}
use Rattle.pim_nor.specs.declared.lowering.Width.{Width}
use Rattle.pim_nor.specs.declared.network.Gate.{Gate}
use Rattle.pim_nor.specs.declared.network.Gate.TheVariants.{Not}
use Rattle.pim_nor.specs.Leaves.{leaves}
use Rattle.pim_nor.specs.Lowered.{roots, marks_of, network_of, nors}
use Rattle.pim_nor.specs.Named.{slots, source, literal_at, gate_of, gate_at}
use Rattle.pim_nor.specs.Network.{pins, AreInputsOrFirst}
use Rattle.pim_nor.specs.Reached.{numbered}
use Rattle.pim_nor.specs.Values.{pin_value, none_true, out_values}
use Rattle.pim_nor.proofs.Closure.{AreMarked, ReadBefore}
use Rattle.pim_nor.proofs.LeafLists.{IsAnd, AreLeaves, leaves-AreLeaves}
use Rattle.pim_nor.proofs.PrunedValues.{IsValued, full_value, kept_values, gate_values-kept, pin_value-numbered}
use Rattle.pim_nor.proofs.LiteralValues.{IsEvaluated, slot_value, value-even, value-odd, not_not, full_value-source, nor_of-value, node_values-IsEvaluated}
use Rattle.pim_nor.proofs.SlotLiterals.{literal_low, literal_mid, literal_high}
use Rattle.pim_nor.proofs.Sound.{gate_of_one, gate_of_not, gate_of-and, ReadBefore-gate_at, closed, length-marks_of, roots-marked, roots-there, AreInputsOrFirst-AreOfFirst}

and_true : (b : Bool) → (b && true) ≡ b
and_true true = refl
and_true false = refl

-- a NOT has the value of its literal
not-value : (g : AigView) (lists : ℕ → List Lit) (bits values : List Bool) → IsEvaluated g bits values → (l : Lit) → gate_of g lists l ≡ Not (source g.inputs (complement l)) → none_true (full_value bits (slot_value g.inputs values)) (pins (gate_of g lists l)) ≡ literal_value values l
not-value g lists bits values ev l e =
    let full = full_value bits (slot_value g.inputs values) in
    ap (λ (x : Gate). none_true full (pins x)) e ∙ (and_true (not (full (source g.inputs (complement l)))) ∙ (ap not (full_value-source g bits values ev (complement l) ∙ ev.complements l) ∙ not_not (literal_value values l)))

value_low : (g : AigView) (lists : ℕ → List Lit) (bits values : List Bool) → IsEvaluated g bits values → (s : ℕ) → s < 2 → none_true (full_value bits (slot_value g.inputs values)) (pins (gate_at g lists s)) ≡ slot_value g.inputs values s
value_low g lists bits values ev s h =
    let l = literal_at g.inputs s in
    let e = literal_low g.inputs s h in
    elim (cases_eq s 0) [
      | inl z ↦
          let one : l.0 ≡ 1 = omega arith in
          let half : l.0 / 2 ≡ 0 = omega arith in
          ap (λ (x : Gate). none_true (full_value bits (slot_value g.inputs values)) (pins x)) (gate_of_one g lists l one) ∙ sym (value-odd values l (omega arith) ∙ (ap (λ (n : ℕ). not (get_or values n false)) half ∙ ap not ev.first))
      | inr ne ↦ not-value g lists bits values ev l (gate_of_not g lists l (inl (omega arith)))
    ]

value_high : (g : AigView) (lists : ℕ → List Lit) → AreLeaves g lists → (bits values : List Bool) → IsEvaluated g bits values → (s : ℕ) → s < slots g → 2 + g.inputs ≤ s → none_true (full_value bits (slot_value g.inputs values)) (pins (gate_at g lists s)) ≡ slot_value g.inputs values s
value_high g lists are bits values ev s h from =
    let l = literal_at g.inputs s in
    let e : l.0 ≡ s + g.inputs = literal_high g.inputs s from in
    let full = full_value bits (slot_value g.inputs values) in
    elim (cases_eq ((s + g.inputs) % 2) 0) [
      | inl even ↦
          let n = l.0 / 2 in
          let is : IsAnd g n = record { above = omega arith; there = omega arith } in
          let lit_even : l.0 % 2 ≡ 0 = omega arith in
          ap (λ (x : Gate). none_true full (pins x)) (gate_of-and g lists l (omega arith) lit_even) ∙ (nor_of-value g bits values ev (lists n) (are.few n is) ∙ (are.conjoin n is bits values ev ∙ sym (value-even values l lit_even)))
      | inr odd ↦ not-value g lists bits values ev l (gate_of_not g lists l (inr (omega arith, omega arith)))
    ]

-- the gate of each slot has the value of its literal
slot-value : (g : AigView) (lists : ℕ → List Lit) → AreLeaves g lists → (bits values : List Bool) → IsEvaluated g bits values → (s : ℕ) → s < slots g → none_true (full_value bits (slot_value g.inputs values)) (pins (gate_at g lists s)) ≡ slot_value g.inputs values s
slot-value g lists are bits values ev s h =
    elim (cases_lt s 2) [
      | inl low ↦ value_low g lists bits values ev s low
      | inr two ↦ elim (cases_lt s (2 + g.inputs)) [
        | inl mid ↦
            let l = literal_at g.inputs s in
            let e = literal_mid g.inputs s two mid in
            not-value g lists bits values ev l (gate_of_not g lists l (inr (omega arith, omega arith)))
        | inr high ↦ value_high g lists are bits values ev s h high
      ]
    ]

outs-value : (g : AigView) (bits values : List Bool) → IsEvaluated g bits values → (ms : List Bool) → (outs : List Lit) → AreInputsOrFirst (length ms) (map (source g.inputs) outs) → AreMarked ms (map (source g.inputs) outs) → map (pin_value bits (kept_values (slot_value g.inputs values) 0 (take (length ms) ms))) (map (numbered ms) (map (source g.inputs) outs)) ≡ map (literal_value values) outs
outs-value g bits values ev ms [] h m = refl
outs-value g bits values ev ms (l ∷ ls) h m =
    let value = pin_value bits (kept_values (slot_value g.inputs values) 0 (take (length ms) ms)) in
    let here = pin_value-numbered bits (slot_value g.inputs values) ms (length ms) (source g.inputs l) h.0 m.0 ∙ full_value-source g bits values ev l in
    ap (λ (b : Bool). b ∷ map value (map (numbered ms) (map (source g.inputs) ls))) here ∙ ap (λ (bs : List Bool). literal_value values l ∷ bs) (outs-value g bits values ev ms ls h.1 m.1)

-- whatever the leaves are, as long as each AND node is true exactly where all of its leaves are, the outputs of the network
-- have the values of the graph's
pub out_values-network_of : (g : AigView) (lists : ℕ → List Lit) → IsAig g → ValueLaws g → AreLeaves g lists → (bits : List Bool) → length bits ≡ g.inputs → out_values (network_of g lists) bits ≡ map (aval g bits) g.outputs
out_values-network_of g lists sound laws are bits len =
    let ms = marks_of g lists in
    let size : length ms ≡ slots g = length-marks_of g lists in
    let values = node_values g bits in
    let ev = node_values-IsEvaluated g laws bits len in
    let value = slot_value g.inputs values in
    let before : ReadBefore (gate_at g lists) (length ms) = λ s h. ReadBefore-gate_at g lists are s (omega arith) in
    let valued : IsValued (gate_at g lists) (length ms) bits value = record { at = λ s h. slot-value g lists are bits values ev s (omega arith) } in
    let gates = gate_values-kept (gate_at g lists) ms bits value before (λ s h m. closed g lists are s (omega arith) m) valued in
    let all : take (length ms) ms ≡ ms = take_all (length ms) ms (omega arith) in
    let P : ℕ → Type 0 = λ n. AreInputsOrFirst n (roots g) in
    let there = subst P (sym size) (AreInputsOrFirst-AreOfFirst g.inputs (slots g) (roots g) (roots-there g g.outputs sound.outputs_there)) in
    ap (λ (vs : List Bool). map (pin_value bits vs) (map (numbered ms) (roots g))) (gates ∙ ap (λ (xs : List Bool). kept_values value 0 xs) (sym all)) ∙ outs-value g bits values ev ms g.outputs there (roots-marked g lists sound)

-- and so they have at each width
pub out_values-nors : (g : AigView) → IsAig g → ValueLaws g → (width : Width) → (bits : List Bool) → length bits ≡ g.inputs → out_values (nors g width) bits ≡ map (aval g bits) g.outputs
out_values-nors g sound laws width bits len = out_values-network_of g (leaves g width) sound laws (leaves-AreLeaves g sound width) bits len
