-- The law of a network's values.
use Rattle.std.proofs.Common.{◌≡◌, ℕ, zero, suc, ◌+◌, ◌<◌, Bool, false, not, ◌&&◌, List, [], ◌∷◌, ◌++◌, length, get_or, refl, sym, ◌∙◌, ap, subst, arith}
use Rattle.std.proofs.lemmas.List.{get_or_append_left, get_or_push, length_push}
use Rattle.pim_nor.specs.Laws.{HasGateValues}
use Rattle.pim_nor.specs.Network.{NorView, IsNetwork, AreOfFirst, ReadsFirst, pins}
use Rattle.pim_nor.specs.Values.{pin_value, none_true, gate_value, gate_values_from}
use Rattle.pim_nor.specs.declared.network.Gate.{Gate}
use Rattle.pim_nor.specs.declared.network.Pin.{Pin}
use Rattle.pim_nor.specs.declared.network.Pin.TheVariants.{Input, Gate as Place}

-- more gates change no value of earlier ones
gate_values_from-keeps : (bits values : List Bool) (gs : List Gate) (i : ℕ) → i < length values → get_or (gate_values_from bits values gs) i false ≡ get_or values i false
gate_values_from-keeps bits values [] i l = refl
gate_values_from-keeps bits values (g ∷ gs) i l =
    let v = gate_value (pin_value bits values) g in
    let len : length (values ++ v ∷ []) ≡ length values + 1 = length_push values v in
    gate_values_from-keeps bits (values ++ v ∷ []) gs i (omega arith) ∙ get_or_append_left values (v ∷ []) false i l

none_true-keeps : (bits values : List Bool) (gs : List Gate) (inputs : ℕ) (ps : List Pin) → AreOfFirst inputs (length values) ps → none_true (pin_value bits values) ps ≡ none_true (pin_value bits (gate_values_from bits values gs)) ps
none_true-keeps bits values gs inputs [] h = refl
none_true-keeps bits values gs inputs (Input j ∷ ps) h =
    ap (λ (b : Bool). not (get_or bits j false) && b) (none_true-keeps bits values gs inputs ps h.1)
none_true-keeps bits values gs inputs (Place i ∷ ps) h =
    ap (λ (b : Bool). not b && none_true (pin_value bits values) ps) (sym (gate_values_from-keeps bits values gs i h.0)) ∙ ap (λ (b : Bool). not (get_or (gate_values_from bits values gs) i false) && b) (none_true-keeps bits values gs inputs ps h.1)

gate-value : (bits values : List Bool) (gs : List Gate) (inputs k : ℕ) (d : Gate) → k < length gs → ((j : ℕ) (e : Gate) → j < length gs → ReadsFirst inputs (length values + j) (get_or gs j e)) → get_or (gate_values_from bits values gs) (length values + k) false ≡ gate_value (pin_value bits (gate_values_from bits values gs)) (get_or gs k d)
gate-value bits values [] inputs k d l before = absurd (omega arith)
gate-value bits values (g ∷ gs) inputs zero d l before =
    let v = gate_value (pin_value bits values) g in
    let len : length (values ++ v ∷ []) ≡ length values + 1 = length_push values v in
    let z : length values + 0 ≡ length values = omega arith in
    let whole = gate_values_from bits values (g ∷ gs) in
    let P : ℕ → Type 0 = λ n. ReadsFirst inputs n g in
    ap (λ (n : ℕ). get_or whole n false) z ∙ (gate_values_from-keeps bits (values ++ v ∷ []) gs (length values) (omega arith) ∙ (get_or_push values v false (length values) refl ∙ none_true-keeps bits values (g ∷ gs) inputs (pins g) (subst P z (before 0 d (omega arith)))))
gate-value bits values (g ∷ gs) inputs (suc k) d l before =
    let v = gate_value (pin_value bits values) g in
    let next = values ++ v ∷ [] in
    let len : length next ≡ length values + 1 = length_push values v in
    let e : length values + suc k ≡ length next + k = omega arith in
    ap (λ (n : ℕ). get_or (gate_values_from bits next gs) n false) e ∙ gate-value bits next gs inputs k d (omega arith) (λ j x h. let shift : length values + suc j ≡ length next + j = omega arith in subst (λ (n : ℕ). ReadsFirst inputs n (get_or gs j x)) shift (before (suc j) x (omega arith)))

pub has_gate_values : (n : NorView) → IsNetwork n → HasGateValues n
has_gate_values n net bits k d l =
    let z : 0 + k ≡ k = omega arith in
    ap (λ (i : ℕ). get_or (gate_values_from bits [] n.gates) i false) (sym z) ∙ gate-value bits [] n.gates n.inputs k d l (λ j e h. let y : j ≡ 0 + j = omega arith in subst (λ (i : ℕ). ReadsFirst n.inputs i (get_or n.gates j e)) y (net.gates_after j e h))
