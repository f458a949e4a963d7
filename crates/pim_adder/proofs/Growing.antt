-- A draft that grows by the ports and the equations of one bit.
use Rattle.std.proofs.Common.{◌≡◌, ℕ, ◌+◌, ◌*◌, ◌++◌, List, [], ◌∷◌, map, refl, sym, ap, ◌∙◌, append_assoc, arith}
use Rattle.std.specs.List.{flat_map, range_with_len}
use Rattle.std.specs.Fmt.{decimal}
use Rattle.std.proofs.lemmas.List.{map-id, append-nil}
use Rattle.std.proofs.lemmas.List.Concat.{flat_map-append}
use Rattle.std.proofs.lemmas.List.FromFn.{map-range_with_len_more}
use Rattle.pim_io.specs.Names.{label}
use Rattle.pim_net.specs.Covers.{CoverView}
use Rattle.pim_net.specs.Netlist.{DraftView}
use Rattle.pim_net.specs.declared.parts.Equation.{Equation}
use Rattle.pim_net.specs.declared.parts.OutRef.{OutRef}
use Rattle.pim_adder.specs.Adders.{adder, numbered, plain, sum, carry, sum_equation, carry_equation, bit_equations}

-- one more number in a range
range_more : (a k : ℕ) → range_with_len a (k + 1) ≡ range_with_len a k ++ (a + k) ∷ []
range_more a k = simp map-id at (map-range_with_len_more (λ x. x) a k (a + k) refl)

-- one more label
labels_more : (letter k : ℕ) (text : List ℕ) → text ≡ letter ∷ decimal k → map (numbered letter) (range_with_len 0 k) ++ label text ∷ [] ≡ map (numbered letter) (range_with_len 0 (k + 1))
labels_more letter k text is = ap (λ t. map (numbered letter) (range_with_len 0 k) ++ label t ∷ []) is ∙ sym (map-range_with_len_more (numbered letter) 0 k k (omega arith))

-- one more input
pub inputs_more : (initial old new : DraftView) (letter start k : ℕ) (text : List ℕ) → text ≡ letter ∷ decimal k
    → old ≡ record initial { inputs = initial.inputs ++ range_with_len start k; input_labels = initial.input_labels ++ map (numbered letter) (range_with_len 0 k) }
    → new ≡ record old { inputs = old.inputs ++ (start + k) ∷ []; input_labels = old.input_labels ++ label text ∷ [] }
    → new ≡ record initial { inputs = initial.inputs ++ range_with_len start (k + 1); input_labels = initial.input_labels ++ map (numbered letter) (range_with_len 0 (k + 1)) }
inputs_more initial old new letter start k text named so_far step =
    let ins = append_assoc initial.inputs (range_with_len start k) ((start + k) ∷ []) ∙ ap (λ (xs : List ℕ). initial.inputs ++ xs) (sym (range_more start k)) in
    let labels = append_assoc initial.input_labels (map (numbered letter) (range_with_len 0 k)) (label text ∷ []) ∙ ap (λ (xs : List (List ℕ)). initial.input_labels ++ xs) (labels_more letter k text named) in
    step ∙ ap (λ (d : DraftView). record d { inputs = d.inputs ++ (start + k) ∷ []; input_labels = d.input_labels ++ label text ∷ [] }) so_far
    ∙ ap (λ (xs : List ℕ). record initial { inputs = xs; input_labels = (initial.input_labels ++ map (numbered letter) (range_with_len 0 k)) ++ label text ∷ [] }) ins
    ∙ ap (λ (xs : List (List ℕ)). record initial { inputs = initial.inputs ++ range_with_len start (k + 1); input_labels = xs }) labels

-- one more output
pub outputs_more : (initial old new : DraftView) (bits k : ℕ) (text : List ℕ) → text ≡ 115 ∷ decimal k
    → old ≡ record initial { outputs = initial.outputs ++ map (λ i. plain (sum bits i)) (range_with_len 0 k); output_labels = initial.output_labels ++ map (numbered 115) (range_with_len 0 k) }
    → new ≡ record old { outputs = old.outputs ++ plain (sum bits k) ∷ []; output_labels = old.output_labels ++ label text ∷ [] }
    → new ≡ record initial { outputs = initial.outputs ++ map (λ i. plain (sum bits i)) (range_with_len 0 (k + 1)); output_labels = initial.output_labels ++ map (numbered 115) (range_with_len 0 (k + 1)) }
outputs_more initial old new bits k text named so_far step =
    let outs = append_assoc initial.outputs (map (λ i. plain (sum bits i)) (range_with_len 0 k)) (plain (sum bits k) ∷ []) ∙ ap (λ (xs : List OutRef). initial.outputs ++ xs) (sym (map-range_with_len_more (λ i. plain (sum bits i)) 0 k k (omega arith))) in
    let labels = append_assoc initial.output_labels (map (numbered 115) (range_with_len 0 k)) (label text ∷ []) ∙ ap (λ (xs : List (List ℕ)). initial.output_labels ++ xs) (labels_more 115 k text named) in
    step ∙ ap (λ (d : DraftView). record d { outputs = d.outputs ++ plain (sum bits k) ∷ []; output_labels = d.output_labels ++ label text ∷ [] }) so_far
    ∙ ap (λ (xs : List OutRef). record initial { outputs = xs; output_labels = (initial.output_labels ++ map (numbered 115) (range_with_len 0 k)) ++ label text ∷ [] }) outs
    ∙ ap (λ (xs : List (List ℕ)). record initial { outputs = initial.outputs ++ map (λ i. plain (sum bits i)) (range_with_len 0 (k + 1)); output_labels = xs }) labels

-- the equations of one more bit
pub equations_more : (bits k : ℕ) → flat_map (bit_equations bits) (range_with_len 0 k) ++ bit_equations bits k ≡ flat_map (bit_equations bits) (range_with_len 0 (k + 1))
equations_more bits k =
    let here : 0 + k ≡ k = omega arith in
    let es = flat_map (bit_equations bits) (range_with_len 0 k) in
    sym (ap (flat_map (bit_equations bits)) (range_more 0 k) ∙ flat_map-append (bit_equations bits) (range_with_len 0 k) ((0 + k) ∷ []) ∙ ap (λ (n : ℕ). es ++ (bit_equations bits n ++ [])) here ∙ ap (λ (xs : List Equation). es ++ xs) (append-nil (bit_equations bits k)))

-- the equations of one bit, one after the other
pub bits_more : (initial old between new : DraftView) (bits i : ℕ) (first second : CoverView) → first ≡ (sum_equation bits i).cover → second ≡ (carry_equation bits i).cover
    → old ≡ record initial { equations = flat_map (bit_equations bits) (range_with_len 0 i) }
    → between ≡ record old { equations = old.equations ++ record { sig = sum bits i; cover = first } ∷ [] }
    → new ≡ record between { equations = between.equations ++ record { sig = carry bits (i + 1); cover = second } ∷ [] }
    → new ≡ record initial { equations = flat_map (bit_equations bits) (range_with_len 0 (i + 1)) }
bits_more initial old between new bits i first second is_sum is_carry so_far step last =
    let es = flat_map (bit_equations bits) (range_with_len 0 i) in
    let whole = append_assoc es (sum_equation bits i ∷ []) (carry_equation bits i ∷ []) ∙ equations_more bits i in
    last
    ∙ ap (λ (d : DraftView). record d { equations = d.equations ++ record { sig = carry bits (i + 1); cover = second } ∷ [] }) (step ∙ ap (λ (d : DraftView). record d { equations = d.equations ++ record { sig = sum bits i; cover = first } ∷ [] }) so_far)
    ∙ ap (λ (c : CoverView). record initial { equations = (es ++ record { sig = sum bits i; cover = c } ∷ []) ++ record { sig = carry bits (i + 1); cover = second } ∷ [] }) is_sum
    ∙ ap (λ (c : CoverView). record initial { equations = (es ++ sum_equation bits i ∷ []) ++ record { sig = carry bits (i + 1); cover = c } ∷ [] }) is_carry
    ∙ ap (λ (xs : List Equation). record initial { equations = xs }) whole

abbrev with_inputs : ℕ → ℕ → ℕ → DraftView → DraftView
with_inputs letter start bits d = record d { inputs = d.inputs ++ range_with_len start bits; input_labels = d.input_labels ++ map (numbered letter) (range_with_len 0 bits) }

abbrev with_carry : ℕ → List ℕ → DraftView → DraftView
with_carry bits text d = record d { inputs = d.inputs ++ 2 * bits ∷ []; input_labels = d.input_labels ++ label text ∷ [] }

abbrev with_equations : ℕ → DraftView → DraftView
with_equations bits d = record d { equations = flat_map (bit_equations bits) (range_with_len 0 bits) }

abbrev with_sums : ℕ → DraftView → DraftView
with_sums bits d = record d { outputs = d.outputs ++ map (λ i. plain (sum bits i)) (range_with_len 0 bits); output_labels = d.output_labels ++ map (numbered 115) (range_with_len 0 bits) }

abbrev with_last : ℕ → List ℕ → DraftView → DraftView
with_last bits text d = record d { outputs = d.outputs ++ plain (carry bits bits) ∷ []; output_labels = d.output_labels ++ label text ∷ [] }

-- all parts, one after the other
pub adder_made : (bits : ℕ) (d0 d1 d2 d3 d4 d5 d6 : DraftView) (text last : List ℕ) → text ≡ 99 ∷ decimal 0 → last ≡ 99 ∷ decimal bits
    → d0 ≡ record { inputs = []; input_labels = []; equations = []; outputs = []; output_labels = [] }
    → d1 ≡ with_inputs 97 0 bits d0 → d2 ≡ with_inputs 98 bits bits d1 → d3 ≡ with_carry bits text d2 → d4 ≡ with_equations bits d3 → d5 ≡ with_sums bits d4 → d6 ≡ with_last bits last d5
    → d6 ≡ adder bits
adder_made bits d0 d1 d2 d3 d4 d5 d6 text last is_text is_last s0 s1 s2 s3 s4 s5 s6 =
    let r1 = s1 ∙ ap (with_inputs 97 0 bits) s0 in
    let r2 = s2 ∙ ap (with_inputs 98 bits bits) r1 in
    let r3 = s3 ∙ ap (λ (t : List ℕ). with_carry bits t d2) is_text ∙ ap (with_carry bits (99 ∷ decimal 0)) r2 in
    let r4 = s4 ∙ ap (with_equations bits) r3 in
    let r5 = s5 ∙ ap (with_sums bits) r4 in
    s6 ∙ ap (λ (t : List ℕ). with_last bits t d5) is_last ∙ ap (with_last bits (99 ∷ decimal bits)) r5
