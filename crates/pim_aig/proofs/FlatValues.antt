-- Flattening keeps the values of all signals.
use Rattle.std.proofs.Common.{◌≡◌, ◌≢◌, ◌⊎◌, ℕ, zero, suc, ◌+◌, ◌*◌, ◌/◌, ◌<◌, ◌≤◌, Bool, true, false, cond, eqb, not, List, [], ◌∷◌, ◌++◌, length, get_or, map, Some, All, Contains, IsPermutation, slice_get, refl, sym, ◌∙◌, ap, inl, inr, arith}
use Rattle.std.specs.List.{flat_map, range_with_len}
use Rattle.std.proofs.lemmas.Bool.{cases_eq}
use Rattle.std.proofs.lemmas.List.{get_or_default, length-map}
use Rattle.std.proofs.lemmas.List.Elements.{All-head, All-tail, Contains-append_cases}
use Rattle.std.proofs.lemmas.List.FromFn.{get_or-range_with_len, length-range_with_len}
use Rattle.std.proofs.lemmas.List.Sorted.{All-permutation, Contains-permutation}
use Rattle.pim_net.specs.Drivers.{sigs, driven}
use Rattle.pim_net.specs.Laws.{HasValues, HasInputValues, HasCoverValues}
use Rattle.pim_net.specs.Netlist.{NetView}
use Rattle.pim_net.specs.Values.{outs, signed}
use Rattle.pim_net.specs.WellFormed.{IsNet, IsReady}
use Rattle.pim_net.specs.declared.parts.Equation.{Equation}
use Rattle.pim_net.specs.declared.parts.OutRef.{OutRef}
use Rattle.pim_net.specs.Tables.{put}
use Rattle.pim_aig.specs.Flat.{no_literals, inputs_from, flat, flattened, output_literal}
use Rattle.pim_aig.specs.Literals.{complement, plain}
use Rattle.pim_aig.specs.Values.{literal_value, values_from, aval}
use Rattle.pim_aig.specs.declared.literal.Lit.{Lit}
use Rattle.pim_aig.proofs.ChainValues.{value-even, value-complement}
use Rattle.pim_aig.proofs.CoverValues.{InRange}
use Rattle.pim_aig.proofs.TableSteps.{put_same, put_other}
use Rattle.pim_aig.proofs.SignalValues.{bit, input-bit, equation-bit}
use Rattle.pim_aig.proofs.EquationValues.{cond_lt, IsValued, AreCovered, equations-valued}

plain-bit : (bits : List Bool) (k : ℕ) → literal_value (false ∷ bits) (plain (1 + k)) ≡ get_or bits k false
plain-bit bits k =
    let half : 2 * (1 + k) / 2 ≡ suc k = omega arith in
    value-even (false ∷ bits) (plain (1 + k)) (omega arith) ∙ ap (λ (n : ℕ). get_or (false ∷ bits) n false) half

-- the inputs from number k on
inputs-valued : (values : ℕ → Bool) (bits : List Bool) (ss : List ℕ) (k : ℕ) (lits : ℕ → Lit) → ((j : ℕ) → j < length ss → values (get_or ss j 0) ≡ get_or bits (k + j) false) → (s : ℕ) → Contains ss s ⊎ (literal_value (false ∷ bits) (lits s) ≡ values s) → literal_value (false ∷ bits) (inputs_from lits k ss s) ≡ values s
inputs-valued values bits [] k lits same s known = elim known [ inl w ↦ absurd (omega (arith, w.1)) | inr is ↦ is ]
inputs-valued values bits (t ∷ ss) k lits same s known =
    let put_in = put lits t (plain (1 + k)) in
    let here : k + 0 ≡ k = omega arith in
    let first : values t ≡ get_or bits k false = same 0 (omega arith) ∙ ap (λ (n : ℕ). get_or bits n false) here in
    let on : (j : ℕ) → j < length ss → values (get_or ss j 0) ≡ get_or bits (k + 1 + j) false = λ j h. let shift : k + suc j ≡ k + 1 + j = omega arith in same (suc j) (omega arith) ∙ ap (λ (n : ℕ). get_or bits n false) shift in
    let next : Contains ss s ⊎ (literal_value (false ∷ bits) (put_in s) ≡ values s) = elim (cases_eq s t) [
      | inl e ↦ inr (ap (literal_value (false ∷ bits)) (put_same lits t s (plain (1 + k)) e) ∙ (plain-bit bits k ∙ (sym first ∙ ap values (sym e))))
      | inr other ↦ elim known [
        | inl w ↦ inl (in_rest t ss s other w.0 w.1 w.2)
        | inr is ↦ inr (ap (literal_value (false ∷ bits)) (put_other lits t s (plain (1 + k)) other) ∙ is)
      ]
    ] in
    inputs-valued values bits ss (k + 1) put_in on s next
  where
    in_rest : (t : ℕ) (ss : List ℕ) (s : ℕ) → s ≢ t → (n : ℕ) → n < length (t ∷ ss) → get_or (t ∷ ss) n s ≡ s → Contains ss s
    in_rest t ss s other zero h is = absurd (other (sym is))
    in_rest t ss s other (suc n) h is = (n, omega arith, is)

inputs-range : (n : ℕ) (ss : List ℕ) (k : ℕ) (lits : ℕ → Lit) → 1 + k + length ss ≤ n → InRange n lits → InRange n (inputs_from lits k ss)
inputs-range n [] k lits le h = h
inputs-range n (t ∷ ss) k lits le h = inputs-range n ss (k + 1) (put lits t (plain (1 + k))) (omega arith) (λ s. cond_lt n (eqb s t) (plain (1 + k)) (lits s) (omega arith) (h s))

-- the equation numbers of an order
topo_within : (n : ℕ) (topo : List ℕ) → IsPermutation (range_with_len 0 n) topo → All (λ k. k < n) topo
topo_within n topo once = All-permutation (λ k. k < n) (range_with_len 0 n) topo once
    (λ i d within. let inside : i < n = omega (arith, length-range_with_len 0 n) in let is = get_or-range_with_len 0 n i d inside in omega (arith, is))

-- what is driven is ready at the end
all_ready : (inputs : List ℕ) (equations : List Equation) (topo : List ℕ) (s : ℕ) → IsPermutation (range_with_len 0 (length equations)) topo → Contains (driven inputs equations) s → IsReady inputs equations topo (length topo) s
all_ready inputs equations topo s once contains =
    elim (Contains-append_cases inputs (sigs equations) s contains) [
      | inl w ↦ inl w
      | inr w ↦
          let k = w.0 in
          let n = length equations in
          let low : k < n = omega (arith, w.1, length-map equations (λ (x : Equation). x.sig)) in
          let ranged : k < length (range_with_len 0 n) = omega (arith, length-range_with_len 0 n) in
          let at = Contains-permutation (range_with_len 0 n) topo k once (k, ranged, get_or-range_with_len 0 n k k low ∙ (let e : 0 + k ≡ k = omega arith in e)) in
          let there : get_or topo at.0 0 ≡ k = get_or_default topo at.0 0 k at.1 ∙ at.2 in
          inr (at.0, at.1, ap (λ (m : ℕ). get_or (sigs equations) m 0) there ∙ (get_or_default (sigs equations) k 0 s w.1 ∙ w.2))
    ]

-- an output's literal has the output's value
output-value : (values : List Bool) (lits : ℕ → Lit) (o : OutRef) (b : Bool) → literal_value values (lits o.sig) ≡ b → literal_value values (output_literal lits o) ≡ signed o.neg b
output-value values lits o b h = by o.neg
  where
    by : (neg : Bool) → literal_value values (cond neg (complement (lits o.sig)) (lits o.sig)) ≡ cond neg (not b) b
    by true = value-complement values (lits o.sig) ∙ ap not h
    by false = h

outputs-value : (values : List Bool) (lits : ℕ → Lit) (bits : ℕ → Bool) (P : ℕ → Type 0) (os : List OutRef) → ((s : ℕ) → P s → literal_value values (lits s) ≡ bits s) → All P (map (λ o. o.sig) os) → map (literal_value values) (map (output_literal lits) os) ≡ map (λ o. signed o.neg (bits o.sig)) os
outputs-value values lits bits P [] h all = refl
outputs-value values lits bits P (o ∷ os) h all =
    let sig_all : All P (o.sig ∷ map (λ (x : OutRef). x.sig) os) = all in
    ap (λ (b : Bool). b ∷ map (literal_value values) (map (output_literal lits) os)) (output-value values lits o (bits o.sig) (h o.sig (All-head P o.sig (map (λ (x : OutRef). x.sig) os) sig_all))) ∙ ap (λ (bs : List Bool). signed o.neg (bits o.sig) ∷ bs) (outputs-value values lits bits P os h (All-tail P o.sig (map (λ (x : OutRef). x.sig) os) sig_all))

All-right : (P : ℕ → Type 0) (xs ys : List ℕ) → All P (xs ++ ys) → All P ys
All-right P [] ys h = h
All-right P (x ∷ xs) ys h = All-right P xs ys (All-tail P x (xs ++ ys) h)

-- the flat graph has the netlist's outputs
pub flat-values : (net : NetView) → IsNet net → HasValues net → HasInputValues net → HasCoverValues net → (bits : List Bool) → length bits ≡ length net.inputs → map (aval (flat net) bits) (flat net).outputs ≡ outs net bits
flat-values net checked driven_ones inputs_same covers bits whole =
    let inputs = net.inputs in
    let es = net.equations in
    let topo = net.topo in
    let values = bit net bits in
    let base : List Bool = false ∷ bits in
    let len : length base ≡ 1 + length inputs = omega arith in
    let lits = inputs_from no_literals 0 inputs in
    let covered : AreCovered values es = record {
      law = λ k e low at. let sig : get_or (sigs es) k 0 ≡ e.sig = sig_at es k e at in (ap values (sym sig) ∙ equation-bit net bits k e driven_ones covers whole low at, sig);
    } in
    let by_input : (j : ℕ) → j < length inputs → values (get_or inputs j 0) ≡ get_or bits (0 + j) false = λ j h. let e : j ≡ 0 + j = omega arith in input-bit net bits j inputs_same whole h ∙ ap (λ (n : ℕ). get_or bits n false) e in
    let start : IsValued values base inputs es topo 0 lits [] = record {
      first = refl;
      range = inputs-range (1 + length inputs + 0) inputs 0 no_literals (omega arith) (λ s. omega arith);
      valued = λ s ready. elim ready [ inl w ↦ inputs-valued values bits inputs 0 no_literals by_input s (inl w) | inr w ↦ absurd (omega (arith, w.1)) ];
    } in
    let same : (j : ℕ) → get_or topo j 0 ≡ get_or topo (0 + j) 0 = λ j. let e : j ≡ 0 + j = omega arith in ap (λ (n : ℕ). get_or topo n 0) e in
    let done = equations-valued values base inputs es topo len covered (topo_within (length es) topo checked.by_depth.once) checked.ready topo 0 lits [] (omega arith) same start in
    let read_all : All (Contains (driven inputs es)) (map (λ (o : OutRef). o.sig) net.outputs) = All-right (Contains (driven inputs es)) (flat_map (λ (e : Equation). e.cover.ins) es) (map (λ (o : OutRef). o.sig) net.outputs) checked.well_formed.driven in
    outputs-value (values_from base (flattened net).ands) (flattened net).lits values (Contains (driven inputs es)) net.outputs (λ s contains. done.valued s (all_ready inputs es topo s checked.by_depth.once contains)) read_all
  where
    sig_at : (es : List Equation) (k : ℕ) (e : Equation) → slice_get es k ≡ Some e → get_or (sigs es) k 0 ≡ e.sig
    sig_at [] k e at = cc
    sig_at (x ∷ es) zero e at = let same : x ≡ e = cc in ap (λ (y : Equation). y.sig) same
    sig_at (x ∷ es) (suc k) e at = sig_at es k e at
