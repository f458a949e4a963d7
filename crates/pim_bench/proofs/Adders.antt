-- How many parts an adder has.
use Rattle.std.proofs.Common.{◌≡◌, ◌∙◌, ◌+◌, ◌*◌, ◌≤◌, ℕ, List, [], ◌∷◌, ◌++◌, length, map, refl, sym, ap, arith, sum_by}
use Rattle.std.specs.List.{flat_map, range_with_len}
use Rattle.std.proofs.lemmas.List.{length-append}
use Rattle.std.proofs.lemmas.List.FromFn.{length-map-range_with_len, length-range_with_len}
use Rattle.std.proofs.lemmas.List.Sums.{sum_by-append}
use Rattle.pim_adder.specs.Adders.{adder, bit_equations, carry, numbered, plain, sum}
use Rattle.pim_aig.specs.Flat.{ands, cover_ands, flat}
use Rattle.pim_compile.specs.Computes.{Computes}
use Rattle.pim_compile.specs.Networks.{coarse_need}
use Rattle.pim_isa.specs.PortLists.{input_ports, labels_of}
use Rattle.pim_isa.specs.Programs.{ProgramView}
use Rattle.pim_isa.specs.declared.port.Port.{Port}
use Rattle.pim_isa.specs.declared.target.Target.{Target}
use Rattle.pim_net.specs.Netlist.{DraftView, NetView, draft_of}
use Rattle.pim_net.specs.declared.parts.Equation.{Equation}
use Rattle.pim_bench.proofs.Bounds.{coarse_small}

abbrev ands_in : List Equation → ℕ
ands_in = sum_by (λ e. cover_ands e.cover)

bits_ands : (bits : ℕ) (ks : List ℕ) → ands_in (flat_map (bit_equations bits) ks) ≡ 16 * length ks
bits_ands bits [] = refl
bits_ands bits (k ∷ ks) =
    let one : ands_in (bit_equations bits k) ≡ 16 = refl in
    omega (arith, one, sum_by-append (λ e. cover_ands e.cover) (bit_equations bits k) (flat_map (bit_equations bits) ks), bits_ands bits ks)

module _ (n : NetView) (bits : ℕ) (is : draft_of n ≡ adder bits) where
  pub adder_ands : ands n ≡ 16 * bits
  adder_ands =
      ap (λ (d : DraftView). ands_in d.equations) is ∙ bits_ands bits (range_with_len 0 bits) ∙ ap (λ k. 16 * k) (length-range_with_len 0 bits)

  adder_inputs : length n.inputs ≡ 2 * bits + 1
  adder_inputs =
      let a = range_with_len 0 bits in
      let b = range_with_len bits bits in
      ap (λ (d : DraftView). length d.inputs) is
      ∙ omega (arith, length-append (a ++ b) (2 * bits ∷ []), length-append a b, length-range_with_len 0 bits, length-range_with_len bits bits)

  input_labels : length n.input_labels ≡ 2 * bits + 1
  input_labels =
      let a = map (numbered 97) (range_with_len 0 bits) in
      let b = map (numbered 98) (range_with_len 0 bits) in
      let c = numbered 99 0 ∷ [] in
      ap (λ (d : DraftView). length d.input_labels) is
      ∙ omega (arith, length-append (a ++ b) c, length-append a b, length-map-range_with_len (numbered 97) 0 bits, length-map-range_with_len (numbered 98) 0 bits)

  adder_outputs : length n.outputs ≡ bits + 1
  adder_outputs =
      let s = map (λ i. plain (sum bits i)) (range_with_len 0 bits) in
      ap (λ (d : DraftView). length d.outputs) is ∙ omega (arith, length-append s (plain (carry bits bits) ∷ []), length-map-range_with_len (λ i. plain (sum bits i)) 0 bits)

  output_labels : length n.output_labels ≡ bits + 1
  output_labels =
      let s = map (numbered 115) (range_with_len 0 bits) in
      ap (λ (d : DraftView). length d.output_labels) is ∙ omega (arith, length-append s (numbered 99 bits ∷ []), length-map-range_with_len (numbered 115) 0 bits)

  -- so an adder of up to 64 bits needs few cells
  pub adder_small : (target : Target) → bits ≤ 64 → length (flat n).ands ≡ ands n → coarse_need n target ≤ 65536
  adder_small target few counted = omega (arith, coarse_small n target counted, adder_ands, adder_inputs, adder_outputs)

  length-input_ports : (c : ℕ) (labels : List (List ℕ)) → length (input_ports c labels) ≡ length labels
  length-input_ports c [] = refl
  length-input_ports c (l ∷ ls) = omega (arith, length-input_ports (c + 1) ls)

  length-labels_of : (ports : List Port) → length (labels_of ports) ≡ length ports
  length-labels_of [] = refl
  length-labels_of (p ∷ ps) = omega (arith, length-labels_of ps)

  -- and a program of it has as many inputs and outputs
  pub program_inputs : (p : ProgramView) → Computes p n → length p.inputs ≡ 2 * bits + 1
  program_inputs p computes = ap length computes.realizes.inputs ∙ length-input_ports 0 n.input_labels ∙ input_labels

  pub program_outputs : (p : ProgramView) → Computes p n → length p.outputs ≡ bits + 1
  program_outputs p computes = sym (length-labels_of p.outputs) ∙ ap length computes.labels ∙ output_labels
