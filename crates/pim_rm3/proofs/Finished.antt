-- A finished program of the schedule: it is sound, and realizes the graph.
use Rattle.std.proofs.Common.{◌≡◌, ◌≢◌, ℕ, suc, ◌+◌, ◌<◌, ◌≤◌, true, List, [], ◌∷◌, length, get_or, take, map, All, AllPairs, refl, sym, ◌∙◌, ap, subst, arith, inl, inr}
use Rattle.std.specs.List.{range_with_len}
use Rattle.std.proofs.lemmas.List.Elements.{All-cons}
use Rattle.std.proofs.lemmas.List.FromFn.{length-range_with_len, get_or-range_with_len}
use Rattle.pim_aig.specs.Graph.{AigView}
use Rattle.pim_aig.specs.Values.{aval}
use Rattle.pim_aig.specs.declared.literal.Lit.{Lit}
use Rattle.pim_graph.specs.Allotments.{AllotmentView}
use Rattle.pim_graph.specs.Graphs.{has}
use Rattle.pim_graph.specs.Orders.{IsReached}
use Rattle.pim_isa.specs.Laws.{ExecLaws}
use Rattle.pim_isa.specs.PortLists.{input_ports}
use Rattle.pim_isa.specs.Programs.{PortsView}
use Rattle.pim_isa.specs.Realizes.{Realizes}
use Rattle.pim_isa.specs.Sound.{IsSound, cells_of}
use Rattle.pim_isa.specs.Steps.{exec}
use Rattle.pim_rm3.specs.Gates.{gate_graph, gates}
use Rattle.pim_rm3.specs.Schedules.{output_cell, output_ports, program_of, schedule}
use Rattle.pim_rm3.proofs.Counts.{ports_hold}
use Rattle.pim_rm3.proofs.Fitting.{Fits, all_get, fits_valid, fits_writes, schedule_fits}
use Rattle.pim_rm3.specs.inner.Settled.{IsSettled}
use Rattle.pim_rm3.proofs.Walks.{output_holds, output_within}

-- each reached gate is in the order
abbrev pub IsComplete : AigView → Type 0
IsComplete g = (y : ℕ) → IsReached (gate_graph g) y → has (gates g) y ≡ true

pub realizes : (g : AigView) (ports : PortsView) (a : AllotmentView) → IsSettled g a → ExecLaws → IsComplete g → length ports.inputs ≡ g.inputs → length ports.outputs ≡ length g.outputs → Realizes (program_of g ports a) ports.inputs (λ bits. map (aval g bits) g.outputs)
realizes g ports a s laws complete ins outs =
    let is = schedule g a.cells in
    let fit = schedule_fits g a s in
    record {
      inputs = refl;
      keeps_inputs = λ k c i e l. fits_writes g.inputs a.width i c (all_get (Fits g.inputs a.width) is k i fit e) (inl (omega arith));
      gives_outputs = λ m bits len wide start.
          let row : take g.inputs m ≡ bits = ap (λ (n : ℕ). take n m) (sym ins) ∙ start in
          ports_hold g.inputs a.cells (aval g bits) (exec is m) g.outputs ports.outputs outs (λ k d h. output_holds g a bits m k d s laws complete (len ∙ ins) wide row h);
      keeps_length = λ m. laws.keeps_length is m;
      keeps_others = λ m c h. laws.keeps_others is m c (λ k d l. fits_writes g.inputs a.width (get_or is k d) c (fit k d l) (inr h));
    }

pub input_cells : (labels : List (List ℕ)) (c : ℕ) → cells_of (input_ports c labels) ≡ range_with_len c (length labels)
input_cells [] c = refl
input_cells (x ∷ labels) c = ap (λ (xs : List ℕ). c ∷ xs) (input_cells labels (c + 1))

pub range_within : (n w : ℕ) → n ≤ w → All (λ c. c < w) (range_with_len 0 n)
range_within n w h = λ k d l.
    let b : k < n = omega (arith, length-range_with_len 0 n) in
    let e = get_or-range_with_len 0 n k d b in
    omega arith

pub range_distinct : (n : ℕ) → AllPairs ◌≢◌ (range_with_len 0 n)
range_distinct n = λ i j d l h same.
    let b : j < n = omega (arith, length-range_with_len 0 n) in
    let e = get_or-range_with_len 0 n i d (omega arith) in
    let f = get_or-range_with_len 0 n j d b in
    absurd (omega arith)

pub ports_within : (ins : ℕ) (cells : List ℕ) (w : ℕ) (os : List Lit) (labels : List (List ℕ)) → ((k : ℕ) (d : Lit) → k < length os → output_cell ins cells (get_or os k d) < w) → All (λ c. c < w) (cells_of (output_ports ins cells os labels))
ports_within ins cells w [] labels h = λ k d l. absurd (omega arith)
ports_within ins cells w (o ∷ os) [] h = λ k d l. absurd (omega arith)
ports_within ins cells w (o ∷ os) (x ∷ labels) h =
    All-cons (λ c. c < w) (output_cell ins cells o) (cells_of (output_ports ins cells os labels)) (h 0 o (omega arith)) (ports_within ins cells w os labels (λ k d l. h (suc k) d (omega arith)))

pub sound : (g : AigView) (ports : PortsView) (a : AllotmentView) → IsSettled g a → IsComplete g → length ports.inputs ≡ g.inputs → IsSound (program_of g ports a)
sound g ports a s complete ins =
    let n = length ports.inputs in
    let P : List ℕ → Type 0 = λ xs. All (λ c. c < a.width) xs in
    let Q : List ℕ → Type 0 = λ xs. AllPairs ◌≢◌ xs in
    record {
      inputs = subst P (sym (input_cells ports.inputs 0)) (range_within n a.width (omega (arith, s.allotted.room)));
      distinct = subst Q (sym (input_cells ports.inputs 0)) (range_distinct n);
      outputs = ports_within g.inputs a.cells a.width g.outputs ports.outputs (λ k d h. output_within g a k d s complete h);
      instrs = λ k d l. fits_valid g.inputs a.width _ (schedule_fits g a s k d l);
    }

pub inputs_count : (labels : List (List ℕ)) (c : ℕ) → length (input_ports c labels) ≡ length labels
inputs_count [] c = refl
inputs_count (x ∷ labels) c = let r = inputs_count labels (c + 1) in omega arith
