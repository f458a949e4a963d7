-- A finished program of the schedule: it has no fault, and realizes the graph.
use Rattle.std.proofs.Common.{◌≡◌, ◌≢◌, ◌⊎◌, ℕ, zero, suc, ◌+◌, ◌-◌, ◌*◌, ◌/◌, ◌<◌, ◌≤◌, Bool, true, false, cond, eqb, nat_le, ◌||◌, List, [], ◌∷◌, ◌++◌, length, map, fold, flat_map, get_or, take, drop, sum_by, slice_get, All, Option, Some, None, refl, sym, ◌∙◌, ap, subst, arith, inl, inr}
use Rattle.std.specs.List.{list_any, AllByRecursion}
use Rattle.std.proofs.lemmas.Bool.{false≢true}
use Rattle.std.proofs.lemmas.Bool.Decides.{nat_tests}
use Rattle.std.proofs.lemmas.List.{length-map}
use Rattle.std.proofs.lemmas.List.Elements.{All-append, All-cons, recursion_from_All}
use Rattle.std.proofs.lemmas.List.Concat.{length-flat_map}
use Rattle.std.proofs.lemmas.List.Sums.{sum_by-cons}
use Rattle.std.proofs.lemmas.Option.{slice_get_cases}
use Rattle.std.proofs.Math.ListN.{drop_of_length-le}
use Rattle.std.proofs.Math.Seq.{take-length}
use Rattle.pim_aig.specs.Graph.{AigView}
use Rattle.pim_aig.specs.Values.{aval}
use Rattle.pim_aig.specs.declared.literal.Lit.{Lit}
use Rattle.pim_graph.specs.Allotments.{AllotmentView}
use Rattle.pim_graph.specs.Graphs.{has}
use Rattle.pim_graph.specs.Orders.{IsReached}
use Rattle.pim_graph.specs.Orders.IsReached.{as_root}
use Rattle.pim_graph.specs.Peaks.{needed}
use Rattle.pim_isa.specs.PortLists.{input_ports, labels_of}
use Rattle.pim_isa.specs.Programs.{PortsView}
use Rattle.pim_isa.specs.Steps.{bit}
use Rattle.pim_isa.specs.Validity.{bad_input, bad_output}
use Rattle.pim_isa.specs.declared.port.Port.{Port}
use Rattle.pim_imply.specs.declared.instr.ImplyInstr.{ImplyInstr}
use Rattle.pim_imply.specs.declared.instr.ImplyInstr.TheVariants.{False, Imp}
use Rattle.pim_imply.specs.Costs.{impcost}
use Rattle.pim_imply.specs.Gates.{gates, imply_graph, is_input, operands, turned, with_root}
use Rattle.pim_imply.specs.Machines.{iexec}
use Rattle.pim_imply.specs.Realizes.{IRealizes, written}
use Rattle.pim_imply.specs.inner.Schedules.{cell_of, gate_instrs, output_ports, program_of, schedule}
use Rattle.pim_imply.specs.Validity.{first_instr_fault, fault_of}
use Rattle.pim_imply.proofs.GateReads.{or_true, operands_few}
use Rattle.pim_imply.proofs.Literals.{lit, bool_cases, turned_twice, even_value, input_value}
use Rattle.pim_imply.proofs.Rows.{iexec_length, iexec_other}
use Rattle.pim_imply.proofs.Walks.{IsSettled, source_of, has_at_place, input_means, all_hold}

-- an instruction writes a cell behind the first, within the program, and reads another one
abbrev pub Fits : ℕ → ℕ → ImplyInstr → Type 0
Fits f w (False q) = (f ≤ q) × (q < w)
Fits f w (Imp p q) = (f ≤ q) × (q < w) × (p < w) × (p ≢ q)

abbrev pub IsComplete : AigView → Type 0
IsComplete g = (y : ℕ) → IsReached (imply_graph g) y → has (gates g) y ≡ true

eq_self : (x : ℕ) → eqb x x ≡ true
eq_self x = grind (arith, nat_tests)

imps_fit : (f w z : ℕ) (ls : List ℕ) (cell : ℕ → ℕ) → f ≤ z → z < w → ((o : ℕ) → has ls o ≡ true → (cell o < w) × (cell o ≢ z)) → All (Fits f w) (map (λ c. Imp c z) (map cell ls))
imps_fit f w z [] cell lo hi h = λ k d l. absurd (omega arith)
imps_fit f w z (o ∷ ls) cell lo hi h =
    let first = h o (ap (λ (b : Bool). b || has ls o) (eq_self o)) in
    All-cons (Fits f w) (Imp (cell o) z) (map (λ c. Imp c z) (map cell ls)) (lo, hi, first.0, first.1) (imps_fit f w z ls cell lo hi (λ x i. h x (or_true (eqb o x) (has ls x) i)))

gate_fits : (g : AigView) (a : AllotmentView) (p : ℕ) → IsSettled g a → p < length (gates g) → All (Fits g.inputs a.width) (gate_instrs g a.cells (get_or (gates g) p 0))
gate_fits g a p s h =
    let l = get_or (gates g) p 0 in
    let z = get_or a.cells l 0 in
    let ops = operands g (turned l) in
    let lo = s.allotted.from l (has_at_place (gates g) p h) in
    let hi = s.allotted.within l (has_at_place (gates g) p h) in
    All-cons (Fits g.inputs a.width) (False z) (map (λ c. Imp c z) (map (cell_of g a.cells) ops)) (lo, hi)
    (imps_fit g.inputs a.width z ops (cell_of g a.cells) lo hi (λ o i. let s = source_of g a p o s h i in (s.within, s.apart)))

all_flat : (P : ImplyInstr → Type 0) (f : ℕ → List ImplyInstr) (xs : List ℕ) → ((k : ℕ) → k < length xs → All P (f (get_or xs k 0))) → All P (flat_map f xs)
all_flat P f [] h = λ k d l. absurd (omega arith)
all_flat P f (x ∷ xs) h = All-append P (f x) (flat_map f xs) (h 0 (omega arith)) (all_flat P f xs (λ k l. h (suc k) (omega arith)))

schedule_fits : (g : AigView) (a : AllotmentView) → IsSettled g a → All (Fits g.inputs a.width) (schedule g a.cells)
schedule_fits g a s = all_flat (Fits g.inputs a.width) (gate_instrs g a.cells) (gates g) (λ k l. gate_fits g a k s l)

fits_writes : (f w : ℕ) (i : ImplyInstr) (c : ℕ) → Fits f w i → (c < f) ⊎ (w ≤ c) → written i ≢ c
fits_writes f w (False q) c h o = λ e. elim o [ inl l ↦ omega (arith, h.0, e) | inr r ↦ omega (arith, h.1, e) ]
fits_writes f w (Imp p q) c h o = λ e. elim o [ inl l ↦ omega (arith, h.0, e) | inr r ↦ omega (arith, h.1, e) ]

none_get : (o : Option ImplyInstr) (i : ImplyInstr) → o ≡ None → o ≡ Some i → ⊥
none_get o i n e = cc

some_is : (x i : ImplyInstr) → Some x ≡ Some i → x ≡ i
some_is x i e = cc

all_get : (P : ImplyInstr → Type 0) (is : List ImplyInstr) (k : ℕ) (i : ImplyInstr) → All P is → slice_get is k ≡ Some i → P i
all_get P is k i h e = elim (slice_get_cases is k).1 [
  | inl t ↦ subst P (t.3 ∙ some_is t.0 i (sym t.2 ∙ e)) (h k t.0 t.1)
  | inr n ↦ absurd (none_get (slice_get is k) i n.1 e)
]

-- outputs

has_front : (xs ys : List ℕ) (k : ℕ) → has xs k ≡ true → has (xs ++ ys) k ≡ true
has_front [] ys k h = absurd (false≢true h)
has_front (x ∷ xs) ys k h = elim (bool_cases (eqb x k)) [
  | inl t ↦ ap (λ (b : Bool). b || has (xs ++ ys) k) t
  | inr f ↦ or_true (eqb x k) (has (xs ++ ys) k) (has_front xs ys k (sym (ap (λ (b : Bool). b || has xs k) f) ∙ h))
]

has_last : (xs : List ℕ) (x : ℕ) → has (xs ++ x ∷ []) x ≡ true
has_last [] x = ap (λ (b : Bool). b || false) (eq_self x)
has_last (y ∷ ys) x = or_true (eqb y x) (has (ys ++ x ∷ []) x) (has_last ys x)

root_keeps : (g : AigView) (os : List Lit) (roots : List ℕ) (y : ℕ) → has roots y ≡ true → has (fold (with_root g) roots os) y ≡ true
root_keeps g [] roots y h = h
root_keeps g (o ∷ os) roots y h = root_keeps g os (with_root g roots o) y (elim (bool_cases (is_input g o.0)) [
  | inl i ↦ ap (λ (b : Bool). has (cond b roots (cond (has roots (turned o.0)) roots (roots ++ turned o.0 ∷ []))) y) i ∙ h
  | inr j ↦ ap (λ (b : Bool). has (cond b roots (cond (has roots (turned o.0)) roots (roots ++ turned o.0 ∷ []))) y) j ∙ elim (bool_cases (has roots (turned o.0))) [
    | inl u ↦ ap (λ (b : Bool). has (cond b roots (roots ++ turned o.0 ∷ [])) y) u ∙ h
    | inr u ↦ ap (λ (b : Bool). has (cond b roots (roots ++ turned o.0 ∷ [])) y) u ∙ has_front roots (turned o.0 ∷ []) y h
  ]
])

root_new : (g : AigView) (roots : List ℕ) (o : Lit) → is_input g o.0 ≡ false → has (with_root g roots o) (turned o.0) ≡ true
root_new g roots o j = ap (λ (b : Bool). has (cond b roots (cond (has roots (turned o.0)) roots (roots ++ turned o.0 ∷ []))) (turned o.0)) j ∙ elim (bool_cases (has roots (turned o.0))) [
  | inl u ↦ ap (λ (b : Bool). has (cond b roots (roots ++ turned o.0 ∷ [])) (turned o.0)) u ∙ u
  | inr u ↦ ap (λ (b : Bool). has (cond b roots (roots ++ turned o.0 ∷ [])) (turned o.0)) u ∙ has_last roots (turned o.0)
]

roots_have : (g : AigView) (os : List Lit) (roots : List ℕ) (k : ℕ) (d : Lit) → k < length os → is_input g (get_or os k d).0 ≡ false → has (fold (with_root g) roots os) (turned (get_or os k d).0) ≡ true
roots_have g [] roots k d h j = absurd (omega arith)
roots_have g (o ∷ os) roots zero d h j = root_keeps g os (with_root g roots o) (turned o.0) (root_new g roots o j)
roots_have g (o ∷ os) roots (suc k) d h j = roots_have g os (with_root g roots o) k d (omega arith) j

le_same : (n : ℕ) → n ≤ n
le_same n = omega arith

output_holds : (g : AigView) (a : AllotmentView) (bits m : List Bool) (k : ℕ) (d : Lit) → IsSettled g a → IsComplete g → length bits ≡ g.inputs → a.width ≤ length m → take g.inputs m ≡ bits → k < length g.outputs → bit (iexec (schedule g a.cells) m) (cell_of g a.cells (get_or g.outputs k d).0) ≡ aval g bits (get_or g.outputs k d)
output_holds g a bits m k d s complete len wide is h =
    let o = get_or g.outputs k d in
    let xs = gates g in
    let v = imply_graph g in
    let end = all_hold g a bits m s len wide is in
    let r = iexec (schedule g a.cells) m in
    elim (bool_cases (is_input g o.0)) [
      | inl i ↦
          let t = input_means g o.0 i in
          let some = t.some in
          let few = t.few in
          ap (λ (b : Bool). bit r (cond b (o.0 / 2 - 1) (get_or a.cells (turned o.0) 0))) i
          ∙ end.inputs (o.0 / 2 - 1) (omega arith)
          ∙ sym (input_value g bits (o.0 / 2) s.values len some few)
          ∙ sym (even_value g bits o.0 t.even)
      | inr j ↦
          let y = turned o.0 in
          let root = roots_have g g.outputs [] k d h j in
          let there = complete y (as_root root) in
          let front : has (take (length xs) xs) y ≡ true = ap (λ (ys : List ℕ). has ys y) (take-length xs) ∙ there in
          let need : needed v (drop (length xs) xs) y ≡ true = ap (λ (ys : List ℕ). needed v ys y) (drop_of_length-le xs (le_same (length xs))) ∙ root in
          ap (λ (b : Bool). bit r (cond b (o.0 / 2 - 1) (get_or a.cells (turned o.0) 0))) j
          ∙ end.held y front need
          ∙ ap (λ (n : ℕ). aval g bits (lit n)) (turned_twice o.0)
    ]

output_within : (g : AigView) (a : AllotmentView) (k : ℕ) (d : Lit) → IsSettled g a → IsComplete g → k < length g.outputs → cell_of g a.cells (get_or g.outputs k d).0 < a.width
output_within g a k d s complete h =
    let o = get_or g.outputs k d in
    let P : Bool → Type 0 = λ b. cond {A = ℕ} b (o.0 / 2 - 1) (get_or a.cells (turned o.0) 0) < a.width in
    elim (bool_cases (is_input g o.0)) [
      | inl i ↦ let t = input_means g o.0 i in let some = t.some in let few = t.few in let room = s.allotted.room in subst P (sym i) (omega arith)
      | inr j ↦ subst P (sym j) (s.allotted.within (turned o.0) (complete (turned o.0) (as_root (roots_have g g.outputs [] k d h j))))
    ]

ports_hold : (g : AigView) (cells : List ℕ) (bits r : List Bool) (os : List Lit) (labels : List (List ℕ)) → length labels ≡ length os → ((k : ℕ) (d : Lit) → k < length os → bit r (cell_of g cells (get_or os k d).0) ≡ aval g bits (get_or os k d)) → map (λ (o : Port). bit r o.cell) (output_ports g cells os labels) ≡ map (λ o. aval g bits o) os
ports_hold g cells bits r [] labels len h = refl
ports_hold g cells bits r (o ∷ os) [] len h = absurd (omega arith)
ports_hold g cells bits r (o ∷ os) (x ∷ labels) len h =
    let first = h 0 o (omega arith) in
    let rest = ports_hold g cells bits r os labels (omega arith) (λ k d l. h (suc k) d (omega arith)) in
    rw (first, rest) refl

pub realizes : (g : AigView) (ports : PortsView) (a : AllotmentView) → IsSettled g a → IsComplete g → length ports.inputs ≡ g.inputs → length ports.outputs ≡ length g.outputs → IRealizes (program_of g ports a) ports.inputs (λ bits. map (λ o. aval g bits o) g.outputs)
realizes g ports a s complete ins outs =
    let is = schedule g a.cells in
    let fit = schedule_fits g a s in
    record {
      inputs = refl;
      keeps_inputs = λ k c i e l. fits_writes g.inputs a.width i c (all_get (Fits g.inputs a.width) is k i fit e) (inl (omega arith));
      gives_outputs = λ m bits len wide start.
          let row : take g.inputs m ≡ bits = ap (λ (n : ℕ). take n m) (sym ins) ∙ start in
          ports_hold g a.cells bits (iexec is m) g.outputs ports.outputs outs (λ k d h. output_holds g a bits m k d s complete (len ∙ ins) wide row h);
      keeps_length = λ m. iexec_length is m;
      keeps_others = λ m c h. iexec_other is m c (recursion_from_All (λ i. written i ≢ c) is (λ k d l. fits_writes g.inputs a.width (get_or is k d) c (fit k d l) (inr h)));
    }

-- it has no fault

le_false : (m n : ℕ) → n < m → nat_le m n ≡ false
le_false m n h = grind (arith, nat_tests)

ne_false : (m n : ℕ) → m ≢ n → eqb m n ≡ false
ne_false m n h = grind (arith, nat_tests)

none_has : (c : ℕ) (earlier : List ℕ) → AllByRecursion (λ d. d < c) earlier → list_any (λ d. eqb d c) earlier ≡ false
none_has c [] h = refl
none_has c (d ∷ ds) h = let first = ne_false d c (λ e. omega (arith, h.0)) in rw (first, none_has c ds h.1) refl

below_next : (c : ℕ) (ds : List ℕ) → AllByRecursion (λ d. d < c) ds → AllByRecursion (λ d. d < c + 1) ds
below_next c [] h = tt
below_next c (d ∷ ds) h = (omega (arith, h.0), below_next c ds h.1)

inputs_fine : (w k c : ℕ) (earlier : List ℕ) (labels : List (List ℕ)) → c + length labels ≤ w → AllByRecursion (λ d. d < c) earlier → bad_input w k earlier (input_ports c labels) ≡ None
inputs_fine w k c earlier [] h e = refl
inputs_fine w k c earlier (x ∷ labels) h e =
    let below = le_false w c (omega arith) in
    let fresh = none_has c earlier e in
    let rest = inputs_fine w (k + 1) (c + 1) (c ∷ earlier) labels (omega arith) (omega arith, below_next c earlier e) in
    rw (below, fresh) rest

outputs_fine : (g : AigView) (cells : List ℕ) (w k : ℕ) (os : List Lit) (labels : List (List ℕ)) → ((j : ℕ) (d : Lit) → j < length os → cell_of g cells (get_or os j d).0 < w) → bad_output w k (output_ports g cells os labels) ≡ None
outputs_fine g cells w k [] labels h = refl
outputs_fine g cells w k (o ∷ os) [] h = refl
outputs_fine g cells w k (o ∷ os) (x ∷ labels) h =
    let below = le_false w (cell_of g cells o.0) (h 0 o (omega arith)) in
    rw below (outputs_fine g cells w (k + 1) os labels (λ j d l. h (suc j) d (omega arith)))

instrs_fine : (f w k : ℕ) (is : List ImplyInstr) → AllByRecursion (Fits f w) is → first_instr_fault w k is ≡ None
instrs_fine f w k [] h = refl
instrs_fine f w k (False q ∷ is) h =
    let below = le_false w q h.0.1 in
    rw below (instrs_fine f w (k + 1) is h.1)
instrs_fine f w k (Imp p q ∷ is) h =
    let above = le_false w p h.0.2 in
    let below = le_false w q h.0.1 in
    let apart = ne_false p q h.0.3 in
    rw (above, below, apart) (instrs_fine f w (k + 1) is h.1)

pub faultless : (g : AigView) (ports : PortsView) (a : AllotmentView) → IsSettled g a → IsComplete g → length ports.inputs ≡ g.inputs → fault_of (program_of g ports a) ≡ None
faultless g ports a s complete ins =
    let room = s.allotted.room in
    let first = inputs_fine a.width 0 0 [] ports.inputs (omega arith) tt in
    let second = outputs_fine g a.cells a.width (length (input_ports 0 ports.inputs)) g.outputs ports.outputs (λ j d l. output_within g a j d s complete l) in
    let third = instrs_fine g.inputs a.width 0 (schedule g a.cells) (recursion_from_All (Fits g.inputs a.width) (schedule g a.cells) (schedule_fits g a s)) in
    rw (first, second) third

-- its sizes

pub labels_kept : (g : AigView) (cells : List ℕ) (os : List Lit) (labels : List (List ℕ)) → length labels ≡ length os → labels_of (output_ports g cells os labels) ≡ labels
labels_kept g cells [] [] len = refl
labels_kept g cells [] (x ∷ labels) len = absurd (omega arith)
labels_kept g cells (o ∷ os) [] len = absurd (omega arith)
labels_kept g cells (o ∷ os) (x ∷ labels) len = ap (λ (ls : List (List ℕ)). x ∷ ls) (labels_kept g cells os labels (omega arith))

pub inputs_count : (c : ℕ) (labels : List (List ℕ)) → length (input_ports c labels) ≡ length labels
inputs_count c [] = refl
inputs_count c (x ∷ labels) = ap suc (inputs_count (c + 1) labels)

pub outputs_count : (g : AigView) (cells : List ℕ) (os : List Lit) (labels : List (List ℕ)) → length (output_ports g cells os labels) ≤ length os
outputs_count g cells [] labels = omega arith
outputs_count g cells (o ∷ os) [] = omega arith
outputs_count g cells (o ∷ os) (x ∷ labels) = let rest = outputs_count g cells os labels in omega arith

gate_length : (g : AigView) (cells : List ℕ) (gate : ℕ) → length (gate_instrs g cells gate) ≡ 1 + length (operands g (turned gate))
gate_length g cells gate =
    let ops = operands g (turned gate) in
    let z = get_or cells gate 0 in
    let a = length-map (map (cell_of g cells) ops) (λ c. Imp c z) in
    let b = length-map ops (cell_of g cells) in
    omega arith

sum_same : (f h : ℕ → ℕ) → ((x : ℕ) → f x ≡ h x) → (xs : List ℕ) → sum_by f xs ≡ sum_by h xs
sum_same f h e [] = refl
sum_same f h e (x ∷ xs) =
    let a = sum_by-cons f x xs in
    let b = sum_by-cons h x xs in
    let d = e x in
    let r = sum_same f h e xs in
    omega arith

pub schedule_length : (g : AigView) (cells : List ℕ) → length (schedule g cells) ≡ impcost g
schedule_length g cells = length-flat_map (gate_instrs g cells) (gates g) ∙ sum_same (λ gate. length (gate_instrs g cells gate)) (λ gate. 1 + length (operands g (turned gate))) (gate_length g cells) (gates g)

sum_few : (f : ℕ → ℕ) → ((x : ℕ) → f x ≤ 3) → (xs : List ℕ) → sum_by f xs ≤ 3 * length xs
sum_few f few [] = omega arith
sum_few f few (x ∷ xs) = let a = sum_by-cons f x xs in let b = few x in let r = sum_few f few xs in omega arith

pub cost_within : (g : AigView) → impcost g ≤ 3 * length (gates g)
cost_within g = sum_few (λ gate. 1 + length (operands g (turned gate))) (λ gate. let few = operands_few g (turned gate) in omega arith) (gates g)
