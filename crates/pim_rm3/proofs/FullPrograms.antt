-- The finished program of a majority graph: it realizes the graph, is sound, and has as many instructions as its gates cost.
use Rattle.std.proofs.Common.{◌≡◌, ◌≢◌, ◌⊎◌, ℕ, ◌+◌, ◌-◌, ◌*◌, ◌/◌, ◌%◌, ◌<◌, ◌≤◌, Bool, true, false, cond, eqb, List, [], ◌∷◌, ◌++◌, length, get_or, take, drop, map, flat_map, sum_by, All, AllPairs, Option, Some, None, refl, sym, ◌∙◌, ap, subst, arith, inl, inr, append_assoc}
use Rattle.std.proofs.lemmas.Bool.{false≢true}
use Rattle.std.proofs.lemmas.Bool.Decides.{eqb_tells}
use Rattle.std.proofs.lemmas.List.{length-append}
use Rattle.std.proofs.lemmas.List.Concat.{length-flat_map}
use Rattle.std.proofs.lemmas.List.Elements.{All-append}
use Rattle.std.proofs.lemmas.List.Sums.{sum_by-cons}
use Rattle.std.proofs.Math.ListN.{drop_of_length-le}
use Rattle.std.proofs.Math.Seq.{take-length}
use Rattle.pim_aig.specs.declared.literal.Lit.{Lit}
use Rattle.pim_graph.specs.Allotments.{AllotmentView, taken_at}
use Rattle.pim_graph.specs.Graphs.{has, kids_of}
use Rattle.pim_graph.specs.Orders.{IsReached}
use Rattle.pim_graph.specs.Orders.IsReached.{as_root}
use Rattle.pim_graph.specs.Peaks.{needed}
use Rattle.pim_isa.specs.Laws.{ExecLaws}
use Rattle.pim_isa.specs.Programs.{PortsView}
use Rattle.pim_isa.specs.Realizes.{Realizes}
use Rattle.pim_isa.specs.Sound.{IsSound as IsSoundProgram}
use Rattle.pim_isa.specs.Steps.{bit, exec}
use Rattle.pim_isa.specs.declared.instr.Operand.TheVariants as operand
use Rattle.pim_isa.specs.declared.instr.Instr.{Instr}
use Rattle.pim_isa.specs.declared.instr.Instr.TheVariants.{Rm3}
use Rattle.pim_mig.specs.Graph.{MigView, size}
use Rattle.pim_mig.specs.Values.{mval}
use Rattle.pim_rm3.specs.Gates.{is_input}
use Rattle.pim_rm3.specs.Roles.{first_cost, is_plain, second_cost, temporary, third_cost}
use Rattle.pim_rm3.specs.Schedules.{cell_of, is_inverted, load, operand_of, output_cell, set_to}
use Rattle.pim_rm3.specs.SmartSchedules.{first_operand, gate_cells, inverse, second_operand, smart_instrs, smart_program, smart_schedule, step_instrs, temporary_instrs, third_instrs}
use Rattle.pim_rm3.specs.Steps.{mig_gates, mig_graph, smart_cost, step_cost, step_of}
use Rattle.pim_rm3.specs.Temporaries.{full_graph, full_order, full_over, gate_number, own_temporary, step_takes, temporary_of, temporary_reads, with_temporary}
use Rattle.pim_rm3.specs.declared.role.Role.{Role}
use Rattle.pim_rm3.specs.declared.step.Step.{Step}
use Rattle.pim_rm3.specs.declared.step.Step.TheVariants as step
use Rattle.pim_rm3.proofs.Lists.{has_whole}
use Rattle.pim_rm3.proofs.Counts.{load_length, ports_hold, sum_same}
use Rattle.pim_rm3.proofs.Finished.{input_cells, ports_within, range_distinct, range_within}
use Rattle.pim_rm3.proofs.Fitting.{Fits, FitsOperand, all_flat, all_get, fits_load, fits_operand, fits_set, fits_valid, fits_writes, one_fits}
use Rattle.pim_rm3.proofs.FullComputes.{IsReady, VotePlace, not_input, not_both, operand_off, read_at, role_operands, temporary_off, temporary_within, third_other, vote_is, zero_or_some}
use Rattle.pim_rm3.proofs.FullKids.{ReadsNode, inverse_reads, reads_gate}
use Rattle.pim_rm3.proofs.FullOrders.{flat, flat_has, here_is, place, roots_into}
use Rattle.pim_rm3.proofs.FullSound.{below}
use Rattle.pim_rm3.proofs.FullValues.{IsRead, all_off, cells, constant_value, gate_cell, input_value, instrs_gate, instrs_of, instrs_temporary, operand_apart, operand_held, operand_within, placing, plain_value, temporary_value, value_gate, value_of, value_temporary}
use Rattle.pim_rm3.proofs.Rows.{bool_cases, load_gives, set_gives}
use Rattle.pim_rm3.proofs.StepLaws.{IsOf, StepKind, kids_at, node_has_gate, of_node, role_at, step_kind, temporary_kids, temporary_one}
use Rattle.pim_rm3.proofs.StepLaws.ReadsOne.{by_first, by_second, by_third}
use Rattle.pim_rm3.proofs.StepLaws.StepKind.{constant, inverse as inverted, input, vote}
use Rattle.pim_rm3.proofs.Stepping.{Computes, Reads, all_held, cell_at, gate_at}
use Rattle.pim_rm3.proofs.Walks.{input_means, le_same, roots_have}

none_some : (n : ℕ) → None ≡ Some n → ⊥
none_some n h = cc

-- the cells of the literals' gates, where the gates and temporaries have these
abbrev held_cells : MigView → List ℕ → List ℕ
held_cells g held = gate_cells (2 * size g) held

-- ---- a gate or a temporary that is one literal
-- what a literal that is loaded at a place gives, where nothing is taken over there
record LoadsOne (g : MigView) (a : AllotmentView) (p : ℕ) (e : Lit) : Type 0 where
  there : e.0 < 2 * size g
  read : IsRead g a p e
  none : taken_at (full_over g) p ≡ None

loads : (g : MigView) (a : AllotmentView) (bits m : List Bool) (p : ℕ) (e : Lit) → IsReady g a → length bits ≡ g.inputs → p < length (full_order g) → Reads (placing g a) (value_of g bits) bits p m → LoadsOne g a p e → bit (exec (load g.inputs (cells g a) (cell_at (placing g a) (gate_at (placing g a) p)) e) m) (cell_at (placing g a) (gate_at (placing g a) p)) ≡ mval g bits e
loads g a bits m p e s len h reads t =
    let z = cell_at (placing g a) (gate_at (placing g a) p) in
    let inside = s.sound.allotted.within (gate_at (placing g a) p) (has_whole (full_order g) p h) in
    let apart : (e.0 / 2 ≡ 0) ⊎ (cell_of g.inputs (cells g a) e ≢ z) = elim (zero_or_some (e.0 / 2)) [
      | inl none ↦ inl none
      | inr some ↦ inr (operand_apart g a p e s.sound h t.there t.read (λ above taken. none_some (gate_number (2 * (e.0 / 2))) (sym t.none ∙ taken)) some)
    ] in
    load_gives g.inputs (cells g a) m z e (omega (arith, reads.wide)) apart ∙ operand_held g a bits m p e s.laws len reads t.there t.read

load_fits : (g : MigView) (a : AllotmentView) (p : ℕ) (e : Lit) → IsReady g a → p < length (full_order g) → LoadsOne g a p e → All (Fits g.inputs a.width) (load g.inputs (cells g a) (cell_at (placing g a) (gate_at (placing g a) p)) e)
load_fits g a p e s h t =
    let z = cell_at (placing g a) (gate_at (placing g a) p) in
    let n = gate_at (placing g a) p in
    fits_load g.inputs (cells g a) g.inputs a.width z e (s.sound.allotted.from n (has_whole (full_order g) p h)) (s.sound.allotted.within n (has_whole (full_order g) p h)) (λ some. (
      operand_within g a p e s.sound h t.there t.read some,
      operand_apart g a p e s.sound h t.there t.read (λ above taken. none_some (gate_number (2 * (e.0 / 2))) (sym t.none ∙ taken)) some,
    ))

complement_loads : (g : MigView) (a : AllotmentView) (p l : ℕ) → l < 2 * size g → l % 2 ≡ 1 → step_of g l ≡ step.Complement (record { 0 = l }) → get_or (full_order g) p 0 ≡ gate_number l → taken_at (full_over g) p ≡ step_takes (step_of g l) → LoadsOne g a p (record { 0 = l })
complement_loads g a p l b odd is here takes =
    let e : Lit = record { 0 = l } in
    let k = 2 * (l / 2) in
    record {
      there = b;
      read = λ above.
          let node : ReadsNode g l k = ap (λ (xs : List ℕ). has xs k) (kids_at g l b ∙ inverse_reads g l odd) ∙ of_node g.inputs e k (record { above = above; same = refl }) in
          ap (λ (n : ℕ). has (kids_of (full_graph g) n) (gate_number k)) here ∙ reads_gate g l k b node;
      none = takes ∙ ap step_takes is;
    }

vote_temporary_loads : (g : MigView) (a : AllotmentView) (p l : ℕ) (w : Lit) → l < 2 * size g → w.0 < l → temporary_of (step_of g l) ≡ Some w → get_or (full_order g) p 0 ≡ 2 * l → taken_at (full_over g) p ≡ None → LoadsOne g a p (inverse w)
vote_temporary_loads g a p l w b less wants here none =
    let half : (2 * (w.0 / 2) + 1) / 2 ≡ w.0 / 2 = omega arith in
    record {
      there = omega arith;
      read = λ above.
          let k = 2 * ((2 * (w.0 / 2) + 1) / 2) in
          let of : IsOf g.inputs w k = record { above = omega arith; same = omega arith } in
          ap (λ (n : ℕ). has (kids_of (full_graph g) n) (gate_number k)) here
          ∙ ap (λ (xs : List ℕ). has xs (gate_number k)) (temporary_kids g l b)
          ∙ ap (λ (o : Option Lit). has (temporary_reads g.inputs o) (gate_number k)) wants
          ∙ node_has_gate g.inputs w k of;
      none = none;
    }

no_literal : (e : Lit) → None ≡ Some e → ⊥
no_literal e h = cc

-- a gate that wants a temporary is a majority node, and what it is for stands before the gate
wanted_by : (g : MigView) (a : AllotmentView) (l : ℕ) (w : Lit) → IsReady g a → l < 2 * size g → StepKind g l → temporary_of (step_of g l) ≡ Some w → w.0 < l
wanted_by g a l w s b (constant z is) h = absurd (no_literal w (sym (ap temporary_of is) ∙ h))
wanted_by g a l w s b (input some even few is) h = absurd (no_literal w (sym (ap temporary_of is) ∙ h))
wanted_by g a l w s b (inverted some odd is) h = absurd (no_literal w (sym (ap temporary_of is) ∙ h))
wanted_by g a l w s b (vote even above is) h =
    let o = role_operands g l s.small b even above in
    temporary_one (λ d. d.0 < l) (role_at g l) w o.p_below o.q_below (sym (ap temporary_of is) ∙ h)

-- ---- each gate and each temporary gives its value
gate_by : (g : MigView) (a : AllotmentView) (bits m : List Bool) (p l : ℕ) → ExecLaws → IsReady g a → length bits ≡ g.inputs → p < length (full_order g) → l < 2 * size g → IsReached (mig_graph g) l → get_or (full_order g) p 0 ≡ gate_number l → taken_at (full_over g) p ≡ step_takes (step_of g l) → Reads (placing g a) (value_of g bits) bits p m → StepKind g l → bit (exec (instrs_of g a (gate_number l)) m) (get_or a.cells (gate_number l) 0) ≡ mval g bits (record { 0 = l })
gate_by g a bits m p l laws s len h b reached here takes reads (constant none is) =
    let z = get_or a.cells (gate_number l) 0 in
    let inside = s.sound.allotted.within (gate_number l) (ap (has (full_order g)) (sym here) ∙ has_whole (full_order g) p h) in
    ap (λ (is : List Instr). bit (exec is m) z) (instrs_gate g a l ∙ ap (step_instrs g.inputs (cells g a) (get_or a.cells (2 * l) 0) z) is)
    ∙ set_gives m (eqb l 1) z (omega (arith, reads.wide))
    ∙ sym (constant_value g bits l s.laws none)
gate_by g a bits m p l laws s len h b reached here takes reads (inverted some odd is) =
    let z = get_or a.cells (gate_number l) 0 in
    let e : Lit = record { 0 = l } in
    ap (λ (is : List Instr). bit (exec is m) z) (instrs_gate g a l ∙ ap (step_instrs g.inputs (cells g a) (get_or a.cells (2 * l) 0) z) is)
    ∙ ap (λ (n : ℕ). bit (exec (load g.inputs (cells g a) (get_or a.cells n 0) e) m) (get_or a.cells n 0)) (sym here)
    ∙ loads g a bits m p e s len h reads (complement_loads g a p l b odd is here takes)
gate_by g a bits m p l laws s len h b reached here takes reads (input some even few is) =
    absurd (not_input g l (λ r q. below g r s.ordered (s.complete r q)) reached some even few)
gate_by g a bits m p l laws s len h b reached here takes reads (vote even above is) =
    vote_is g a bits m p l laws (record { at = record { ready = s; within = h; there = b; even = even; above = above; here = here; takes = takes; is = is }; len = len; reads = reads })

temporary_gives : (g : MigView) (a : AllotmentView) (bits m : List Bool) (p l : ℕ) (w : Lit) → IsReady g a → length bits ≡ g.inputs → p < length (full_order g) → l < 2 * size g → temporary_of (step_of g l) ≡ Some w → get_or (full_order g) p 0 ≡ 2 * l → taken_at (full_over g) p ≡ None → Reads (placing g a) (value_of g bits) bits p m → bit (exec (instrs_of g a (2 * l)) m) (get_or a.cells (2 * l) 0) ≡ value_of g bits (2 * l)
temporary_gives g a bits m p l w s len h b wants here none reads =
    let t = get_or a.cells (2 * l) 0 in
    ap (λ (js : List Instr). bit (exec js m) t) (instrs_temporary g a l ∙ ap (temporary_instrs g.inputs (cells g a) t) wants)
    ∙ ap (λ (n : ℕ). bit (exec (load g.inputs (cells g a) (get_or a.cells n 0) (inverse w)) m) (get_or a.cells n 0)) (sym here)
    ∙ loads g a bits m p (inverse w) s len h reads (vote_temporary_loads g a p l w b (wanted_by g a l w s b (step_kind g l) wants) wants here none)
    ∙ sym (value_temporary g bits l ∙ ap (temporary_value g bits) wants)

pub computes : (g : MigView) (a : AllotmentView) (bits : List Bool) → ExecLaws → IsReady g a → length bits ≡ g.inputs → Computes (placing g a) (instrs_of g a) (value_of g bits) bits
computes g a bits laws s len =
    let xs = mig_gates g in
    let fl = full_order g in
    let M : List Bool → ℕ → Type 0 = λ m n. bit (exec (instrs_of g a n) m) (get_or a.cells n 0) ≡ value_of g bits n in
    record {
      off = λ p c m h ne. all_off g a m (get_or fl p 0) c laws ne;
      gives = λ p m h reads. elim (place g xs p h) [
        | inl t ↦
            let l = get_or xs t.i 0 in
            let here = here_is fl (flat g (drop (t.i + 1) xs)) p (gate_number l) h t.back in
            let b = below g l s.ordered (has_whole xs t.i t.within) in
            subst (M m) (sym here) (gate_by g a bits m p l laws s len h b (s.reached t.i 0 t.within) here t.takes reads (step_kind g l) ∙ sym (value_gate g bits l))
        | inr t ↦
            let l = get_or xs t.i 0 in
            let here = here_is fl (gate_number l ∷ flat g (drop (t.i + 1) xs)) p (2 * l) h t.back in
            let b = below g l s.ordered (has_whole xs t.i t.within) in
            subst (M m) (sym here) (temporary_gives g a bits m p l t.wanted s len h b t.wants here t.takes reads)
      ];
    }

-- ---- the schedule is the instructions of the full order
flat_append : (f : ℕ → List Instr) (xs ys : List ℕ) → flat_map f (xs ++ ys) ≡ flat_map f xs ++ flat_map f ys
flat_append f [] ys = refl
flat_append f (x ∷ xs) ys = ap (λ (js : List Instr). f x ++ js) (flat_append f xs ys) ∙ sym (append_assoc (f x) (flat_map f xs) (flat_map f ys))

append_none : (js : List Instr) → js ++ [] ≡ js
append_none [] = refl
append_none (i ∷ js) = ap (λ (ks : List Instr). i ∷ ks) (append_none js)

own_instrs : (g : MigView) (a : AllotmentView) (l : ℕ) (o : Option Lit) → temporary_of (step_of g l) ≡ o → flat_map (instrs_of g a) (own_temporary l o) ≡ temporary_instrs g.inputs (cells g a) (get_or a.cells (2 * l) 0) o
own_instrs g a l None is = refl
own_instrs g a l (Some w) is = append_none (instrs_of g a (2 * l)) ∙ instrs_temporary g a l ∙ ap (temporary_instrs g.inputs (cells g a) (get_or a.cells (2 * l) 0)) is

one_gate : (g : MigView) (a : AllotmentView) (l : ℕ) → flat_map (instrs_of g a) (with_temporary g l) ≡ smart_instrs g a.cells l
one_gate g a l =
    let o = temporary_of (step_of g l) in
    let t = get_or a.cells (2 * l) 0 in
    let z = get_or a.cells (gate_number l) 0 in
    flat_append (instrs_of g a) (own_temporary l o) (gate_number l ∷ [])
    ∙ ap (λ (js : List Instr). js ++ (instrs_of g a (gate_number l) ++ [])) (own_instrs g a l o refl)
    ∙ ap (λ (js : List Instr). temporary_instrs g.inputs (cells g a) t o ++ js) (append_none (instrs_of g a (gate_number l)) ∙ instrs_gate g a l)

all_gates : (g : MigView) (a : AllotmentView) (xs : List ℕ) → flat_map (instrs_of g a) (flat g xs) ≡ flat_map (smart_instrs g a.cells) xs
all_gates g a [] = refl
all_gates g a (x ∷ xs) =
    flat_append (instrs_of g a) (with_temporary g x) (flat g xs)
    ∙ ap (λ (js : List Instr). js ++ flat_map (instrs_of g a) (flat g xs)) (one_gate g a x)
    ∙ ap (λ (js : List Instr). smart_instrs g a.cells x ++ js) (all_gates g a xs)

pub schedule_is : (g : MigView) (a : AllotmentView) → flat_map (instrs_of g a) (full_order g) ≡ smart_schedule g a.cells
schedule_is g a = all_gates g a (mig_gates g)

-- ---- the outputs
output_there : (g : MigView) (a : AllotmentView) (k : ℕ) (d : Lit) → IsReady g a → k < length g.outputs → (get_or g.outputs k d).0 < 2 * size g
output_there g a k d s h = s.small.outputs_there k d h

output_root : (g : MigView) (a : AllotmentView) (k : ℕ) (d : Lit) → IsReady g a → k < length g.outputs → is_input g.inputs (get_or g.outputs k d) ≡ false → has (mig_graph g).roots (get_or g.outputs k d).0 ≡ true
output_root g a k d s h j = roots_have g.inputs g.outputs [] k d h j

pub output_holds : (g : MigView) (a : AllotmentView) (bits m : List Bool) (k : ℕ) (d : Lit) → IsReady g a → ExecLaws → length bits ≡ g.inputs → a.width ≤ length m → take g.inputs m ≡ bits → k < length g.outputs → bit (exec (smart_schedule g a.cells) m) (output_cell g.inputs (cells g a) (get_or g.outputs k d)) ≡ mval g bits (get_or g.outputs k d)
output_holds g a bits m k d s laws len wide is h =
    let o = get_or g.outputs k d in
    let fl = full_order g in
    let v = full_graph g in
    let end = all_held (placing g a) (instrs_of g a) (value_of g bits) bits m laws s.sound (computes g a bits laws s len) wide is in
    let r = exec (smart_schedule g a.cells) m in
    let row : exec (flat_map (instrs_of g a) fl) m ≡ r = ap (λ (js : List Instr). exec js m) (schedule_is g a) in
    elim (bool_cases (is_input g.inputs o)) [
      | inl i ↦
          let t = input_means g.inputs o i in
          ap (λ (b : Bool). bit r (cond b (o.0 / 2 - 1) (get_or (cells g a) o.0 0))) i
          ∙ ap (λ (n : List Bool). bit n (o.0 / 2 - 1)) (sym row)
          ∙ end.inputs (o.0 / 2 - 1) (omega (arith, t.some, t.few))
          ∙ sym (input_value g bits (o.0 / 2) s.laws len t.some t.few)
          ∙ sym (plain_value g bits o.0 t.even)
      | inr j ↦
          let root = output_root g a k d s h j in
          let n = gate_number o.0 in
          let there : has fl n ≡ true = flat_has g (mig_gates g) o.0 (s.complete o.0 (as_root root)) in
          let front : has (take (length fl) fl) n ≡ true = ap (λ (ys : List ℕ). has ys n) (take-length fl) ∙ there in
          let need : needed v (drop (length fl) fl) n ≡ true = ap (λ (ys : List ℕ). needed v ys n) (drop_of_length-le fl (le_same (length fl))) ∙ roots_into (mig_graph g).roots [] o.0 root in
          ap (λ (b : Bool). bit r (cond b (o.0 / 2 - 1) (get_or (cells g a) o.0 0))) j
          ∙ ap (bit r) (gate_cell g a o.0 (output_there g a k d s h))
          ∙ ap (λ (q : List Bool). bit q (get_or a.cells n 0)) (sym row)
          ∙ end.held n front need
          ∙ value_gate g bits o.0
    ]

pub output_within : (g : MigView) (a : AllotmentView) (k : ℕ) (d : Lit) → IsReady g a → k < length g.outputs → output_cell g.inputs (cells g a) (get_or g.outputs k d) < a.width
output_within g a k d s h =
    let o = get_or g.outputs k d in
    let P : Bool → Type 0 = λ b. cond {A = ℕ} b (o.0 / 2 - 1) (get_or (cells g a) o.0 0) < a.width in
    elim (bool_cases (is_input g.inputs o)) [
      | inl i ↦ let t = input_means g.inputs o i in subst P (sym i) (omega (arith, t.some, t.few, s.sound.allotted.room))
      | inr j ↦
          let inside = s.sound.allotted.within (gate_number o.0) (flat_has g (mig_gates g) o.0 (s.complete o.0 (as_root (output_root g a k d s h j)))) in
          let same = gate_cell g a o.0 (output_there g a k d s h) in
          subst P (sym j) (omega arith)
    ]

-- ---- the instructions are those of a program
third_fits : (g : MigView) (a : AllotmentView) (z : ℕ) (r : Role) → g.inputs ≤ z → z < a.width → (r.over ≡ false → 0 < r.z.0 / 2 → (cell_of g.inputs (cells g a) r.z < a.width) × (cell_of g.inputs (cells g a) r.z ≢ z)) → All (Fits g.inputs a.width) (third_instrs g.inputs (cells g a) z r)
third_fits g a z r lo hi apart =
    let F = All (Fits g.inputs a.width) in
    let js = load g.inputs (cells g a) z r.z in
    let P : Bool → Type 0 = λ b. F (cond b (set_to (eqb r.z.0 1) z ∷ []) (cond r.over [] js)) in
    let Q : Bool → Type 0 = λ b. F (cond b [] js) in
    elim (bool_cases (eqb (r.z.0 / 2) 0)) [
      | inl t ↦ subst P (sym t) (one_fits g.inputs a.width (set_to (eqb r.z.0 1) z) (fits_set g.inputs a.width z (eqb r.z.0 1) lo hi))
      | inr f ↦ subst P (sym f) (elim (bool_cases r.over) [
        | inl t ↦ subst Q (sym t) (λ k d l. absurd (omega arith))
        | inr u ↦ subst Q (sym u) (fits_load g.inputs (cells g a) g.inputs a.width z r.z lo hi (apart u))
      ])
    ]

first_fits : (g : MigView) (a : AllotmentView) (t z : ℕ) (e : Lit) → (is_inverted e ≡ true → (t < a.width) × (t ≢ z)) → (0 < e.0 / 2 → (cell_of g.inputs (cells g a) e < a.width) × (cell_of g.inputs (cells g a) e ≢ z)) → FitsOperand a.width z (first_operand g.inputs (cells g a) t e)
first_fits g a t z e temporary_fits apart =
    let P : Bool → Type 0 = λ b. FitsOperand a.width z (cond b (operand.Cell t) (operand_of g.inputs (cells g a) e)) in
    elim (bool_cases (is_inverted e)) [
      | inl sure ↦ subst P (sym sure) (temporary_fits sure)
      | inr bare ↦ subst P (sym bare) (fits_operand g.inputs (cells g a) a.width z e apart)
    ]

other_constant : (w z : ℕ) (b : Bool) → FitsOperand w z (cond b operand.One operand.Zero)
other_constant w z true = tt
other_constant w z false = tt

second_fits : (g : MigView) (a : AllotmentView) (t z : ℕ) (e : Lit) → (is_plain e ≡ true → (t < a.width) × (t ≢ z)) → (0 < e.0 / 2 → (cell_of g.inputs (cells g a) e < a.width) × (cell_of g.inputs (cells g a) e ≢ z)) → FitsOperand a.width z (second_operand g.inputs (cells g a) t e)
second_fits g a t z e temporary_fits apart =
    let c = cell_of g.inputs (cells g a) e in
    let P : Bool → Type 0 = λ b. FitsOperand a.width z (cond b (cond (eqb e.0 0) operand.One operand.Zero) (cond (is_plain e) (operand.Cell t) (operand.Cell c))) in
    let Q : Bool → Type 0 = λ b. FitsOperand a.width z (cond b (operand.Cell t) (operand.Cell c)) in
    elim (eqb_tells (e.0 / 2) 0) [
      | inl none ↦ subst P (sym none.0) (other_constant a.width z (eqb e.0 0))
      | inr some ↦ subst P (sym some.0) (elim (bool_cases (is_plain e)) [
        | inl plain ↦ subst Q (sym plain) (temporary_fits plain)
        | inr bare ↦ subst Q (sym bare) (apart (omega (arith, some.1)))
      ])
    ]

both_fit : (w z c : ℕ) → c < w → c ≢ z → (c < w) × (c ≢ z)
both_fit w z c h k = (h, k)

vote_fits : (g : MigView) (a : AllotmentView) (p l : ℕ) → VotePlace g a p l → All (Fits g.inputs a.width) (instrs_of g a (gate_number l))
vote_fits g a p l t =
    let r = role_at g l in
    let cs = cells g a in
    let z = get_or a.cells (gate_number l) 0 in
    let h = get_or a.cells (2 * l) 0 in
    let o = role_operands g l t.ready.small t.there t.even t.above in
    let in_order = ap (has (full_order g)) (sym t.here) ∙ has_whole (full_order g) p t.within in
    let lo = t.ready.sound.allotted.from (gate_number l) in_order in
    let hi = t.ready.sound.allotted.within (gate_number l) in_order in
    let fit = λ (e : Lit) (b : e.0 < l) (read : IsRead g a p e) (other : r.over ≡ true → r.z.0 ≢ 2 * (e.0 / 2)) (some : 0 < e.0 / 2).
    both_fit a.width z (cell_of g.inputs cs e) (operand_within g a p e t.ready.sound t.within (let q = t.there in omega arith) read some) (operand_off g a p l e t b read other some) in
    let third = third_fits g a z r lo hi (λ bare. fit r.z o.z_below (read_at g a p l r.z t by_third) (λ sure. absurd (false≢true (sym bare ∙ sure)))) in
    let first = first_fits g a h z r.p (λ sure.
    let wants : temporary r ≡ Some r.p = ap (λ (b : Bool). cond b (Some r.p) (cond (is_plain r.q) (Some r.q) None)) sure in
    (temporary_within g a p l r.p t wants, temporary_off g a p l r.p t wants)) (fit r.p o.p_below (read_at g a p l r.p t by_first) (λ over same. third_other g l r.p over same o.pz)) in
    let second = second_fits g a h z r.q (λ sure.
    let wants : temporary r ≡ Some r.q = ap (λ (b : Bool). cond b (Some r.p) (cond (is_plain r.q) (Some r.q) None)) (not_both g l sure) ∙ ap (λ (b : Bool). cond b (Some r.q) None) sure in
    (temporary_within g a p l r.q t wants, temporary_off g a p l r.q t wants)) (fit r.q o.q_below (read_at g a p l r.q t by_second) (λ over same. third_other g l r.q over same o.qz)) in
    let po = first_operand g.inputs cs h r.p in
    let qo = second_operand g.inputs cs h r.q in
    let F : List Instr → Type 0 = All (Fits g.inputs a.width) in
    subst F (sym (instrs_gate g a l ∙ ap (step_instrs g.inputs cs h z) t.is))
    (All-append (Fits g.inputs a.width) (third_instrs g.inputs cs z r) (Rm3 po qo z ∷ []) third (one_fits g.inputs a.width (Rm3 po qo z) (lo, hi, first, second)))

gate_fits : (g : MigView) (a : AllotmentView) (p l : ℕ) → IsReady g a → p < length (full_order g) → l < 2 * size g → IsReached (mig_graph g) l → get_or (full_order g) p 0 ≡ gate_number l → taken_at (full_over g) p ≡ step_takes (step_of g l) → StepKind g l → All (Fits g.inputs a.width) (instrs_of g a (gate_number l))
gate_fits g a p l s h b reached here takes (constant none is) =
    let z = get_or a.cells (gate_number l) 0 in
    let F : List Instr → Type 0 = All (Fits g.inputs a.width) in
    let in_order = ap (has (full_order g)) (sym here) ∙ has_whole (full_order g) p h in
    subst F (sym (instrs_gate g a l ∙ ap (step_instrs g.inputs (cells g a) (get_or a.cells (2 * l) 0) z) is))
    (one_fits g.inputs a.width (set_to (eqb l 1) z) (fits_set g.inputs a.width z (eqb l 1) (s.sound.allotted.from (gate_number l) in_order) (s.sound.allotted.within (gate_number l) in_order)))
gate_fits g a p l s h b reached here takes (inverted some odd is) =
    let z = get_or a.cells (gate_number l) 0 in
    let e : Lit = record { 0 = l } in
    let F : List Instr → Type 0 = All (Fits g.inputs a.width) in
    let M : ℕ → Type 0 = λ n. F (load g.inputs (cells g a) (get_or a.cells n 0) e) in
    subst F (sym (instrs_gate g a l ∙ ap (step_instrs g.inputs (cells g a) (get_or a.cells (2 * l) 0) z) is))
    (subst M here (load_fits g a p e s h (complement_loads g a p l b odd is here takes)))
gate_fits g a p l s h b reached here takes (input some even few is) =
    absurd (not_input g l (λ r q. below g r s.ordered (s.complete r q)) reached some even few)
gate_fits g a p l s h b reached here takes (vote even above is) =
    vote_fits g a p l (record { ready = s; within = h; there = b; even = even; above = above; here = here; takes = takes; is = is })

temporary_fits : (g : MigView) (a : AllotmentView) (p l : ℕ) (w : Lit) → IsReady g a → p < length (full_order g) → l < 2 * size g → temporary_of (step_of g l) ≡ Some w → get_or (full_order g) p 0 ≡ 2 * l → taken_at (full_over g) p ≡ None → All (Fits g.inputs a.width) (instrs_of g a (2 * l))
temporary_fits g a p l w s h b wants here none =
    let t = get_or a.cells (2 * l) 0 in
    let F : List Instr → Type 0 = All (Fits g.inputs a.width) in
    let M : ℕ → Type 0 = λ n. F (load g.inputs (cells g a) (get_or a.cells n 0) (inverse w)) in
    subst F (sym (instrs_temporary g a l ∙ ap (temporary_instrs g.inputs (cells g a) t) wants))
    (subst M here (load_fits g a p (inverse w) s h (vote_temporary_loads g a p l w b (wanted_by g a l w s b (step_kind g l) wants) wants here none)))

place_fits : (g : MigView) (a : AllotmentView) (p : ℕ) → IsReady g a → p < length (full_order g) → All (Fits g.inputs a.width) (instrs_of g a (get_or (full_order g) p 0))
place_fits g a p s h =
    let xs = mig_gates g in
    let fl = full_order g in
    let M : ℕ → Type 0 = λ n. All (Fits g.inputs a.width) (instrs_of g a n) in
    elim (place g xs p h) [
      | inl t ↦
          let l = get_or xs t.i 0 in
          let here = here_is fl (flat g (drop (t.i + 1) xs)) p (gate_number l) h t.back in
          subst M (sym here) (gate_fits g a p l s h (below g l s.ordered (has_whole xs t.i t.within)) (s.reached t.i 0 t.within) here t.takes (step_kind g l))
      | inr t ↦
          let l = get_or xs t.i 0 in
          let here = here_is fl (gate_number l ∷ flat g (drop (t.i + 1) xs)) p (2 * l) h t.back in
          subst M (sym here) (temporary_fits g a p l t.wanted s h (below g l s.ordered (has_whole xs t.i t.within)) t.wants here t.takes)
    ]

pub schedule_fits : (g : MigView) (a : AllotmentView) → IsReady g a → All (Fits g.inputs a.width) (smart_schedule g a.cells)
schedule_fits g a s = subst (All (Fits g.inputs a.width)) (schedule_is g a) (all_flat (Fits g.inputs a.width) (instrs_of g a) (full_order g) (λ k l. place_fits g a k s l))

-- ---- the whole program
pub realizes : (g : MigView) (ports : PortsView) (a : AllotmentView) → IsReady g a → ExecLaws → length ports.inputs ≡ g.inputs → length ports.outputs ≡ length g.outputs → Realizes (smart_program g ports a) ports.inputs (λ bits. map (mval g bits) g.outputs)
realizes g ports a s laws ins outs =
    let js = smart_schedule g a.cells in
    let fit = schedule_fits g a s in
    record {
      inputs = refl;
      keeps_inputs = λ k c i e l. fits_writes g.inputs a.width i c (all_get (Fits g.inputs a.width) js k i fit e) (inl (omega arith));
      gives_outputs = λ m bits len wide start.
          let row : take g.inputs m ≡ bits = ap (λ (n : ℕ). take n m) (sym ins) ∙ start in
          ports_hold g.inputs (cells g a) (mval g bits) (exec js m) g.outputs ports.outputs outs (λ k d h. output_holds g a bits m k d s laws (len ∙ ins) wide row h);
      keeps_length = λ m. laws.keeps_length js m;
      keeps_others = λ m c h. laws.keeps_others js m c (λ k d l. fits_writes g.inputs a.width (get_or js k d) c (fit k d l) (inr h));
    }

pub sound : (g : MigView) (ports : PortsView) (a : AllotmentView) → IsReady g a → length ports.inputs ≡ g.inputs → IsSoundProgram (smart_program g ports a)
sound g ports a s ins =
    let n = length ports.inputs in
    let P : List ℕ → Type 0 = λ xs. All (λ c. c < a.width) xs in
    let Q : List ℕ → Type 0 = λ xs. AllPairs ◌≢◌ xs in
    record {
      inputs = subst P (sym (input_cells ports.inputs 0)) (range_within n a.width (omega (arith, s.sound.allotted.room)));
      distinct = subst Q (sym (input_cells ports.inputs 0)) (range_distinct n);
      outputs = ports_within g.inputs (cells g a) a.width g.outputs ports.outputs (λ k d h. output_within g a k d s h);
      instrs = λ k d l. fits_valid g.inputs a.width _ (schedule_fits g a s k d l);
    }

-- ---- how many instructions there are
third_length : (ins : ℕ) (cs : List ℕ) (z : ℕ) (r : Role) → length (third_instrs ins cs z r) ≡ third_cost r.over r.z
third_length ins cs z r =
    let js = load ins cs z r.z in
    elim (bool_cases (eqb (r.z.0 / 2) 0)) [
      | inl t ↦
          ap (λ (b : Bool). length (cond b (set_to (eqb r.z.0 1) z ∷ []) (cond r.over [] js))) t
          ∙ sym (ap (λ (b : Bool). cond {A = ℕ} b 1 (cond r.over 0 2)) t)
      | inr f ↦
          ap (λ (b : Bool). length (cond b (set_to (eqb r.z.0 1) z ∷ []) (cond r.over [] js))) f
          ∙ elim (bool_cases r.over) [
            | inl t ↦ ap (λ (b : Bool). length (cond b [] js)) t ∙ sym (ap (λ (b : Bool). cond {A = ℕ} b 0 2) t)
            | inr u ↦ ap (λ (b : Bool). length (cond b [] js)) u ∙ load_length ins cs z r.z ∙ sym (ap (λ (b : Bool). cond {A = ℕ} b 0 2) u)
          ]
          ∙ sym (ap (λ (b : Bool). cond {A = ℕ} b 1 (cond r.over 0 2)) f)
    ]

temporary_length : (ins : ℕ) (cs : List ℕ) (t : ℕ) (r : Role) → (is_plain r.q ≡ true → is_inverted r.p ≡ false) → length (temporary_instrs ins cs t (temporary r)) ≡ first_cost r.p + second_cost r.q
temporary_length ins cs t r not_both = elim (bool_cases (is_inverted r.p)) [
  | inl sure ↦
      let a = ap (λ (b : Bool). length (temporary_instrs ins cs t (cond b (Some r.p) (cond (is_plain r.q) (Some r.q) None)))) sure in
      let d = load_length ins cs t (inverse r.p) in
      let e = ap (λ (b : Bool). cond {A = ℕ} b 2 0) sure in
      elim (bool_cases (is_plain r.q)) [
        | inl plain ↦ absurd (false≢true (sym (not_both plain) ∙ sure))
        | inr other ↦ let f = ap (λ (b : Bool). cond {A = ℕ} b 2 0) other in omega arith
      ]
  | inr bare ↦
      let a = ap (λ (b : Bool). length (temporary_instrs ins cs t (cond b (Some r.p) (cond (is_plain r.q) (Some r.q) None)))) bare in
      let e = ap (λ (b : Bool). cond {A = ℕ} b 2 0) bare in
      elim (bool_cases (is_plain r.q)) [
        | inl plain ↦
            let b = ap (λ (b : Bool). length (temporary_instrs ins cs t (cond b (Some r.q) None))) plain in
            let d = load_length ins cs t (inverse r.q) in
            let f = ap (λ (b : Bool). cond {A = ℕ} b 2 0) plain in
            omega arith
        | inr other ↦
            let b = ap (λ (b : Bool). length (temporary_instrs ins cs t (cond b (Some r.q) None))) other in
            let f = ap (λ (b : Bool). cond {A = ℕ} b 2 0) other in
            omega arith
      ]
]

vote_length : (g : MigView) (held : List ℕ) (l t z : ℕ) (cs : List ℕ) → length (temporary_instrs g.inputs cs t (temporary (role_at g l)) ++ step_instrs g.inputs cs t z (step.Vote (role_at g l))) ≡ step_cost (step.Vote (role_at g l))
vote_length g held l t z cs =
    let r = role_at g l in
    let i = Rm3 (first_operand g.inputs cs t r.p) (second_operand g.inputs cs t r.q) z in
    let a = length-append (temporary_instrs g.inputs cs t (temporary r)) (third_instrs g.inputs cs z r ++ i ∷ []) in
    let b = length-append (third_instrs g.inputs cs z r) (i ∷ []) in
    let d = third_length g.inputs cs z r in
    let e = temporary_length g.inputs cs t r (not_both g l) in
    omega arith

gate_length : (g : MigView) (held : List ℕ) (l : ℕ) → StepKind g l → length (smart_instrs g held l) ≡ step_cost (step_of g l)
gate_length g held l (constant none is) = ap (λ (s : Step). length (temporary_instrs g.inputs (held_cells g held) (get_or held (2 * l) 0) (temporary_of s) ++ step_instrs g.inputs (held_cells g held) (get_or held (2 * l) 0) (get_or held (gate_number l) 0) s)) is ∙ sym (ap step_cost is)
gate_length g held l (input some even few is) = ap (λ (s : Step). length (temporary_instrs g.inputs (held_cells g held) (get_or held (2 * l) 0) (temporary_of s) ++ step_instrs g.inputs (held_cells g held) (get_or held (2 * l) 0) (get_or held (gate_number l) 0) s)) is ∙ sym (ap step_cost is)
gate_length g held l (inverted some odd is) =
    ap (λ (s : Step). length (temporary_instrs g.inputs (held_cells g held) (get_or held (2 * l) 0) (temporary_of s) ++ step_instrs g.inputs (held_cells g held) (get_or held (2 * l) 0) (get_or held (gate_number l) 0) s)) is
    ∙ load_length g.inputs (held_cells g held) (get_or held (gate_number l) 0) (record { 0 = l })
    ∙ sym (ap step_cost is)
gate_length g held l (vote even above is) =
    ap (λ (s : Step). length (temporary_instrs g.inputs (held_cells g held) (get_or held (2 * l) 0) (temporary_of s) ++ step_instrs g.inputs (held_cells g held) (get_or held (2 * l) 0) (get_or held (gate_number l) 0) s)) is
    ∙ vote_length g held l (get_or held (2 * l) 0) (get_or held (gate_number l) 0) (held_cells g held)
    ∙ sym (ap step_cost is)

-- the cycles are those of the gates
pub schedule_length : (g : MigView) (held : List ℕ) → length (smart_schedule g held) ≡ smart_cost g
schedule_length g held =
    length-flat_map (smart_instrs g held) (mig_gates g)
    ∙ sum_same (λ l. length (smart_instrs g held l)) (λ l. step_cost (step_of g l)) (λ l. gate_length g held l (step_kind g l)) (mig_gates g)

few_cycles : (a b : Bool) (n : ℕ) → n ≤ 2 → cond {A = ℕ} a 2 0 + cond {A = ℕ} b 2 0 + n ≤ 6
few_cycles true true n h = omega arith
few_cycles true false n h = omega arith
few_cycles false true n h = omega arith
few_cycles false false n h = omega arith

third_few : (over : Bool) (none : Bool) → cond {A = ℕ} none 1 (cond over 0 2) ≤ 2
third_few true true = omega arith
third_few true false = omega arith
third_few false true = omega arith
third_few false false = omega arith

step_few : (s : Step) → step_cost s ≤ 7
step_few (step.Constant b) = omega arith
step_few step.Input = omega arith
step_few (step.Complement e) = omega arith
step_few (step.Vote r) = let h = few_cycles (is_inverted r.p) (is_plain r.q) (third_cost r.over r.z) (third_few r.over (eqb (r.z.0 / 2) 0)) in omega arith

sum_few : (f : ℕ → ℕ) → ((x : ℕ) → f x ≤ 7) → (xs : List ℕ) → sum_by f xs ≤ 7 * length xs
sum_few f few [] = omega arith
sum_few f few (x ∷ xs) = let a = sum_by-cons f x xs in let b = few x in let r = sum_few f few xs in omega arith

pub cost_within : (g : MigView) → smart_cost g ≤ 7 * length (mig_gates g)
cost_within g = sum_few (λ l. step_cost (step_of g l)) (λ l. step_few (step_of g l)) (mig_gates g)
