-- The row after the gates up to a place: each gate that is needed there has its value in its cell.
use Rattle.std.proofs.Common.{◌≡◌, ◌≢◌, ◌⊎◌, ℕ, zero, suc, ◌-◌, ◌*◌, ◌/◌, ◌%◌, ◌<◌, ◌≤◌, Bool, true, false, cond, eqb, nat_le, nat_lt, ◌&&◌, List, [], ◌∷◌, ◌++◌, length, get_or, take, drop, fold, map, Option, Some, None, refl, sym, ◌∙◌, ap, subst, arith, inl, inr}
use Rattle.std.proofs.lemmas.Bool.{false≢true, and_parts, eqb-true, leb-true, ltb-true}
use Rattle.std.proofs.lemmas.Bool.Decides.{nat_tests, eqb_tells, leb_tells}
use Rattle.std.proofs.lemmas.List.FromFn.{length-map-range_with_len}
use Rattle.std.proofs.Math.ListN.{drop_of_length-le}
use Rattle.std.proofs.Math.Seq.{take-length}
use Rattle.pim_aig.specs.Graph.{AigView, nodes}
use Rattle.pim_aig.specs.Values.{aval, node_values}
use Rattle.pim_aig.specs.declared.literal.Lit.{Lit}
use Rattle.pim_graph.specs.Allotments.{AllotmentView, taken_at}
use Rattle.pim_graph.specs.Graphs.{has, kids_of}
use Rattle.pim_graph.specs.Orders.{IsReached}
use Rattle.pim_graph.specs.Orders.IsReached.{as_root, as_child}
use Rattle.pim_graph.specs.Peaks.{needed}
use Rattle.pim_isa.specs.Laws.{ExecLaws}
use Rattle.pim_isa.specs.Steps.{bit, exec}
use Rattle.pim_rm3.specs.Gates.{ands_read, gate_graph, gate_of, gates, is_input, taken, taken_of, with_and, with_root}
use Rattle.pim_rm3.specs.Schedules.{cell_of, gate_instrs, instrs_at, load, narrow, output_cell, schedule}
use Rattle.pim_rm3.specs.declared.gate.Gate.{Gate}
use Rattle.pim_rm3.specs.declared.gate.Gate.TheVariants as gate
use Rattle.pim_rm3.specs.inner.Settled.{IsSettled}
use Rattle.pim_rm3.proofs.Lists.{all_has, split, last, has_whole, has_front}
use Rattle.pim_rm3.proofs.GateKinds.{Kind, kind_of, kids_at, and_of, first_read, second_read, inverse_child, node_value, lit_value, plain_value, zero_value, input_value, meet_value, constant_value}
use Rattle.pim_rm3.proofs.GateKinds.Kind.{constant, inverse, input, meet}
use Rattle.pim_rm3.proofs.GateOrders.{IsTakenOver, taken_over, taken_map}
use Rattle.pim_rm3.proofs.GateOrders.IsTakenOver.{by_first, by_second}
use Rattle.pim_rm3.proofs.Stepping.{Computes, HoldsAt, IsSound, Placing, Reads, all_held, read_needed}
use Rattle.pim_rm3.proofs.Rows.{and_turns, bool_cases, lit_bit, lit_same, load_gives, load_off, narrow_gives, narrow_off, set_gives, set_off}

-- the gates of a graph with these cells
abbrev pub placing : AigView → AllotmentView → Placing
placing g a = record { graph = gate_graph g; order = gates g; over = map (taken g) (gates g); first = g.inputs; cells = a }

-- the values of the gates
abbrev pub values : AigView → List Bool → ℕ → Bool
values g bits l = aval g bits (record { 0 = l })

-- an operand that a gate reads at its place: its node's value is in its cell, which isn't the gate's own unless it is taken over
record ReadsOne (g : AigView) (a : AllotmentView) (bits m : List Bool) (p : ℕ) (e : Lit) : Type 0 where
  value : lit_bit g.inputs a.cells m e ≡ aval g bits e
  apart : taken g (get_or (gates g) p 0) ≡ None → (e.0 / 2 ≡ 0) ⊎ (cell_of g.inputs a.cells e ≢ get_or a.cells (get_or (gates g) p 0) 0)

pub cell_input : (ins : ℕ) (cells : List ℕ) (e : Lit) → e.0 / 2 ≤ ins → cell_of ins cells e ≡ e.0 / 2 - 1
cell_input ins cells e h =
    let t : nat_le (e.0 / 2) ins ≡ true = grind (arith, nat_tests) in
    ap (λ (b : Bool). cond b (e.0 / 2 - 1) (get_or cells (2 * (e.0 / 2)) 0)) t

pub cell_gate : (ins : ℕ) (cells : List ℕ) (e : Lit) → ins < e.0 / 2 → cell_of ins cells e ≡ get_or cells (2 * (e.0 / 2)) 0
cell_gate ins cells e h =
    let t : nat_le (e.0 / 2) ins ≡ false = grind (arith, nat_tests) in
    ap (λ (b : Bool). cond b (e.0 / 2 - 1) (get_or cells (2 * (e.0 / 2)) 0)) t

pub none_some : (o : Option ℕ) (c : ℕ) → o ≡ None → o ≡ Some c → ⊥
none_some o c n e = cc

reads_one : (g : AigView) (a : AllotmentView) (bits m : List Bool) (p : ℕ) (e : Lit) → IsSettled g a → length bits ≡ g.inputs → Reads (placing g a) (values g bits) bits p m → p < length (gates g) → (g.inputs < e.0 / 2 → has (kids_of (gate_graph g) (get_or (gates g) p 0)) (2 * (e.0 / 2)) ≡ true) → ReadsOne g a bits m p e
reads_one g a bits m p e s len holds h child =
    let v = gate_graph g in
    let xs = gates g in
    let l = get_or xs p 0 in
    elim (leb_tells (e.0 / 2) g.inputs) [
      | inl i ↦ record {
        value = lit_value g.inputs (node_values g bits) a.cells m e (zero_value g bits s.values) (λ some.
            ap (bit m) (cell_input g.inputs a.cells e i.1) ∙ holds.inputs (e.0 / 2 - 1) (omega (arith, i.1)) ∙ sym (input_value g bits (e.0 / 2) s.values len some i.1));
        apart = λ none. elim (eqb_tells (e.0 / 2) 0) [
          | inl z ↦ inl z.1
          | inr f ↦ inr (λ same.
              let from = s.allotted.from l (has_whole xs p h) in
              let cell = cell_input g.inputs a.cells e i.1 in
              absurd (omega (arith, i.1, f.1)))
        ];
      }
      | inr b ↦
          let k = 2 * (e.0 / 2) in
          let kid = child b.1 in
          let before : has (take p xs) k ≡ true = all_has (λ y. has (take p xs) y ≡ true) (kids_of v l) k (s.placed.after p h) kid in
          let need = read_needed (gate_graph g) (gates g) p k h kid in
          let half : k / 2 ≡ e.0 / 2 = omega arith in
          let even : k % 2 ≡ 0 = omega arith in
          record {
            value = lit_value g.inputs (node_values g bits) a.cells m e (zero_value g bits s.values) (λ some.
                ap (bit m) (cell_gate g.inputs a.cells e b.1) ∙ holds.kids k kid ∙ plain_value g bits k even ∙ ap (node_value g bits) half);
            apart = λ none. inr (λ same. s.allotted.apart p k h before need (λ o. none_some (taken g l) k none (sym (taken_map g p h) ∙ o)) (sym (cell_gate g.inputs a.cells e b.1) ∙ same));
          }
    ]

-- instructions of a gate change no cell but its own
instrs_off : (g : AigView) (cells : List ℕ) (m : List Bool) (z c l : ℕ) (over : Option ℕ) (t : Gate) → ExecLaws → c ≢ z → bit (exec (gate_instrs g cells z over l t) m) c ≡ bit m c
instrs_off g cells m z c l over (gate.Constant b) laws ne = set_off m b z c ne
instrs_off g cells m z c l over gate.Input laws ne = refl
instrs_off g cells m z c l over (gate.Not k) laws ne = load_off g.inputs cells m z c (record { 0 = l }) ne
instrs_off g cells m z c l None (gate.And x y) laws ne =
    ap (λ (r : List Bool). bit r c) (laws.append (load g.inputs cells z x) (narrow g.inputs cells z y ∷ []) m)
    ∙ narrow_off g.inputs cells (exec (load g.inputs cells z x) m) z c y ne
    ∙ load_off g.inputs cells m z c x ne
instrs_off g cells m z c l (Some d) (gate.And x y) laws ne = narrow_off g.inputs cells m z c (cond (eqb x.0 d) y x) ne

-- an AND on a cell of its own
and_fresh : (g : AigView) (cells : List ℕ) (m : List Bool) (z l : ℕ) (x y : Lit) → ExecLaws → z < length m → (x.0 / 2 ≡ 0) ⊎ (cell_of g.inputs cells x ≢ z) → (y.0 / 2 ≡ 0) ⊎ (cell_of g.inputs cells y ≢ z) → bit (exec (gate_instrs g cells z None l (gate.And x y)) m) z ≡ (lit_bit g.inputs cells m x && lit_bit g.inputs cells m y)
and_fresh g cells m z l x y laws h ax ay =
    let n = exec (load g.inputs cells z x) m in
    let len = laws.keeps_length (load g.inputs cells z x) m in
    let near : (y.0 / 2 ≡ 0) ⊎ (bit n (cell_of g.inputs cells y) ≡ bit m (cell_of g.inputs cells y)) = elim ay [ inl e ↦ inl e | inr d ↦ inr (load_off g.inputs cells m z (cell_of g.inputs cells y) x d) ] in
    ap (λ (r : List Bool). bit r z) (laws.append (load g.inputs cells z x) (narrow g.inputs cells z y ∷ []) m)
    ∙ narrow_gives g.inputs cells n z y (omega arith)
    ∙ ap (λ (b : Bool). b && bit n z) (lit_same g.inputs cells m n y near)
    ∙ ap (λ (b : Bool). lit_bit g.inputs cells m y && b) (load_gives g.inputs cells m z x h ax)
    ∙ and_turns (lit_bit g.inputs cells m y) (lit_bit g.inputs cells m x)

pub option_cases : (o : Option ℕ) → (o ≡ None) ⊎ ((c : ℕ) × (o ≡ Some c))
option_cases None = inl refl
option_cases (Some c) = inr (c, refl)

-- the plain literal of an AND node
pub record IsPlainAnd (g : AigView) (l : ℕ) : Type 0 where
  pub even : l % 2 ≡ 0
  pub above : g.inputs < l / 2

-- only AND nodes are read
with_and_plain : (g : AigView) (gs : List ℕ) (e : Lit) (y : ℕ) → (has gs y ≡ true → IsPlainAnd g y) → has (with_and g gs e) y ≡ true → IsPlainAnd g y
with_and_plain g gs e y old h = elim (leb_tells (e.0 / 2) g.inputs) [
  | inl i ↦
      let t : nat_lt g.inputs (e.0 / 2) ≡ false = let b = i.1 in grind (arith, nat_tests) in
      old (sym (ap (λ (b : Bool). has (cond b (cond (has gs (2 * (e.0 / 2))) gs (gs ++ 2 * (e.0 / 2) ∷ [])) gs) y) t) ∙ h)
  | inr a ↦
      let t : nat_lt g.inputs (e.0 / 2) ≡ true = let b = a.1 in grind (arith, nat_tests) in
      let h' : has (cond (has gs (2 * (e.0 / 2))) gs (gs ++ 2 * (e.0 / 2) ∷ [])) y ≡ true = sym (ap (λ (b : Bool). has (cond b (cond (has gs (2 * (e.0 / 2))) gs (gs ++ 2 * (e.0 / 2) ∷ [])) gs) y) t) ∙ h in
      elim (bool_cases (has gs (2 * (e.0 / 2)))) [
        | inl u ↦ old (sym (ap (λ (b : Bool). has (cond b gs (gs ++ 2 * (e.0 / 2) ∷ [])) y) u) ∙ h')
        | inr u ↦ elim (split gs (2 * (e.0 / 2)) y (sym (ap (λ (b : Bool). has (cond b gs (gs ++ 2 * (e.0 / 2) ∷ [])) y) u) ∙ h')) [
          | inl q ↦ old q
          | inr s ↦ record { even = omega arith; above = omega (arith, a.1) }
        ]
      ]
]

read_plain : (g : AigView) (t : Gate) (y : ℕ) → has (ands_read g t) y ≡ true → IsPlainAnd g y
read_plain g (gate.Constant b) y h = absurd (false≢true h)
read_plain g gate.Input y h = absurd (false≢true h)
read_plain g (gate.Not m) y h = with_and_plain g [] m y (λ n. absurd (false≢true n)) h
read_plain g (gate.And x z) y h = with_and_plain g (with_and g [] x) z y (λ n. with_and_plain g [] x y (λ k. absurd (false≢true k)) n) h

-- no input is a root
pub root_gate : (ins : ℕ) (os : List Lit) (roots : List ℕ) (y : ℕ) → (has roots y ≡ true → is_input ins (record { 0 = y }) ≡ false) → has (fold (with_root ins) roots os) y ≡ true → is_input ins (record { 0 = y }) ≡ false
root_gate ins [] roots y old h = old h
root_gate ins (o ∷ os) roots y old h =
    root_gate ins os (with_root ins roots o) y (λ n. elim (bool_cases (is_input ins o)) [
      | inl i ↦ old (sym (ap (λ (b : Bool). has (cond b roots (cond (has roots o.0) roots (roots ++ o.0 ∷ []))) y) i) ∙ n)
      | inr j ↦
          let n' : has (cond (has roots o.0) roots (roots ++ o.0 ∷ [])) y ≡ true = sym (ap (λ (b : Bool). has (cond b roots (cond (has roots o.0) roots (roots ++ o.0 ∷ []))) y) j) ∙ n in
          elim (bool_cases (has roots o.0)) [
            | inl u ↦ old (sym (ap (λ (b : Bool). has (cond b roots (roots ++ o.0 ∷ [])) y) u) ∙ n')
            | inr u ↦ elim (split roots o.0 y (sym (ap (λ (b : Bool). has (cond b roots (roots ++ o.0 ∷ [])) y) u) ∙ n')) [
              | inl q ↦ old q
              | inr s ↦ ap (λ (k : ℕ). is_input ins (record { 0 = k })) (sym s) ∙ j
            ]
          ]
    ]) h

pub input_is : (ins : ℕ) (l : ℕ) → 0 < l / 2 → l % 2 ≡ 0 → l / 2 ≤ ins → is_input ins (record { 0 = l }) ≡ true
input_is ins l some even few =
    let a : eqb (l % 2) 0 ≡ true = grind (arith, nat_tests) in
    let b : nat_lt 0 (l / 2) ≡ true = grind (arith, nat_tests) in
    let d : nat_le (l / 2) ins ≡ true = grind (arith, nat_tests) in
    ap (λ (t : Bool). (t && nat_lt 0 (l / 2)) && nat_le (l / 2) ins) a ∙ ap (λ (t : Bool). t && nat_le (l / 2) ins) b ∙ d

get_or_past : (ks : List (List ℕ)) (r : ℕ) → length ks ≤ r → get_or ks r [] ≡ []
get_or_past [] r h = refl
get_or_past (k ∷ ks) zero h = absurd (omega arith)
get_or_past (k ∷ ks) (suc r) h = get_or_past ks r (omega arith)

kids_past : (g : AigView) (r y : ℕ) → has (kids_of (gate_graph g) r) y ≡ true → (r < 2 * nodes g) ⊎ (2 * nodes g ≤ r)
kids_past g r y h = grind arith

-- a gate that another one reads is an AND node
pub kid_plain : (g : AigView) (r l : ℕ) → has (kids_of (gate_graph g) r) l ≡ true → IsPlainAnd g l
kid_plain g r l h = elim (kids_past g r l h) [
  | inl b ↦ read_plain g (gate_of g r) l (ap (λ (xs : List ℕ). has xs l) (sym (kids_at g r b)) ∙ h)
  | inr past ↦
      let count = length-map-range_with_len (λ k. ands_read g (gate_of g k)) 0 (2 * nodes g) in
      absurd (false≢true (ap (λ (xs : List ℕ). has xs l) (sym (get_or_past (gate_graph g).kids r (omega arith))) ∙ h))
]

-- no input is a gate of the order
pub not_input : (g : AigView) (l : ℕ) → l < 2 * nodes g → IsReached (gate_graph g) l → 0 < l / 2 → l % 2 ≡ 0 → l / 2 ≤ g.inputs → ⊥
not_input g l there (as_root h) some even few =
    false≢true (sym (root_gate g.inputs g.outputs [] l (λ n. absurd (false≢true n)) h) ∙ input_is g.inputs l some even few)
not_input g l there (as_child {reader = r} before h) some even few = let k = kid_plain g r l h in omega (arith, k.above)

second_one : (g : AigView) (l c : ℕ) → IsTakenOver g l c → (c ≡ (and_of g (l / 2 - 1 - g.inputs)).x.0 → ⊥) → c ≡ (and_of g (l / 2 - 1 - g.inputs)).y.0
second_one g l c (by_first even above same single) other = absurd (other same)
second_one g l c (by_second even above same single) other = same

-- the gate's own cell holds its value after its instructions
gate_gives : (g : AigView) (a : AllotmentView) (bits m : List Bool) (p : ℕ) → ExecLaws → IsSettled g a → length bits ≡ g.inputs → Reads (placing g a) (values g bits) bits p m → p < length (gates g) → Kind g (get_or (gates g) p 0) → bit (exec (instrs_at g a.cells (get_or (gates g) p 0)) m) (get_or a.cells (get_or (gates g) p 0) 0) ≡ aval g bits (record { 0 = get_or (gates g) p 0 })
gate_gives g a bits m p laws s len holds h (constant none is) =
    let l = get_or (gates g) p 0 in
    let z = get_or a.cells l 0 in
    let fits : z < length m = let b = s.allotted.within l (has_whole (gates g) p h) in omega (arith, holds.wide) in
    ap (λ (t : Gate). bit (exec (gate_instrs g a.cells z (taken g l) l t) m) z) is
    ∙ set_gives m (eqb l 1) z fits
    ∙ sym (constant_value g bits l s.values none)
gate_gives g a bits m p laws s len holds h (inverse some odd is) =
    let l = get_or (gates g) p 0 in
    let z = get_or a.cells l 0 in
    let e : Lit = record { 0 = l } in
    let fits : z < length m = let b = s.allotted.within l (has_whole (gates g) p h) in omega (arith, holds.wide) in
    let reads = reads_one g a bits m p e s len holds h (inverse_child g l (s.there p 0 h) odd is) in
    ap (λ (t : Gate). bit (exec (gate_instrs g a.cells z (taken g l) l t) m) z) is
    ∙ load_gives g.inputs a.cells m z e fits (reads.apart (ap (taken_of g) is))
    ∙ reads.value
gate_gives g a bits m p laws s len holds h (input some even few is) =
    absurd (not_input g (get_or (gates g) p 0) (s.there p 0 h) (s.reached p 0 h) some even few)
gate_gives g a bits m p laws s len holds h (meet even above is) =
    let v = gate_graph g in
    let l = get_or (gates g) p 0 in
    let z = get_or a.cells l 0 in
    let x = (and_of g (l / 2 - 1 - g.inputs)).x in
    let y = (and_of g (l / 2 - 1 - g.inputs)).y in
    let fits : z < length m = let b = s.allotted.within l (has_whole (gates g) p h) in omega (arith, holds.wide) in
    let below = s.there p 0 h in
    let kids = kids_at g l below ∙ ap (ands_read g) is in
    let rx = reads_one g a bits m p x s len holds h (λ o. ap (λ (xs : List ℕ). has xs (2 * (x.0 / 2))) kids ∙ first_read g x y o) in
    let ry = reads_one g a bits m p y s len holds h (λ o. ap (λ (xs : List ℕ). has xs (2 * (y.0 / 2))) kids ∙ second_read g x y o) in
    let value = meet_value g bits l s.values len below even above in
    let open_gate = ap (λ (t : Gate). bit (exec (gate_instrs g a.cells z (taken g l) l t) m) z) is in
    elim (option_cases (taken g l)) [
      | inl none ↦
          open_gate
          ∙ ap (λ (o : Option ℕ). bit (exec (gate_instrs g a.cells z o l (gate.And x y)) m) z) none
          ∙ and_fresh g a.cells m z l x y laws fits (rx.apart none) (ry.apart none)
          ∙ ap (λ (b : Bool). b && lit_bit g.inputs a.cells m y) rx.value
          ∙ ap (λ (b : Bool). aval g bits x && b) ry.value
          ∙ sym value
      | inr some ↦
          let c = some.0 in
          let at : taken_at (map (taken g) (gates g)) p ≡ Some c = taken_map g p h ∙ some.1 in
          let kid = s.over.child p c h at in
          let before : has (take p (gates g)) c ≡ true = all_has (λ k. has (take p (gates g)) k ≡ true) (kids_of v l) c (s.placed.after p h) kid in
          let old : bit m z ≡ aval g bits (record { 0 = c }) = ap (bit m) (s.allotted.taken p c h at) ∙ holds.kids c kid in
          open_gate
          ∙ ap (λ (o : Option ℕ). bit (exec (gate_instrs g a.cells z o l (gate.And x y)) m) z) some.1
          ∙ narrow_gives g.inputs a.cells m z (cond (eqb x.0 c) y x) fits
          ∙ ap (λ (b : Bool). lit_bit g.inputs a.cells m (cond (eqb x.0 c) y x) && b) old
          ∙ elim (eqb_tells x.0 c) [
            | inl t ↦
                ap (λ (b : Bool). lit_bit g.inputs a.cells m (cond b y x) && aval g bits (record { 0 = c })) t.0
                ∙ ap (λ (b : Bool). b && aval g bits (record { 0 = c })) ry.value
                ∙ ap (λ (k : ℕ). aval g bits y && aval g bits (record { 0 = k })) (sym t.1)
                ∙ and_turns (aval g bits y) (aval g bits x)
                ∙ sym value
            | inr f ↦
                let second : c ≡ y.0 = second_one g l c (taken_over g l c some.1) (λ e. f.1 (sym e)) in
                ap (λ (b : Bool). lit_bit g.inputs a.cells m (cond b y x) && aval g bits (record { 0 = c })) f.0
                ∙ ap (λ (b : Bool). b && aval g bits (record { 0 = c })) rx.value
                ∙ ap (λ (k : ℕ). aval g bits x && aval g bits (record { 0 = k })) second
                ∙ sym value
          ]
    ]

-- the order and the cells of a settled graph
sound : (g : AigView) (a : AllotmentView) → IsSettled g a → IsSound (placing g a)
sound g a s = record { placed = s.placed; over = s.over; allotted = s.allotted }

-- each gate is computed
computes : (g : AigView) (a : AllotmentView) (bits : List Bool) → ExecLaws → IsSettled g a → length bits ≡ g.inputs → Computes (placing g a) (instrs_at g a.cells) (values g bits) bits
computes g a bits laws s len = record {
  off = λ p c m h ne. let l = get_or (gates g) p 0 in instrs_off g a.cells m (get_or a.cells l 0) c l (taken g l) (gate_of g l) laws ne;
  gives = λ p m h reads. gate_gives g a bits m p laws s len reads h (kind_of g (get_or (gates g) p 0));
}

-- after all gates
pub all_hold : (g : AigView) (a : AllotmentView) (bits m : List Bool) → IsSettled g a → ExecLaws → length bits ≡ g.inputs → a.width ≤ length m → take g.inputs m ≡ bits → HoldsAt (placing g a) (values g bits) bits (length (gates g)) (exec (schedule g a.cells) m)
all_hold g a bits m s laws len wide is = all_held (placing g a) (instrs_at g a.cells) (values g bits) bits m laws (sound g a s) (computes g a bits laws s len) wide is

root_keeps : (ins : ℕ) (os : List Lit) (roots : List ℕ) (y : ℕ) → has roots y ≡ true → has (fold (with_root ins) roots os) y ≡ true
root_keeps ins [] roots y h = h
root_keeps ins (o ∷ os) roots y h = root_keeps ins os (with_root ins roots o) y (elim (bool_cases (is_input ins o)) [
  | inl i ↦ ap (λ (b : Bool). has (cond b roots (cond (has roots o.0) roots (roots ++ o.0 ∷ []))) y) i ∙ h
  | inr j ↦ ap (λ (b : Bool). has (cond b roots (cond (has roots o.0) roots (roots ++ o.0 ∷ []))) y) j ∙ elim (bool_cases (has roots o.0)) [
    | inl u ↦ ap (λ (b : Bool). has (cond b roots (roots ++ o.0 ∷ [])) y) u ∙ h
    | inr u ↦ ap (λ (b : Bool). has (cond b roots (roots ++ o.0 ∷ [])) y) u ∙ has_front roots (o.0 ∷ []) y h
  ]
])

root_new : (ins : ℕ) (roots : List ℕ) (o : Lit) → is_input ins o ≡ false → has (with_root ins roots o) o.0 ≡ true
root_new ins roots o j = ap (λ (b : Bool). has (cond b roots (cond (has roots o.0) roots (roots ++ o.0 ∷ []))) o.0) j ∙ elim (bool_cases (has roots o.0)) [
  | inl u ↦ ap (λ (b : Bool). has (cond b roots (roots ++ o.0 ∷ [])) o.0) u ∙ u
  | inr u ↦ ap (λ (b : Bool). has (cond b roots (roots ++ o.0 ∷ [])) o.0) u ∙ last roots o.0
]

-- the gate of each output that is no input is a root
pub roots_have : (ins : ℕ) (os : List Lit) (roots : List ℕ) (k : ℕ) (d : Lit) → k < length os → is_input ins (get_or os k d) ≡ false → has (fold (with_root ins) roots os) (get_or os k d).0 ≡ true
roots_have ins [] roots k d h j = absurd (omega arith)
roots_have ins (o ∷ os) roots zero d h j = root_keeps ins os (with_root ins roots o) o.0 (root_new ins roots o j)
roots_have ins (o ∷ os) roots (suc k) d h j = roots_have ins os (with_root ins roots o) k d (omega arith) j

pub le_same : (n : ℕ) → n ≤ n
le_same n = omega arith

pub record IsInput (ins : ℕ) (o : Lit) : Type 0 where
  pub even : o.0 % 2 ≡ 0
  pub some : 0 < o.0 / 2
  pub few : o.0 / 2 ≤ ins

pub input_means : (ins : ℕ) (o : Lit) → is_input ins o ≡ true → IsInput ins o
input_means ins o h =
    let t = and_parts (eqb (o.0 % 2) 0 && nat_lt 0 (o.0 / 2)) (nat_le (o.0 / 2) ins) h in
    let u = and_parts (eqb (o.0 % 2) 0) (nat_lt 0 (o.0 / 2)) t.0 in
    record { even = eqb-true (o.0 % 2) 0 u.0; some = ltb-true 0 (o.0 / 2) u.1; few = leb-true (o.0 / 2) ins t.1 }

-- an output lies where the program says, with its value
pub output_holds : (g : AigView) (a : AllotmentView) (bits m : List Bool) (k : ℕ) (d : Lit) → IsSettled g a → ExecLaws → ((y : ℕ) → IsReached (gate_graph g) y → has (gates g) y ≡ true) → length bits ≡ g.inputs → a.width ≤ length m → take g.inputs m ≡ bits → k < length g.outputs → bit (exec (schedule g a.cells) m) (output_cell g.inputs a.cells (get_or g.outputs k d)) ≡ aval g bits (get_or g.outputs k d)
output_holds g a bits m k d s laws complete len wide is h =
    let o = get_or g.outputs k d in
    let xs = gates g in
    let v = gate_graph g in
    let end = all_hold g a bits m s laws len wide is in
    let r = exec (schedule g a.cells) m in
    elim (bool_cases (is_input g.inputs o)) [
      | inl i ↦
          let t = input_means g.inputs o i in
          ap (λ (b : Bool). bit r (cond b (o.0 / 2 - 1) (get_or a.cells o.0 0))) i
          ∙ end.inputs (o.0 / 2 - 1) (omega (arith, t.some, t.few))
          ∙ sym (input_value g bits (o.0 / 2) s.values len t.some t.few)
          ∙ sym (plain_value g bits o.0 t.even)
      | inr j ↦
          let root = roots_have g.inputs g.outputs [] k d h j in
          let there = complete o.0 (as_root root) in
          let front : has (take (length xs) xs) o.0 ≡ true = ap (λ (ys : List ℕ). has ys o.0) (take-length xs) ∙ there in
          let need : needed v (drop (length xs) xs) o.0 ≡ true = ap (λ (ys : List ℕ). needed v ys o.0) (drop_of_length-le xs (le_same (length xs))) ∙ root in
          ap (λ (b : Bool). bit r (cond b (o.0 / 2 - 1) (get_or a.cells o.0 0))) j
          ∙ end.held o.0 front need
    ]

-- an output lies in a cell of the program
pub output_within : (g : AigView) (a : AllotmentView) (k : ℕ) (d : Lit) → IsSettled g a → ((y : ℕ) → IsReached (gate_graph g) y → has (gates g) y ≡ true) → k < length g.outputs → output_cell g.inputs a.cells (get_or g.outputs k d) < a.width
output_within g a k d s complete h =
    let o = get_or g.outputs k d in
    let P : Bool → Type 0 = λ b. cond {A = ℕ} b (o.0 / 2 - 1) (get_or a.cells o.0 0) < a.width in
    elim (bool_cases (is_input g.inputs o)) [
      | inl i ↦ let t = input_means g.inputs o i in subst P (sym i) (omega (arith, t.some, t.few, s.allotted.room))
      | inr j ↦ subst P (sym j) (s.allotted.within o.0 (complete o.0 (as_root (roots_have g.inputs g.outputs [] k d h j))))
    ]
