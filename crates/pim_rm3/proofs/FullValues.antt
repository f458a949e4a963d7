-- What the instructions of a gate or a temporary leave in a row that holds what it reads.
use Rattle.std.proofs.Common.{◌≡◌, ◌≢◌, ℕ, ◌+◌, ◌-◌, ◌*◌, ◌/◌, ◌%◌, ◌<◌, ◌≤◌, Bool, true, false, cond, eqb, List, [], ◌∷◌, length, get_or, Option, Some, None, refl, sym, ◌∙◌, ap, arith, inl, inr}
use Rattle.std.proofs.lemmas.Bool.Decides.{nat_tests, leb_tells}
use Rattle.std.proofs.lemmas.List.FromFn.{get_or-map-range_with_len}
use Rattle.pim_aig.specs.declared.literal.Lit.{Lit}
use Rattle.pim_graph.specs.Allotments.{AllotmentView, taken_at}
use Rattle.pim_graph.specs.Graphs.{has, kids_of}
use Rattle.pim_isa.specs.Laws.{ExecLaws}
use Rattle.pim_isa.specs.Steps.{bit, exec}
use Rattle.pim_isa.specs.declared.instr.Instr.{Instr}
use Rattle.pim_isa.specs.declared.instr.Instr.TheVariants.{Rm3}
use Rattle.pim_mig.specs.Graph.{MigView, size}
use Rattle.pim_mig.specs.Laws.{MajorityLaws}
use Rattle.pim_mig.specs.Values.{majority as mig_majority, mval, node_values}
use Rattle.pim_rm3.specs.Schedules.{cell_of, load, set_to}
use Rattle.pim_rm3.specs.SmartSchedules.{first_operand, gate_cells, inverse, second_operand, step_instrs, temporary_instrs, third_instrs}
use Rattle.pim_rm3.specs.Steps.{maj_at, step_of}
use Rattle.pim_rm3.specs.Temporaries.{full_graph, full_order, full_over, gate_number, temporary_of}
use Rattle.pim_rm3.specs.declared.role.Role.{Role}
use Rattle.pim_rm3.specs.declared.step.Step.{Step}
use Rattle.pim_rm3.specs.declared.step.Step.TheVariants as step
use Rattle.pim_rm3.proofs.Lists.{has_whole, has_of_take}
use Rattle.pim_rm3.proofs.GateKinds.{lit_value, literal_constant, literal_plain}
use Rattle.pim_rm3.proofs.Rows.{bool_cases, lit_bit, load_off, off_target, set_off}
use Rattle.pim_rm3.proofs.Stepping.{Placing, IsSound, Reads, gate_at, cell_at, read_before, read_needed}
use Rattle.pim_rm3.proofs.Walks.{cell_gate, cell_input}

-- the gates and temporaries of a graph with these cells
abbrev pub placing : MigView → AllotmentView → Placing
placing g a = record { graph = full_graph g; order = full_order g; over = full_over g; first = g.inputs; cells = a }

-- the cells of the literals' gates
abbrev pub cells : MigView → AllotmentView → List ℕ
cells g a = gate_cells (2 * size g) a.cells

-- the instructions of the gate or the temporary of a number
abbrev pub instrs_of : MigView → AllotmentView → ℕ → List Instr
instrs_of g a n =
    cond (eqb (n % 2) 1) (step_instrs g.inputs (cells g a) (get_or a.cells (2 * (n / 2)) 0) (get_or a.cells n 0) (step_of g (n / 2)))
    (temporary_instrs g.inputs (cells g a) (get_or a.cells n 0) (temporary_of (step_of g (n / 2))))

-- the value that a temporary holds
abbrev pub temporary_value : MigView → List Bool → Option Lit → Bool
temporary_value g bits None = false
temporary_value g bits (Some e) = mval g bits (inverse e)

-- the value of the gate or the temporary of a number
abbrev pub value_of : MigView → List Bool → ℕ → Bool
value_of g bits n = cond (eqb (n % 2) 1) (mval g bits (record { 0 = n / 2 })) (temporary_value g bits (temporary_of (step_of g (n / 2))))

odd_number : (l : ℕ) → eqb (gate_number l % 2) 1 ≡ true
odd_number l = let r : gate_number l % 2 ≡ 1 = omega arith in grind (arith, nat_tests)

even_number : (l : ℕ) → eqb ((2 * l) % 2) 1 ≡ false
even_number l = let r : (2 * l) % 2 ≡ 0 = omega arith in grind (arith, nat_tests)

pub instrs_gate : (g : MigView) (a : AllotmentView) (l : ℕ) → instrs_of g a (gate_number l) ≡ step_instrs g.inputs (cells g a) (get_or a.cells (2 * l) 0) (get_or a.cells (gate_number l) 0) (step_of g l)
instrs_gate g a l =
    let n = gate_number l in
    let half : n / 2 ≡ l = omega arith in
    ap (λ (b : Bool). cond b (step_instrs g.inputs (cells g a) (get_or a.cells (2 * (n / 2)) 0) (get_or a.cells n 0) (step_of g (n / 2))) (temporary_instrs g.inputs (cells g a) (get_or a.cells n 0) (temporary_of (step_of g (n / 2))))) (odd_number l)
    ∙ ap (λ (k : ℕ). step_instrs g.inputs (cells g a) (get_or a.cells (2 * k) 0) (get_or a.cells n 0) (step_of g k)) half

pub instrs_temporary : (g : MigView) (a : AllotmentView) (l : ℕ) → instrs_of g a (2 * l) ≡ temporary_instrs g.inputs (cells g a) (get_or a.cells (2 * l) 0) (temporary_of (step_of g l))
instrs_temporary g a l =
    let n = 2 * l in
    let half : n / 2 ≡ l = omega arith in
    ap (λ (b : Bool). cond b (step_instrs g.inputs (cells g a) (get_or a.cells (2 * (n / 2)) 0) (get_or a.cells n 0) (step_of g (n / 2))) (temporary_instrs g.inputs (cells g a) (get_or a.cells n 0) (temporary_of (step_of g (n / 2))))) (even_number l)
    ∙ ap (λ (k : ℕ). temporary_instrs g.inputs (cells g a) (get_or a.cells n 0) (temporary_of (step_of g k))) half

pub value_gate : (g : MigView) (bits : List Bool) (l : ℕ) → value_of g bits (gate_number l) ≡ mval g bits (record { 0 = l })
value_gate g bits l =
    let n = gate_number l in
    let half : n / 2 ≡ l = omega arith in
    ap (λ (b : Bool). cond b (mval g bits (record { 0 = n / 2 })) (temporary_value g bits (temporary_of (step_of g (n / 2))))) (odd_number l)
    ∙ ap (λ (k : ℕ). mval g bits (record { 0 = k })) half

pub value_temporary : (g : MigView) (bits : List Bool) (l : ℕ) → value_of g bits (2 * l) ≡ temporary_value g bits (temporary_of (step_of g l))
value_temporary g bits l =
    let n = 2 * l in
    let half : n / 2 ≡ l = omega arith in
    ap (λ (b : Bool). cond b (mval g bits (record { 0 = n / 2 })) (temporary_value g bits (temporary_of (step_of g (n / 2))))) (even_number l)
    ∙ ap (λ (k : ℕ). temporary_value g bits (temporary_of (step_of g k))) half

-- ---- values of literals
pub zero_value : (g : MigView) (bits : List Bool) → MajorityLaws g → get_or (node_values g bits) 0 false ≡ false
zero_value g bits laws = sym (laws.plains (node_values g bits) 0) ∙ laws.constant bits

pub input_value : (g : MigView) (bits : List Bool) (n : ℕ) → MajorityLaws g → length bits ≡ g.inputs → 0 < n → n ≤ g.inputs → get_or (node_values g bits) n false ≡ get_or bits (n - 1) false
input_value g bits n laws len some few =
    let e : 1 + (n - 1) ≡ n = omega arith in
    ap (λ (k : ℕ). get_or (node_values g bits) k false) (sym e) ∙ sym (laws.plains (node_values g bits) (1 + (n - 1))) ∙ laws.inputs bits (n - 1) len (omega arith)

pub plain_value : (g : MigView) (bits : List Bool) (l : ℕ) → l % 2 ≡ 0 → mval g bits (record { 0 = l }) ≡ get_or (node_values g bits) (l / 2) false
plain_value g bits l even = literal_plain (node_values g bits) l even

pub constant_value : (g : MigView) (bits : List Bool) (l : ℕ) → MajorityLaws g → l / 2 ≡ 0 → mval g bits (record { 0 = l }) ≡ eqb l 1
constant_value g bits l laws z = literal_constant (node_values g bits) l (zero_value g bits laws) z

pub vote_value : (g : MigView) (bits : List Bool) (l : ℕ) → MajorityLaws g → length bits ≡ g.inputs → l < 2 * size g → l % 2 ≡ 0 → g.inputs < l / 2 → mval g bits (record { 0 = l }) ≡ mig_majority (mval g bits (maj_at g l).x) (mval g bits (maj_at g l).y) (mval g bits (maj_at g l).z)
vote_value g bits l laws len there even above =
    let k = l / 2 - 1 - g.inputs in
    let e : 1 + g.inputs + k ≡ l / 2 = omega arith in
    plain_value g bits l even
    ∙ ap (λ (n : ℕ). get_or (node_values g bits) n false) (sym e)
    ∙ sym (laws.plains (node_values g bits) (1 + g.inputs + k))
    ∙ laws.nodes bits k (record { x = record { 0 = 0 }; y = record { 0 = 0 }; z = record { 0 = 0 } }) len (omega arith)

-- ---- an operand that is read at a place
pub gate_cell : (g : MigView) (a : AllotmentView) (k : ℕ) → k < 2 * size g → get_or (cells g a) k 0 ≡ get_or a.cells (gate_number k) 0
gate_cell g a k h = get_or-map-range_with_len (λ l. get_or a.cells (gate_number l) 0) 0 (2 * size g) k k 0 h (omega arith)

pub operand_cell : (g : MigView) (a : AllotmentView) (e : Lit) → e.0 < 2 * size g → g.inputs < e.0 / 2 → cell_of g.inputs (cells g a) e ≡ get_or a.cells (gate_number (2 * (e.0 / 2))) 0
operand_cell g a e h above = cell_gate g.inputs (cells g a) e above ∙ gate_cell g a (2 * (e.0 / 2)) (omega arith)

-- the literal's node is read at the place
abbrev pub IsRead : MigView → AllotmentView → ℕ → Lit → Type 0
IsRead g a p e = g.inputs < e.0 / 2 → has (kids_of (full_graph g) (gate_at (placing g a) p)) (gate_number (2 * (e.0 / 2))) ≡ true

pub operand_held : (g : MigView) (a : AllotmentView) (bits m : List Bool) (p : ℕ) (e : Lit) → MajorityLaws g → length bits ≡ g.inputs → Reads (placing g a) (value_of g bits) bits p m → e.0 < 2 * size g → IsRead g a p e → lit_bit g.inputs (cells g a) m e ≡ mval g bits e
operand_held g a bits m p e laws len reads there child = elim (leb_tells (e.0 / 2) g.inputs) [
  | inl i ↦ lit_value g.inputs (node_values g bits) (cells g a) m e (zero_value g bits laws) (λ some.
      ap (bit m) (cell_input g.inputs (cells g a) e i.1) ∙ reads.inputs (e.0 / 2 - 1) (omega (arith, i.1)) ∙ sym (input_value g bits (e.0 / 2) laws len some i.1))
  | inr b ↦
      let k = 2 * (e.0 / 2) in
      let half : k / 2 ≡ e.0 / 2 = omega arith in
      let even : k % 2 ≡ 0 = omega arith in
      lit_value g.inputs (node_values g bits) (cells g a) m e (zero_value g bits laws) (λ some.
      ap (bit m) (operand_cell g a e there b.1) ∙ reads.kids (gate_number k) (child b.1) ∙ value_gate g bits k ∙ plain_value g bits k even ∙ ap (λ (n : ℕ). get_or (node_values g bits) n false) half)
]

pub operand_within : (g : MigView) (a : AllotmentView) (p : ℕ) (e : Lit) → IsSound (placing g a) → p < length (full_order g) → e.0 < 2 * size g → IsRead g a p e → 0 < e.0 / 2 → cell_of g.inputs (cells g a) e < a.width
operand_within g a p e s h there child some = elim (leb_tells (e.0 / 2) g.inputs) [
  | inl i ↦ let c = cell_input g.inputs (cells g a) e i.1 in omega (arith, i.1, s.allotted.room)
  | inr b ↦
      let n = gate_number (2 * (e.0 / 2)) in
      let c = operand_cell g a e there b.1 in
      let w = s.allotted.within n (has_of_take (full_order g) p n (read_before (full_graph g) (full_order g) p n s.placed h (child b.1))) in
      omega arith
]

pub operand_apart : (g : MigView) (a : AllotmentView) (p : ℕ) (e : Lit) → IsSound (placing g a) → p < length (full_order g) → e.0 < 2 * size g → IsRead g a p e → (g.inputs < e.0 / 2 → taken_at (full_over g) p ≢ Some (gate_number (2 * (e.0 / 2)))) → 0 < e.0 / 2 → cell_of g.inputs (cells g a) e ≢ cell_at (placing g a) (gate_at (placing g a) p)
operand_apart g a p e s h there child other some = elim (leb_tells (e.0 / 2) g.inputs) [
  | inl i ↦ λ same.
      let from = s.allotted.from (gate_at (placing g a) p) (has_whole (full_order g) p h) in
      let c = cell_input g.inputs (cells g a) e i.1 in
      absurd (omega (arith, i.1))
  | inr b ↦ λ same.
      let n = gate_number (2 * (e.0 / 2)) in
      s.allotted.apart p n h (read_before (full_graph g) (full_order g) p n s.placed h (child b.1)) (read_needed (full_graph g) (full_order g) p n h (child b.1)) (other b.1)
      (sym (operand_cell g a e there b.1) ∙ same)
]

-- ---- instructions change no cell but their own
pub third_off : (ins : ℕ) (cs : List ℕ) (m : List Bool) (z c : ℕ) (r : Role) → c ≢ z → bit (exec (third_instrs ins cs z r) m) c ≡ bit m c
third_off ins cs m z c r ne = elim (bool_cases (eqb (r.z.0 / 2) 0)) [
  | inl t ↦
      ap (λ (b : Bool). bit (exec (cond b (set_to (eqb r.z.0 1) z ∷ []) (cond r.over [] (load ins cs z r.z))) m) c) t
      ∙ set_off m (eqb r.z.0 1) z c ne
  | inr f ↦
      ap (λ (b : Bool). bit (exec (cond b (set_to (eqb r.z.0 1) z ∷ []) (cond r.over [] (load ins cs z r.z))) m) c) f
      ∙ elim (bool_cases r.over) [
        | inl t ↦ ap (λ (b : Bool). bit (exec (cond b [] (load ins cs z r.z)) m) c) t
        | inr u ↦ ap (λ (b : Bool). bit (exec (cond b [] (load ins cs z r.z)) m) c) u ∙ load_off ins cs m z c r.z ne
      ]
]

step_off : (ins : ℕ) (cs : List ℕ) (m : List Bool) (t z c : ℕ) (s : Step) → ExecLaws → c ≢ z → bit (exec (step_instrs ins cs t z s) m) c ≡ bit m c
step_off ins cs m t z c (step.Constant b) laws ne = set_off m b z c ne
step_off ins cs m t z c step.Input laws ne = refl
step_off ins cs m t z c (step.Complement e) laws ne = load_off ins cs m z c e ne
step_off ins cs m t z c (step.Vote r) laws ne =
    let p = first_operand ins cs t r.p in
    let q = second_operand ins cs t r.q in
    ap (λ (n : List Bool). bit n c) (laws.append (third_instrs ins cs z r) (Rm3 p q z ∷ []) m)
    ∙ off_target (exec (third_instrs ins cs z r) m) p q z c ne
    ∙ third_off ins cs m z c r ne

temporary_off : (ins : ℕ) (cs : List ℕ) (m : List Bool) (t c : ℕ) (o : Option Lit) → c ≢ t → bit (exec (temporary_instrs ins cs t o) m) c ≡ bit m c
temporary_off ins cs m t c None ne = refl
temporary_off ins cs m t c (Some e) ne = load_off ins cs m t c (inverse e) ne

pub all_off : (g : MigView) (a : AllotmentView) (m : List Bool) (n c : ℕ) → ExecLaws → c ≢ get_or a.cells n 0 → bit (exec (instrs_of g a n) m) c ≡ bit m c
all_off g a m n c laws ne =
    let whole = step_instrs g.inputs (cells g a) (get_or a.cells (2 * (n / 2)) 0) (get_or a.cells n 0) (step_of g (n / 2)) in
    let short = temporary_instrs g.inputs (cells g a) (get_or a.cells n 0) (temporary_of (step_of g (n / 2))) in
    elim (bool_cases (eqb (n % 2) 1)) [
      | inl t ↦ ap (λ (b : Bool). bit (exec (cond b whole short) m) c) t ∙ step_off g.inputs (cells g a) m (get_or a.cells (2 * (n / 2)) 0) (get_or a.cells n 0) c (step_of g (n / 2)) laws ne
      | inr f ↦ ap (λ (b : Bool). bit (exec (cond b whole short) m) c) f ∙ temporary_off g.inputs (cells g a) m (get_or a.cells n 0) c (temporary_of (step_of g (n / 2))) ne
    ]
