-- The graph that is drawn is that of the gates which wrote the cells last.
use Rattle.std.proofs.Common.{◌≡◌, ℕ, suc, ◌+◌, ◌<◌, Bool, true, false, ◌||◌, cond, List, [], ◌∷◌, ◌++◌, length, set, take, Option, Some, None, inl, inr, refl, sym, ap, subst, ◌∙◌, arith, append-nil, append_assoc, length-append, length-set, get_or-set_same, get_or-set_other}
use Rattle.std.specs.Prelude.{All, option_and_then, option_map, replicate, slice_get}
use Rattle.std.specs.Option.{option_or}
use Rattle.std.proofs.Math.Seq.{get_or-append_seam, take-append_seam}
use Rattle.std.proofs.lemmas.Bool.{cases_eq, eq-eqb, ne_eqb}
use Rattle.std.proofs.lemmas.List.{get_or-replicate, get_or_append_left, length-replicate, take-append-le}
use Rattle.std.proofs.lemmas.List.Elements.{All-head, All-tail, All-weaker}
use Rattle.std.proofs.lemmas.Option.{slice_get-get_or}
use Rattle.pim_graph.specs.Graphs.{GraphView}
use Rattle.pim_isa.specs.declared.instr.Instr.{Instr}
use Rattle.pim_isa.specs.declared.instr.Instr.TheVariants.{Init, Nor, Rm3}
use Rattle.pim_isa.specs.Laws.{WriteLaws}
use Rattle.pim_isa.specs.Programs.{ProgramView}
use Rattle.pim_isa.specs.Sound.{cells_of, IsProgram, IsValid}
use Rattle.pim_isa.specs.Touches.{names, operands, writes}
use Rattle.pim_isa.specs.Validity.{has}
use Rattle.pim_isa.specs.Writes.{is_nor, last_write, nor_places}
use Rattle.pim_life.specs.NorGraphs.{gate_at, gates_in, kids_at, kids_from, last_gate, nor_graph_of, with_gate}
use Rattle.pim_life.specs.inner.Drawing.{Drawn, drawn, drawn_after, drawn_from, emptied, gate_in, gates_held}
use Rattle.pim_life.proofs.Drawings.{none_there}

-- ---- the gate that wrote a cell last, behind one instruction more

get-here : (is : List Instr) (i : Instr) → slice_get (is ++ i ∷ []) (length is) ≡ Some i
get-here is i =
    slice_get-get_or (is ++ i ∷ []) (length is) i (omega (arith, length-append is (i ∷ []))) ∙ ap (λ (j : Instr). Some j) (get_or-append_seam is i [] i)

get-before : (is : List Instr) (i : Instr) (k : ℕ) → k < length is → slice_get (is ++ i ∷ []) k ≡ slice_get is k
get-before is i k lt =
    slice_get-get_or (is ++ i ∷ []) k i (omega (arith, lt, length-append is (i ∷ [])))
    ∙ ap (λ (j : Instr). Some j) (get_or_append_left is (i ∷ []) i k lt) ∙ sym (slice_get-get_or is k i lt)

within_or : (o : Option ℕ) (b : Bool) (n k : ℕ) → ((j : ℕ) → o ≡ Some j → j < n) →
    option_or (option_map (λ (j : ℕ). j + 1) o) (cond b (Some 0) None) ≡ Some k → k < suc n
within_or (Some j) b n k small is =
    let same : j + 1 ≡ k = cc in
    omega (arith, small j refl, same)
within_or None true n k small is =
    let same : 0 ≡ k = cc in
    omega (arith, same)
within_or None false n k small is = cc

last_write-within : (is : List Instr) (c k : ℕ) → last_write is c ≡ Some k → k < length is
last_write-within [] c k is = cc
last_write-within (i ∷ is) c k at = within_or (last_write is c) (has c (writes i)) (length is) k (last_write-within is c) at

gate_at-here : (is : List Instr) (i : Instr) →
    gate_at (is ++ i ∷ []) (length is) ≡ cond (is_nor i) (Some (length (nor_places is))) None
gate_at-here is i =
    ap (option_and_then (λ (j : Instr). cond (is_nor j) (Some (length (nor_places (take (length is) (is ++ i ∷ []))))) None)) (get-here is i)
    ∙ ap (λ (xs : List Instr). cond (is_nor i) (Some (length (nor_places xs))) None) (take-append_seam is (i ∷ []))

gate_at-before : (is : List Instr) (i : Instr) (k : ℕ) → k < length is → gate_at (is ++ i ∷ []) k ≡ gate_at is k
gate_at-before is i k lt =
    ap (option_and_then (λ (j : Instr). cond (is_nor j) (Some (length (nor_places (take k (is ++ i ∷ []))))) None)) (get-before is i k lt)
    ∙ ap (λ (xs : List Instr). option_and_then (λ (j : Instr). cond (is_nor j) (Some (length (nor_places xs))) None) (slice_get is k))
    (take-append-le k is (i ∷ []) (omega (arith, lt)))

gates-before : (is : List Instr) (i : Instr) (o : Option ℕ) → ((k : ℕ) → o ≡ Some k → k < length is) →
    option_and_then (gate_at (is ++ i ∷ [])) o ≡ option_and_then (gate_at is) o
gates-before is i None small = refl
gates-before is i (Some k) small = gate_at-before is i k (small k refl)

pushed : (is : List Instr) (i : Instr) (c : ℕ) (b : Bool) →
    option_and_then (gate_at (is ++ i ∷ [])) (cond b (Some (length is)) (last_write is c))
    ≡ cond b (cond (is_nor i) (Some (length (nor_places is))) None) (last_gate is c)
pushed is i c true = gate_at-here is i
pushed is i c false = gates-before is i (last_write is c) (last_write-within is c)

last_gate-push : WriteLaws → (is : List Instr) (i : Instr) (c : ℕ) →
    last_gate (is ++ i ∷ []) c ≡ cond (has c (writes i)) (cond (is_nor i) (Some (length (nor_places is))) None) (last_gate is c)
last_gate-push laws is i c =
    ap (option_and_then (gate_at (is ++ i ∷ []))) (laws.last_write_push is i c) ∙ pushed is i c (has c (writes i))

-- ---- what cells hold

cond_none : (b : Bool) (o : Option ℕ) → o ≡ None → cond b None o ≡ None
cond_none true o none = refl
cond_none false o none = none

put_there : (held : List (Option ℕ)) (t c : ℕ) (o : Option ℕ) → c < length held →
    gate_in (set held t o) c ≡ cond (has c (t ∷ [])) o (gate_in held c)
put_there held t c o lt =
    elim (cases_eq t c) [
      | inl same ↦
          subst (λ (x : ℕ). gate_in (set held t o) x ≡ o) same (get_or-set_same held t o None (omega (arith, same, lt)))
          ∙ sym (ap (λ (b : Bool). cond (b || false) o (gate_in held c)) (eq-eqb t c same))
      | inr other ↦
          get_or-set_other held t c o None (λ same. other (sym same))
          ∙ sym (ap (λ (b : Bool). cond (b || false) o (gate_in held c)) (ne_eqb t c other))
    ]

emptied_there : (cs : List ℕ) (held : List (Option ℕ)) (c : ℕ) → gate_in (emptied cs held) c ≡ cond (has c cs) None (gate_in held c)
emptied_there [] held c = refl
emptied_there (d ∷ ds) held c =
    emptied_there ds (set held d None) c
    ∙ elim (cases_eq d c) [
      | inl same ↦
          cond_none (has c ds) (gate_in (set held d None) c) (subst (λ (x : ℕ). gate_in (set held d None) x ≡ None) same (none_there held d))
          ∙ sym (ap (λ (b : Bool). cond (b || has c ds) None (gate_in held c)) (eq-eqb d c same))
      | inr other ↦
          ap (λ (o : Option ℕ). cond (has c ds) None o) (get_or-set_other held d c None None (λ same. other (sym same)))
          ∙ sym (ap (λ (b : Bool). cond (b || has c ds) None (gate_in held c)) (ne_eqb d c other))
    ]

length-emptied : (cs : List ℕ) (held : List (Option ℕ)) → length (emptied cs held) ≡ length held
length-emptied [] held = refl
length-emptied (c ∷ cs) held = length-emptied cs (set held c None) ∙ length-set held c None

-- what is drawn of the instructions so far: a gate for each NOR, and in each cell the one that wrote it last
pub record Stands (cells : ℕ) (before : List Instr) (d : Drawn) : Type 0 where
  pub long : length d.held ≡ cells
  pub count : length d.kids ≡ length (nor_places before)
  pub holds : (c : ℕ) → c < cells → gate_in d.held c ≡ last_gate before c

-- the gates that cells hold are those that wrote them last
gates_same : (cells : ℕ) (held : List (Option ℕ)) (before : List Instr) (gates cs : List ℕ) → ((c : ℕ) → c < cells → gate_in held c ≡ last_gate before c) →
    All (λ c. c < cells) cs → gates_held held gates cs ≡ gates_in before gates cs
gates_same cells held before gates [] same small = refl
gates_same cells held before gates (c ∷ cs) same small =
    ap (λ (o : Option ℕ). gates_held held (with_gate gates o) cs) (same c (All-head (λ c. c < cells) c cs small))
    ∙ gates_same cells held before (with_gate gates (last_gate before c)) cs same (All-tail (λ c. c < cells) c cs small)

-- ---- one instruction more

kids-push : (cells : ℕ) (before : List Instr) (d : Drawn) (i : Instr) → Stands cells before d → All (λ c. c < cells) (names i) →
    (drawn_after d i).kids ≡ d.kids ++ kids_at before i
kids-push cells before d (Init cs) h small = sym (append-nil d.kids)
kids-push cells before d (Nor t ins) h small =
    ap (λ (ks : List ℕ). d.kids ++ ks ∷ [])
    (gates_same cells d.held before [] (operands ins) h.holds (All-tail (λ c. c < cells) t (operands ins) small))
kids-push cells before d (Rm3 p q z) h small = sym (append-nil d.kids)

-- an instruction that is no NOR is no gate
no_more : (laws : WriteLaws) (before : List Instr) (i : Instr) (n : ℕ) → is_nor i ≡ false → n ≡ length (nor_places before) →
    n ≡ length (nor_places (before ++ i ∷ []))
no_more laws before i n none count =
    count ∙ ap length (sym (laws.nors_push before i ∙ ap (λ (b : Bool). nor_places before ++ cond b (length before ∷ []) []) none ∙ append-nil (nor_places before)))

stands-push : WriteLaws → (cells : ℕ) (before : List Instr) (d : Drawn) (i : Instr) → Stands cells before d →
    Stands cells (before ++ i ∷ []) (drawn_after d i)
stands-push laws cells before d (Init cs) h = record {
  long = length-emptied cs d.held ∙ h.long;
  count = no_more laws before (Init cs) (length d.kids) refl h.count;
  holds = λ c lt.
      emptied_there cs d.held c ∙ ap (λ (o : Option ℕ). cond (has c cs) None o) (h.holds c lt) ∙ sym (last_gate-push laws before (Init cs) c);
}
stands-push laws cells before d (Nor t ins) h =
    let n = length d.kids in
    record {
      long = length-set d.held t (Some n) ∙ h.long;
      count =
          let more : length (nor_places (before ++ Nor t ins ∷ [])) ≡ length (nor_places before) + 1 =
          ap length (laws.nors_push before (Nor t ins)) ∙ length-append (nor_places before) (length before ∷ []) in
          omega (arith, more, h.count, length-append d.kids (gates_held d.held [] (operands ins) ∷ []));
      holds = λ c lt.
          put_there d.held t c (Some n) (omega (arith, lt, h.long))
          ∙ ap (λ (o : Option ℕ). cond (has c (t ∷ [])) (Some n) o) (h.holds c lt)
          ∙ ap (λ (m : ℕ). cond (has c (t ∷ [])) (Some m) (last_gate before c)) h.count
          ∙ sym (last_gate-push laws before (Nor t ins) c);
    }
stands-push laws cells before d (Rm3 p q z) h = record {
  long = length-emptied (z ∷ []) d.held ∙ h.long;
  count = no_more laws before (Rm3 p q z) (length d.kids) refl h.count;
  holds = λ c lt.
      emptied_there (z ∷ []) d.held c ∙ ap (λ (o : Option ℕ). cond (has c (z ∷ [])) None o) (h.holds c lt)
      ∙ sym (last_gate-push laws before (Rm3 p q z) c);
}

-- ---- all instructions

-- the instruction names cells below this number
abbrev pub NamesBelow : ℕ → Instr → Type 0
NamesBelow cells i = All (λ c. c < cells) (names i)

kids-all : WriteLaws → (cells : ℕ) (before is : List Instr) (d : Drawn) → Stands cells before d → All (NamesBelow cells) is →
    (drawn_from d is).kids ≡ d.kids ++ kids_from before is
kids-all laws cells before [] d h small = sym (append-nil d.kids)
kids-all laws cells before (i ∷ is) d h small =
    kids-all laws cells (before ++ i ∷ []) is (drawn_after d i) (stands-push laws cells before d i h) (All-tail (NamesBelow cells) i is small)
    ∙ ap (λ (ks : List (List ℕ)). ks ++ kids_from (before ++ i ∷ []) is) (kids-push cells before d i h (All-head (NamesBelow cells) i is small))
    ∙ append_assoc d.kids (kids_at before i) (kids_from (before ++ i ∷ []) is)

stands-all : WriteLaws → (cells : ℕ) (before is : List Instr) (d : Drawn) → Stands cells before d →
    Stands cells (before ++ is) (drawn_from d is)
stands-all laws cells before [] d h = subst (λ (js : List Instr). Stands cells js d) (sym (append-nil before)) h
stands-all laws cells before (i ∷ is) d h =
    subst (λ (js : List Instr). Stands cells js (drawn_from (drawn_after d i) is)) (append_assoc before (i ∷ []) is)
    (stands-all laws cells (before ++ i ∷ []) is (drawn_after d i) (stands-push laws cells before d i h))

abbrev graph_from : List (List ℕ) → List ℕ → GraphView
graph_from kids roots = record { kids = kids; roots = roots }

-- the graph that is drawn of a program is that of its NORs
pub drawn_graph : (p : ProgramView) → WriteLaws → IsProgram p →
    record { kids = (drawn p).kids; roots = gates_held (drawn p).held [] (cells_of p.outputs) } ≡ nor_graph_of p
drawn_graph p laws valid =
    let start : Stands p.cells [] (record { kids = []; held = replicate p.cells None }) = record {
      long = length-replicate p.cells None;
      count = refl;
      holds = λ c lt. get_or-replicate p.cells c None None lt;
    } in
    let small : All (NamesBelow p.cells) p.instrs =
    All-weaker (IsValid p.target p.cells) (NamesBelow p.cells) (λ i v. v.within) p.instrs valid.sound.instrs in
    let stands : Stands p.cells p.instrs (drawn p) = stands-all laws p.cells [] p.instrs _ start in
    let kids : (drawn p).kids ≡ kids_from [] p.instrs = kids-all laws p.cells [] p.instrs _ start small in
    let roots : gates_held (drawn p).held [] (cells_of p.outputs) ≡ gates_in p.instrs [] (cells_of p.outputs) =
    gates_same p.cells (drawn p).held p.instrs [] (cells_of p.outputs) stands.holds valid.sound.outputs in
    ap (λ (ks : List (List ℕ)). graph_from ks (gates_held (drawn p).held [] (cells_of p.outputs))) kids
    ∙ ap (λ (rs : List ℕ). graph_from (kids_from [] p.instrs) rs) roots
