-- What a whole draft of a run is: valid, and all that a schedule promises.
use Rattle.std.proofs.Common.{◌≡◌, ◌≢◌, ℕ, zero, suc, ◌+◌, ◌-◌, ◌<◌, ◌≤◌, min, Bool, true, false, ◌&&◌, leb, ltb, List, [], ◌∷◌, ◌++◌, length, take, drop, get_or, Some, refl, sym, ap, ◌∙◌, subst, arith}
use Rattle.std.specs.Prelude.{All, AllPairs, count_by, slice_get, slice_index}
use Rattle.std.specs.List.{list_any}
use Rattle.std.proofs.lemmas.Bool.{and_parts, and_left, lt-leb, ltb-true, not-false}
use Rattle.std.proofs.lemmas.List.{nil_from_length, length-map}
use Rattle.pim_graph.specs.Graphs.{GraphView, has as among}
use Rattle.pim_graph.specs.Orders.{IsReached, order as order_in}
use Rattle.pim_graph.specs.Orders.IsReached.{as_root}
use Rattle.pim_graph.specs.Peaks.{IsPlaced, needed}
use Rattle.pim_isa.specs.declared.draft.TheConstants.{MAX_PORTS, MAX_INSTRS}
use Rattle.pim_isa.specs.declared.instr.Instr.{Instr}
use Rattle.pim_isa.specs.declared.instr.Instr.TheVariants as instr
use Rattle.pim_isa.specs.declared.port.Port.{Port}
use Rattle.pim_isa.specs.declared.target.Target.{Target}
use Rattle.pim_isa.specs.declared.target.Target.TheVariants.{Magic}
use Rattle.pim_isa.specs.Laws.{ExecLaws, WriteLaws}
use Rattle.pim_isa.specs.PortLists.{input_ports, labels_of}
use Rattle.pim_isa.specs.Primed.{IsPrimed, is_init, last_write_is_init}
use Rattle.pim_isa.specs.Programs.{ProgramView, PortsView}
use Rattle.pim_isa.specs.Realizes.{Realizes}
use Rattle.pim_isa.specs.Sound.{IsSound, IsValid, cells_of}
use Rattle.pim_isa.specs.Writes.{nor_places}
use Rattle.pim_nor.specs.GateGraphs.{graph_of, gates_read}
use Rattle.pim_nor.specs.Laws.{HasGateValues}
use Rattle.pim_nor.specs.Network.{NorView, IsNetwork, nor_count, IsOfFirst, AreOfFirst}
use Rattle.pim_nor.specs.Values.{out_values}
use Rattle.pim_nor.specs.declared.network.Pin.{Pin}
use Rattle.pim_simpler.specs.Batching.{Batched, is_work}
use Rattle.pim_simpler.specs.Following.{Follows, nors_of}
use Rattle.pim_simpler.specs.Needs.{order_of}
use Rattle.pim_simpler.specs.inner.Runs.{Plan, Drafted, cells_within}
use Rattle.pim_simpler.specs.inner.Slots.{Slot, held, is_outside, start, Works}
use Rattle.pim_simpler.proofs.Batches.{Keeping, Good, GoodInit, GoodNor, good-run}
use Rattle.pim_simpler.proofs.Counts.{nors_counted}
use Rattle.pim_simpler.proofs.Cycles.{quick}
use Rattle.pim_simpler.proofs.Stages.{All-among}
use Rattle.pim_simpler.proofs.Followed.{SoFar, SoFar-run, SoFar-start, AllStand-from}
use Rattle.pim_simpler.proofs.Inits.{one_init}
use Rattle.pim_simpler.proofs.Marks.{Apart-start, Works-start}
use Rattle.pim_simpler.proofs.Realized.{realized}
use Rattle.pim_simpler.proofs.Valid.{valid-run, writes_work, few-run, operands_below, last_works}

-- ---- the plan

pub planned : (n : NorView) (g : GraphView) (items : List ℕ) (most budget end : ℕ) → g ≡ graph_of n → IsNetwork n → IsPlaced g items → ((x : ℕ) → IsReached g x → among items x ≡ true) →
    ((p : ℕ) → p < length items → needed g (drop (p + 1) items) (slice_index items p) ≡ true) →
    ((p : ℕ) → p < length items → count_by (needed g (drop p items)) (take p items) + 1 ≤ most) →
    n.inputs + most ≤ budget → most ≤ length n.gates → end ≡ n.inputs + min (budget - n.inputs) (length n.gates) → Plan n items end
planned n g items most budget end graph network placed complete needs bounds enough few cells =
    let P : GraphView → Type 0 = λ h. IsPlaced h items in
    let C : GraphView → Type 0 = λ h. (x : ℕ) → IsReached h x → among items x ≡ true in
    let N : GraphView → Type 0 = λ h. (p : ℕ) → p < length items → needed h (drop (p + 1) items) (slice_index items p) ≡ true in
    let B : GraphView → Type 0 = λ h. (p : ℕ) → p < length items → count_by (needed h (drop p items)) (take p items) + 1 ≤ most in
    let bound = subst B graph bounds in
    let every = subst C graph complete in
    record {
      network = network;
      inputs_within = omega arith;
      placed = subst P graph placed;
      roots_there = λ x root. every x (as_root root);
      needed_later = subst N graph needs;
      enough = λ p within. omega (arith, bound p within);
    }

-- the same from what the calls before it say
pub ready : (n : NorView) (g : GraphView) (items now : List ℕ) (many most inputs budget : ℕ) → g ≡ graph_of n → IsNetwork n → items ≡ order_in g → length items ≡ many →
    IsPlaced g items → ((x : ℕ) → IsReached g x → among items x ≡ true) →
    ((p : ℕ) → p < many → needed g (drop (p + 1) items) (slice_index items p) ≡ true) → now ≡ items →
    ((p : ℕ) → p < length now → count_by (needed g (drop p now)) (take p now) + 1 ≤ most) → most ≤ length now →
    length (order_in (graph_of n)) ≡ length n.gates → inputs ≡ n.inputs → inputs + most ≤ budget → Plan n (order_of n) (cells_within n budget)
ready n g items now many most inputs budget graph network is counted placed complete needs listed bounds within full count enough =
    let same : items ≡ order_of n = is ∙ ap order_in graph in
    let B : List ℕ → Type 0 = λ xs. (p : ℕ) → p < length xs → count_by (needed g (drop p xs)) (take p xs) + 1 ≤ most in
    let size : length now ≡ length n.gates = ap (λ (xs : List ℕ). length xs) (listed ∙ same) ∙ full in
    let few : most ≤ length n.gates = omega arith in
    let room : n.inputs + most ≤ budget = omega arith in
    let F : List ℕ → Type 0 = λ xs. Plan n xs (cells_within n budget) in
    subst F same (planned n g items most budget (cells_within n budget) graph network placed complete (λ p small. needs p (omega arith)) (subst B listed bounds) room few refl)

-- ---- the ports

input_cell : (c k : ℕ) (labels : List (List ℕ)) (d : ℕ) → k < length (cells_of (input_ports c labels)) → get_or (cells_of (input_ports c labels)) k d ≡ c + k
input_cell c zero [] d small = absurd (omega arith)
input_cell c (suc k) [] d small = absurd (omega arith)
input_cell c zero (l ∷ ls) d small = omega arith
input_cell c (suc k) (l ∷ ls) d small = input_cell (c + 1) k ls d (omega arith) ∙ omega arith

input_count : (c : ℕ) (labels : List (List ℕ)) → length (cells_of (input_ports c labels)) ≡ length labels
input_count c [] = refl
input_count c (l ∷ ls) = ap suc (input_count (c + 1) ls)

pub port_count : (c : ℕ) (labels : List (List ℕ)) → length (input_ports c labels) ≡ length labels
port_count c [] = refl
port_count c (l ∷ ls) = ap suc (port_count (c + 1) ls)

label_count : (ports : List Port) → length (labels_of ports) ≡ length ports
label_count [] = refl
label_count (p ∷ ps) = ap suc (label_count ps)

outs_of_first : (inputs gates : ℕ) (outs : List Pin) → ((k : ℕ) (d : Pin) → k < length outs → IsOfFirst inputs gates (get_or outs k d)) → AreOfFirst inputs gates outs
outs_of_first inputs gates [] each = tt
outs_of_first inputs gates (o ∷ os) each = (each 0 o (omega arith), outs_of_first inputs gates os (λ k d small. each (suc k) d (omega arith)))

-- ---- the last instruction

last_parts : (is : List Instr) (k : ℕ) (i : Instr) → slice_get is k ≡ Some i → k + 1 ≡ length is → (drop k is ≡ i ∷ []) × (take k is ++ i ∷ [] ≡ is)
last_parts [] k i at last = cc
last_parts (x ∷ xs) zero i at last =
    let none : xs ≡ [] = nil_from_length xs (omega arith) in
    let same : x ≡ i = cc in
    (ap (λ (ys : List Instr). x ∷ ys) none ∙ ap (λ (y : Instr). y ∷ []) same, ap (λ (y : Instr). y ∷ []) (sym same) ∙ ap (λ (ys : List Instr). x ∷ ys) (sym none))
last_parts (x ∷ xs) (suc k) i at last =
    let rest = last_parts xs k i at (omega arith) in
    (rest.0, ap (λ (ys : List Instr). x ∷ ys) rest.1)

-- ---- small facts

held_works : (work : ℕ → Bool) (slots : ℕ → Slot) → Works work slots → (c g : ℕ) → slots c ≡ held g → work c ≡ true
held_works work slots works c g e = not-false (work c) (sym (works c) ∙ ap is_outside e)

valid_target : (target : Target) (cells : ℕ) (is : List Instr) → target ≡ Magic → All (IsValid Magic cells) is → All (IsValid target cells) is
valid_target target cells is same all = let V : Target → Type 0 = λ t. All (IsValid t cells) is in subst V (sym same) all

-- ---- all that a schedule promises

module _ (n : NorView) (ports : PortsView) (order : List ℕ) (end : ℕ) (p : ProgramView) (plan : Plan n order end) (same_inputs : length ports.inputs ≡ n.inputs) (same_outputs : length ports.outputs ≡ length n.outs) (d : Drafted n ports order end p) where
  input_size : length p.inputs ≡ n.inputs
  input_size = ap (λ (ps : List Port). length ps) d.inputs ∙ (port_count 0 ports.inputs ∙ same_inputs)

  no_input : (c : ℕ) → c < n.inputs → (leb n.inputs c && ltb c end) ≡ false
  no_input c small = and_left (leb n.inputs c) (ltb c end) (lt-leb n.inputs c small)

  work_below : (c : ℕ) → (leb n.inputs c && ltb c end) ≡ true → c < end
  work_below c work = ltb-true c end (and_parts (leb n.inputs c) (ltb c end) work).1

  pub sound_draft : IsSound p
  sound_draft =
      let cells : p.cells ≡ end = d.cells in
      let enough : n.inputs ≤ end = plan.inputs_within in
      let I : List Port → Type 0 = λ ps. All (λ c. c < p.cells) (cells_of ps) in
      let D : List Port → Type 0 = λ ps. AllPairs ◌≢◌ (cells_of ps) in
      let V : ℕ → Type 0 = λ e. All (IsValid Magic e) p.instrs in
      let ends : Works (λ c. leb n.inputs c && ltb c end) d.last = last_works d.run (λ c. leb n.inputs c && ltb c end) (Works-start n.inputs end) in
      let outs : All (λ (c : ℕ). c < end) (cells_of p.outputs) =
      operands_below d.last n.inputs (length n.gates) end enough (λ c g e. work_below c (held_works (λ c. leb n.inputs c && ltb c end) d.last ends c g e)) (cells_of p.outputs) n.outs d.outs
      (outs_of_first n.inputs (length n.gates) n.outs plan.network.outs_there) in
      let O : ℕ → Type 0 = λ e. All (λ (c : ℕ). c < e) (cells_of p.outputs) in
      let T : ℕ → Type 0 = λ e. All (IsValid Magic e) p.instrs in
      let valid : All (IsValid Magic end) p.instrs = valid-run d.run (λ c. leb n.inputs c && ltb c end) end enough work_below no_input (Works-start n.inputs end) in
      record {
        inputs = subst I (sym d.inputs) (λ k e small. omega (arith, input_cell 0 k ports.inputs e small, input_count 0 ports.inputs));
        distinct = subst D (sym d.inputs) (λ i j e before small same. omega (arith, input_cell 0 i ports.inputs e (omega arith), input_cell 0 j ports.inputs e small));
        outputs = subst O (sym cells) outs;
        instrs = valid_target p.target p.cells p.instrs d.target (subst T (sym cells) valid);
      }

  pub few_ports : length p.inputs + length p.outputs ≤ MAX_PORTS
  few_ports =
      let ins : n.inputs ≤ 1048576 = plan.network.inputs_fit in
      let outs : length n.outs ≤ 1048576 = plan.network.outs_fit in
      omega (arith, input_size, label_count p.outputs, ap (λ (ls : List (List ℕ)). length ls) d.labels)

  pub few_instrs : length order ≤ length n.gates → length p.instrs ≤ MAX_INSTRS
  few_instrs few =
      let gates : length n.gates ≤ 3145730 = plan.network.gates_fit in
      omega (arith, few-run d.run)

  so_far : WriteLaws → SoFar n p.instrs order d.last
  so_far laws = SoFar-run laws d.run [] (SoFar-start n n.inputs end)

  pub primed_draft : WriteLaws → IsPrimed p.instrs
  primed_draft laws = (so_far laws).are_primed

  pub follows_draft : WriteLaws → Follows p n order
  follows_draft laws =
      let so = so_far laws in
      record {
        count = so.count;
        reads = so.reads;
        outs = AllStand-from n (nors_of n order) p.instrs d.last so.cells (cells_of p.outputs) n.outs d.outs;
      }

  keeping : Keeping n (is_work p) [] [] order (start n.inputs end)
  keeping =
      let K : ℕ → ℕ → Type 0 = λ i e. Keeping n (λ c. leb i c && ltb c e) [] [] order (start n.inputs end) in
      let first : K n.inputs end = record {
        so_far = SoFar-start n n.inputs end;
        apart = Apart-start n order n.inputs end;
        works = Works-start n.inputs end;
        inputs = no_input;
      } in
      let A : ℕ → Type 0 = λ i. K i end in
      let B : ℕ → Type 0 = λ e. K (length p.inputs) e in
      subst B (sym d.cells) (subst A (sym input_size) first)

  pub batched_draft : WriteLaws → Batched p
  batched_draft laws =
      let outs : List ℕ = cells_of p.outputs in
      let good : (k : ℕ) (i : Instr) → slice_get p.instrs k ≡ Some i → Good (is_work p) outs (take k p.instrs) i (drop k p.instrs) =
      good-run laws d.run (is_work p) [] outs d.outs keeping in
      record {
        named = λ k cells c at. (let g : GoodInit (is_work p) outs (take k p.instrs) cells (drop k p.instrs) = good k (instr.Init cells) at in g.named c);
        not_again = λ k cells c at there. (let g : GoodInit (is_work p) outs (take k p.instrs) cells (drop k p.instrs) = good k (instr.Init cells) at in g.not_again c there);
        target = λ k t ins at. (let g : GoodNor (is_work p) outs (take k p.instrs) t (drop k p.instrs) = good k (instr.Nor t ins) at in g.target);
        least = λ k t ins c at below. (let g : GoodNor (is_work p) outs (take k p.instrs) t (drop k p.instrs) = good k (instr.Nor t ins) at in g.least c below);
        last = λ k cells at ends.
            let g : GoodInit (is_work p) outs (take k p.instrs) cells (drop k p.instrs) = good k (instr.Init cells) at in
            let parts = last_parts p.instrs k (instr.Init cells) at ends in
            let P : List Instr → Type 0 = λ is. list_any (last_write_is_init false is) outs ≡ true in
            subst P parts.1 (g.last parts.0);
      }

  pub one_init_draft : n.inputs + length order ≤ end → count_by is_init p.instrs ≤ 1
  one_init_draft enough = one_init d.run n.inputs end (λ c. refl) enough

  pub quick_draft : (nors : ℕ) → length (nor_places p.instrs) ≡ nors → n.inputs + length order ≤ end → length p.instrs ≤ nors + 1
  quick_draft nors few enough =
      let V : Target → Type 0 = λ t. All (IsValid t p.cells) p.instrs in
      quick p.cells nors p.instrs (subst V d.target sound_draft.instrs) few (one_init_draft enough)

  pub realizes_draft : ExecLaws → WriteLaws → HasGateValues n → Realizes p ports.inputs (out_values n)
  realizes_draft exec_laws write_laws values =
      realized exec_laws write_laws n p ports.inputs order plan.network values sound_draft d.inputs same_inputs (primed_draft write_laws) (follows_draft write_laws)
      (λ k c i at small. writes_work d.run (λ c. leb n.inputs c && ltb c end) (Works-start n.inputs end) k c i at (no_input c small))

-- each gate of the network stands in its order, so that the NORs of the order are the network's
pub counted : (n : NorView) (g : GraphView) (items : List ℕ) → g ≡ graph_of n → items ≡ order_in g → IsPlaced (graph_of n) (order_of n) → ((x : ℕ) → IsReached g x → among items x ≡ true) →
    ((x : ℕ) → x < length n.gates → IsReached (graph_of n) x) → length (nors_of n (order_of n)) ≡ nor_count n.gates
counted n g items graph is placed complete reached =
    let C : GraphView → Type 0 = λ h. (x : ℕ) → IsReached h x → among items x ≡ true in
    let all : (x : ℕ) → IsReached (graph_of n) x → among items x ≡ true = subst C graph complete in
    let same : items ≡ order_of n = is ∙ ap order_in graph in
    nors_counted n (order_of n) placed.once
    (λ x there. let within : x < length (graph_of n).kids = All-among (λ (y : ℕ). y < length (graph_of n).kids) (order_of n) placed.there x there in omega (arith, within, length-map n.gates gates_read))
    (λ x small. ap (λ (xs : List ℕ). among xs x) (sym same) ∙ all x (reached x small))
