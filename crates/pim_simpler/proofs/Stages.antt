-- A run of the loop over an order, place by place.
use Rattle.std.proofs.Common.{◌≡◌, ◌⊎◌, ℕ, zero, suc, ◌+◌, ◌-◌, ◌<◌, ◌≤◌, Bool, true, false, ◌||◌, ◌&&◌, not, eqb, leb, ltb, cond, List, [], ◌∷◌, ◌++◌, length, map, take, drop, set, fold, inl, inr, refl, sym, ap, ◌∙◌, subst, arith, append_assoc}
use mathlib.Core.Path.{fun_ext}
use Rattle.std.specs.Prelude.{All, count_by, filter, slice_index}
use Rattle.std.specs.List.{range_with_len}
use Rattle.std.proofs.lemmas.Bool.{cases_Bool, cases_eq, cases_lt, cond_both, false≢true, or_cases, or_parts, or_left, or_right, eq-eqb, ne_eqb, lt-ltb, le-leb, and_from, eqb-true, eqb-false, MatchBool-at_true, MatchBool-at_false}
use Rattle.std.proofs.lemmas.List.Elements.{All-nil, All-cons, All-head, All-tail, All-take}
use Rattle.std.proofs.lemmas.List.{append-nil, length-map, drop_more, take_more, take_all, drop_all, get_or-set_same, get_or-set_other, length-set, nil_from_length, get_or_past}
use Rattle.std.proofs.lemmas.List.Sums.{length-filter}
use Rattle.pim_graph.specs.Graphs.{GraphView, has as among, kids_of}
use Rattle.pim_graph.specs.Peaks.{needed, read_by}
use Rattle.pim_graph.specs.Readers.{CountsReads, occurrences, reads, still_needed}
use Rattle.pim_isa.specs.PortLists.{input_ports, labels_of}
use Rattle.pim_isa.specs.Programs.{ProgramView, PortsView}
use Rattle.pim_isa.specs.Sound.{cells_of}
use Rattle.pim_isa.specs.declared.target.Target.TheVariants.{Magic}
use Rattle.pim_isa.specs.declared.instr.Instr.{Instr}
use Rattle.pim_isa.specs.declared.instr.Instr.TheVariants as instr
use Rattle.pim_isa.specs.Validity.{has, is_rising}
use Rattle.pim_nor.specs.GateGraphs.{graph_of, gates_read, with_gate}
use Rattle.pim_nor.specs.Network.{NorView, is_nor, pins}
use Rattle.pim_nor.specs.declared.network.Pin.{Pin}
use Rattle.pim_nor.specs.declared.network.Pin.TheVariants.{Input, Gate as Place}
use Rattle.pim_nor.specs.declared.network.Gate.{Gate}
use Rattle.pim_nor.specs.declared.network.Gate.TheVariants.{One, Not, Nor, Nor3, Nor4}
use Rattle.pim_simpler.specs.Following.{gate_at}
use Rattle.pim_simpler.specs.inner.Kept.{FreeView, ScheduleView, IsRefilled, Refills, placed, freed, after_read, after_reads, with_instrs, cell_of, instrs_of, output_ports}
use Rattle.pim_simpler.specs.inner.Slots.{Slot, primed, held, expired, outside, is_primed, is_expired, is_outside, start, refilled, put, kept, settled, AllHold, IsLeast, Works}
use Rattle.pim_simpler.specs.inner.Runs.{Run, IsNext, Plan, Begins, Ran, Drafted}
use Rattle.pim_simpler.specs.inner.Runs.Run.{done, refill, nor, one}
use Rattle.pim_simpler.proofs.Inits.{pigeons}
use Rattle.pim_simpler.proofs.Marks.{kept-held, kids-gate, Works-refill, Works-put, Works-start}
use Rattle.pim_simpler.proofs.Placing.{among-append, among-push}
use Rattle.pim_simpler.proofs.Rising.{Rises, has-permuted, has-range, Once-range}
use Rattle.pim_simpler.proofs.Shows.{Shows, Shows-refill, Shows-least, Shows-place, Shows-wanted, Shows-free, free_slot}
use Rattle.pim_simpler.proofs.ReadSteps.{reads_left}

-- ---- all reads of a gate

kept-same : (n : NorView) (w v : ℕ → Bool) (s : Slot) → ((g : ℕ) → s ≡ held g → v g ≡ w g) → kept n v s ≡ kept n w s
kept-same n w v primed same = refl
kept-same n w v (held g) same = ap (λ (b : Bool). cond b (held g) (cond (is_nor (gate_at n g)) expired primed)) (same g refl)
kept-same n w v expired same = refl
kept-same n w v outside same = refl

-- what the cells are after some reads, where they were `base` before these
pub record Read (n : NorView) (placed_before : List ℕ) (base : ℕ → Slot) (s : ScheduleView) : Type 0 where
  pub slots : ℕ → Slot
  pub shows : Shows n placed_before (still_needed (graph_of n) s.left) s.free s.cells slots
  pub settle : (c : ℕ) → slots c ≡ kept n (still_needed (graph_of n) s.left) (base c)

kept-gone : (n : NorView) (v : ℕ → Bool) (b0 : Slot) (g : ℕ) → b0 ≡ held g → v g ≡ false → kept n v b0 ≡ cond (is_nor (gate_at n g)) expired primed
kept-gone n v b0 g is gone =
    ap (kept n v) is ∙ ap (λ (b : Bool). cond b (held g) (cond (is_nor (gate_at n g)) expired primed)) gone

kept-back : (n : NorView) (w : ℕ → Bool) (s : Slot) (g : ℕ) → kept n w s ≡ held g → s ≡ held g
kept-back n w s g e = (kept-held n w s g e).0

read-one : (before : List ℕ) (base : ℕ → Slot) (s : ScheduleView) (x : ℕ) → among before x ≡ true → 0 < slice_index s.left x → Read s.net before base s → Read s.net before base (after_read s x)
read-one before base s x was some now =
    let n : NorView = s.net in
    let left : List ℕ = set s.left x (slice_index s.left x - 1) in
    let w : ℕ → Bool = still_needed (graph_of n) s.left in
    let v : ℕ → Bool = still_needed (graph_of n) left in
    let wants : w x ≡ true = or_left (ltb 0 (slice_index s.left x)) (among (graph_of n).roots x) (lt-ltb 0 (slice_index s.left x) some) in
    let others : (h : ℕ) → (h ≡ x → ⊥) → v h ≡ w h =
    λ h apart. ap (λ (k : ℕ). ltb 0 k || among (graph_of n).roots h) (get_or-set_other s.left x h (slice_index s.left x - 1) 0 apart) in
    let t : ℕ = slice_index s.cells x in
    let at : now.slots t ≡ held x = now.shows.holds x was wants in
    elim (cases_Bool (v x)) [
      | inl stays ↦
          let same : (h : ℕ) → v h ≡ w h = λ h. elim (cases_eq h x) [ inl e ↦ ap v e ∙ (stays ∙ (sym wants ∙ ap w (sym e))) | inr apart ↦ others h apart ] in
          let free_is : s.free ≡ (after_read s x).free = sym (ap (λ (b : Bool). cond b s.free (freed (is_nor (gate_at n x)) t s.free)) stays) in
          let F : FreeView → Type 0 = λ f. Shows n before v f s.cells now.slots in
          record {
            slots = now.slots;
            shows = subst F free_is (Shows-wanted n before w v s.free s.cells now.slots (λ h was_h. same h) now.shows);
            settle = λ c. now.settle c ∙ sym (kept-same n w v (base c) (λ h e. same h));
          }
      | inr gone ↦
          let b : Bool = is_nor (gate_at n x) in
          let free_is : freed b t s.free ≡ (after_read s x).free = sym (ap (λ (d : Bool). cond d s.free (freed b t s.free)) gone) in
          let F : FreeView → Type 0 = λ f. Shows n before v f s.cells (free_slot t b now.slots) in
          record {
            slots = free_slot t b now.slots;
            shows = subst F free_is (Shows-free n before w v s.free s.cells now.slots x b now.shows was wants gone others);
            settle = λ c.
                elim (cases_Bool (eqb t c)) [
                  | inl same ↦
                      let here : t ≡ c = eqb-true t c same in
                      let was_held : base c ≡ held x = kept-back n w (base c) x (sym (now.settle c) ∙ (ap now.slots (sym here) ∙ at)) in
                      ap (λ (d : Bool). cond d (cond b expired primed) (now.slots c)) same ∙ sym (kept-gone n v (base c) x was_held gone)
                  | inr other ↦
                      let apart : (h : ℕ) → base c ≡ held h → h ≡ x → ⊥ = λ h e same.
                      let still : now.slots c ≡ held x = now.settle c ∙ (ap (kept n w) (e ∙ ap (λ (y : ℕ). held y) same) ∙ ap (λ (d : Bool). cond d (held x) (cond b expired primed)) wants) in
                      false≢true (sym other ∙ eq-eqb t c (now.shows.is_there c x still)) in
                      ap (λ (d : Bool). cond d (cond b expired primed) (now.slots c)) other ∙ (now.settle c ∙ sym (kept-same n w v (base c) (λ h e. others h (apart h e))))
                ];
          }
    ]

pub record AfterReads (before : List ℕ) (base : ℕ → Slot) (s t : ScheduleView) (all : List ℕ) : Type 0 where
  pub read : Read s.net before base t
  pub net : t.net ≡ s.net
  pub cells : t.cells ≡ s.cells
  pub draft : t.draft ≡ s.draft
  pub long : length t.left ≡ length s.left
  pub left : (x : ℕ) → slice_index t.left x + occurrences all x ≡ slice_index s.left x

reads_done : (before : List ℕ) (base : ℕ → Slot) (all : List ℕ) (s : ScheduleView) → Read s.net before base s →
    ((x : ℕ) → among all x ≡ true → among before x ≡ true) → ((x : ℕ) → occurrences all x ≤ slice_index s.left x) →
    AfterReads before base s (fold after_read s all) all
reads_done before base [] s now were enough = record {
  read = now;
  net = refl;
  cells = refl;
  draft = refl;
  long = refl;
  left = λ x. omega arith;
}
reads_done before base (x ∷ xs) s now were enough =
    let here : occurrences (x ∷ xs) x ≡ 1 + occurrences xs x = ap (λ (b : Bool). cond b 1 0 + occurrences xs x) (eq-eqb x x refl) in
    let some : 0 < slice_index s.left x = omega (arith, here, enough x) in
    let within : x < length s.left = elim (cases_lt x (length s.left)) [ inl below ↦ below | inr past ↦ absurd (omega (arith, some, get_or_past s.left x 0 past)) ] in
    let s1 : ScheduleView = after_read s x in
    let rest : AfterReads before base s1 (fold after_read s1 xs) xs =
    reads_done before base xs s1 (read-one before base s x (were x (or_left (eqb x x) (among xs x) (eq-eqb x x refl))) some now)
    (λ y there. were y (or_right (eqb x y) (among xs y) there)) (reads_left s.left xs x enough) in
    record {
      read = rest.read;
      net = rest.net;
      cells = rest.cells;
      draft = rest.draft;
      long = rest.long ∙ length-set s.left x (slice_index s.left x - 1);
      left = λ y.
          elim (cases_eq y x) [
            | inl same ↦
                let P : ℕ → Type 0 = λ z. slice_index (fold after_read s1 xs).left z + occurrences (x ∷ xs) z ≡ slice_index s.left z in
                let one : slice_index (set s.left x (slice_index s.left x - 1)) x ≡ slice_index s.left x - 1 = get_or-set_same s.left x (slice_index s.left x - 1) 0 within in
                subst P (sym same) (omega (arith, here, one, rest.left x, some))
            | inr apart ↦
                let before_is : occurrences (x ∷ xs) y ≡ 0 + occurrences xs y = ap (λ (b : Bool). cond b 1 0 + occurrences xs y) (ne_eqb x y (λ e. apart (sym e))) in
                let one : slice_index (set s.left x (slice_index s.left x - 1)) y ≡ slice_index s.left y = get_or-set_other s.left x y (slice_index s.left x - 1) 0 apart in
                omega (arith, before_is, one, rest.left y)
          ];
    }

-- ---- lists and counts

pub All-among : (P : ℕ → Type 0) (xs : List ℕ) → All P xs → (c : ℕ) → among xs c ≡ true → P c
All-among P [] all c there = absurd (false≢true there)
All-among P (x ∷ xs) all c there =
    elim (or_cases (eqb x c) (among xs c) there) [
      | inl same ↦ subst P (eqb-true x c same) (All-head P x xs all)
      | inr later ↦ All-among P xs (All-tail P x xs all) c later
    ]

All-from_among : (P : ℕ → Type 0) (xs : List ℕ) → ((c : ℕ) → among xs c ≡ true → P c) → All P xs
All-from_among P [] each = All-nil P
All-from_among P (x ∷ xs) each =
    All-cons P x xs (each x (or_left (eqb x x) (among xs x) (eq-eqb x x refl)))
    (All-from_among P xs (λ c later. each c (or_right (eqb x c) (among xs c) later)))

occurrences-none : (xs : List ℕ) (c : ℕ) → among xs c ≡ false → occurrences xs c ≡ 0
occurrences-none [] c none = refl
occurrences-none (x ∷ xs) c none =
    let both = or_parts (eqb x c) (among xs c) none in
    ap (λ (b : Bool). cond b 1 0 + occurrences xs c) both.0 ∙ (ap (λ (k : ℕ). 0 + k) (occurrences-none xs c both.1) ∙ omega arith)

-- what is needed later is needed from one gate earlier on
or_more : (a b c : Bool) → (b || c) ≡ true → ((a || b) || c) ≡ true
or_more true b c e = refl
or_more false b c e = e

needed-more : (g : GraphView) (x : ℕ) (later : List ℕ) (h : ℕ) → needed g later h ≡ true → needed g (x ∷ later) h ≡ true
needed-more g x later h e = or_more (among (kids_of g x) h) (read_by g later h) (among g.roots h) e

-- what a gate reads is needed from it on
or_first : (a b c : Bool) → a ≡ true → ((a || b) || c) ≡ true
or_first a b c e = ap (λ (d : Bool). (d || b) || c) e

needed-child : (g : GraphView) (x : ℕ) (later : List ℕ) (h : ℕ) → among (kids_of g x) h ≡ true → needed g (x ∷ later) h ≡ true
needed-child g x later h e = or_first (among (kids_of g x) h) (read_by g later h) (among g.roots h) e

-- the counts tell what is needed
abbrev pub TellsRead : Type 0
TellsRead = (g : GraphView) (readers : List ℕ) (x : ℕ) → read_by g readers x ≡ ltb 0 (reads g readers x)

told-needed : TellsRead → (g : GraphView) (readers left : List ℕ) → CountsReads g readers left → (x : ℕ) → x < length g.kids → still_needed g left x ≡ needed g readers x
told-needed tells g readers left counts x within =
    ap (λ (k : ℕ). ltb 0 k || among g.roots x) (counts.counts x within) ∙ ap (λ (b : Bool). b || among g.roots x) (sym (tells g readers x))

-- ---- what a gate reads is held

among-fold : (acc : List ℕ) (ps : List Pin) (h : ℕ) → among acc h ≡ true → among (fold with_gate acc ps) h ≡ true
among-fold acc [] h there = there
among-fold acc (Input k ∷ ps) h there = among-fold acc ps h there
among-fold acc (Place i ∷ ps) h there =
    among-fold (with_gate acc (Place i)) ps h
    (cond_both (among acc i) acc (acc ++ i ∷ []) (λ (xs : List ℕ). among xs h ≡ true) (λ _. there) (λ _. among-append acc (i ∷ []) h ∙ or_left (among acc h) (eqb i h || false) there))

among-with : (acc : List ℕ) (h : ℕ) → among (with_gate acc (Place h)) h ≡ true
among-with acc h = cond_both (among acc h) acc (acc ++ h ∷ []) (λ (xs : List ℕ). among xs h ≡ true) (λ there. there) (λ _. among-push acc h)

all_hold : (slots : ℕ → Slot) (cells : List ℕ) (acc : List ℕ) (ps : List Pin) →
    ((h : ℕ) → among (fold with_gate acc ps) h ≡ true → slots (slice_index cells h) ≡ held h) → AllHold slots (map (cell_of cells) ps) ps
all_hold slots cells acc [] each = tt
all_hold slots cells acc (Input k ∷ ps) each = (refl, all_hold slots cells acc ps each)
all_hold slots cells acc (Place h ∷ ps) each =
    (each h (among-fold (with_gate acc (Place h)) ps h (among-with acc h)), all_hold slots cells (with_gate acc (Place h)) ps each)

-- the step of a run that executes a gate
emit : (n : NorView) (slots last : ℕ → Slot) (before later : List ℕ) (g t : ℕ) (cells : List ℕ) (rest : List Instr) → IsNext n before g later → IsLeast slots t →
    (gate : Gate) → gate_at n g ≡ gate → AllHold slots (map (cell_of cells) (pins gate)) (pins gate) →
    Run n (settled n (needed (graph_of n) later) (put t g slots)) (before ++ g ∷ []) later rest last →
    Run n slots before (g ∷ later) (instrs_of (cell_of cells) t gate ++ rest) last
emit n slots last before later g t cells rest next least One is hold run = one next (ap is_nor is) least run
emit n slots last before later g t cells rest next least (Not a) is hold run =
    nor next (ap is_nor is) least (let P : Gate → Type 0 = λ x. AllHold slots (cell_of cells a ∷ []) (pins x) in subst P (sym is) hold) run
emit n slots last before later g t cells rest next least (Nor a b) is hold run =
    nor next (ap is_nor is) least (let P : Gate → Type 0 = λ x. AllHold slots (cell_of cells a ∷ cell_of cells b ∷ []) (pins x) in subst P (sym is) hold) run
emit n slots last before later g t cells rest next least (Nor3 a b c) is hold run =
    nor next (ap is_nor is) least (let P : Gate → Type 0 = λ x. AllHold slots (cell_of cells a ∷ cell_of cells b ∷ cell_of cells c ∷ []) (pins x) in subst P (sym is) hold) run
emit n slots last before later g t cells rest next least (Nor4 a b c d) is hold run =
    nor next (ap is_nor is) least (let P : Gate → Type 0 = λ x. AllHold slots (cell_of cells a ∷ cell_of cells b ∷ cell_of cells c ∷ cell_of cells d ∷ []) (pins x) in subst P (sym is) hold) run

-- ---- a place of the order

abbrev pub work_cell : ℕ → ℕ → ℕ → Bool
work_cell first end c = leb first c && ltb c end

-- what the schedule keeps where the first p gates were placed
pub record Stage (n : NorView) (order : List ℕ) (end : ℕ) (begin : ProgramView) (p : ℕ) (s : ScheduleView) : Type 0 where
  pub slots : ℕ → Slot
  pub shows : Shows n (take p order) (needed (graph_of n) (drop p order)) s.free s.cells slots
  pub works : Works (work_cell n.inputs end) slots
  pub left : CountsReads (graph_of n) (drop p order) s.left
  pub run : {rest : List Instr} {last : ℕ → Slot} → Run n slots (take p order) (drop p order) rest last →
      Run n (start n.inputs end) [] order (s.draft.instrs ++ rest) last
  pub draft : s.draft ≡ record begin { instrs = s.draft.instrs }
  pub net : s.net ≡ n
  pub long : length s.cells ≡ length n.gates

kept-all : (n : NorView) (w : ℕ → Bool) (s : Slot) → ((g : ℕ) → s ≡ held g → w g ≡ true) → s ≡ kept n w s
kept-all n w primed all = refl
kept-all n w (held g) all = sym (ap (λ (b : Bool). cond b (held g) (cond (is_nor (gate_at n g)) expired primed)) (all g refl))
kept-all n w expired all = refl
kept-all n w outside all = refl

first_and_rest : (xs : List ℕ) → 0 < length xs → xs ≡ slice_index xs 0 ∷ drop 1 xs
first_and_rest [] some = absurd (omega arith)
first_and_rest (x ∷ xs) some = refl

-- the next gate is placed
next_stage : TellsRead → (order : List ℕ) (end : ℕ) (begin : ProgramView) (p : ℕ) (s : ScheduleView) → Plan s.net order end → p < length order → 0 < length s.free.primed →
    Stage s.net order end begin p s → Stage s.net order end begin (p + 1) (after_reads (placed (slice_index order p) s) (slice_index order p))
next_stage tells order end begin p s plan within some stage =
    let n : NorView = s.net in
    let g : GraphView = graph_of n in
    let x : ℕ = slice_index order p in
    let before : List ℕ = take p order in
    let later : List ℕ = drop (p + 1) order in
    let slots : ℕ → Slot = stage.slots in
    let cut : drop p order ≡ x ∷ later = drop_more order p 0 within in
    let more : take (p + 1) order ≡ before ++ x ∷ [] = take_more order p 0 within in
    let t : ℕ = slice_index s.free.primed 0 in
    let first : s.free.primed ≡ t ∷ drop 1 s.free.primed = first_and_rest s.free.primed some in
    let S : List ℕ → Type 0 = λ xs. Shows n before (needed g xs) s.free s.cells slots in
    let shows : Shows n before (needed g (x ∷ later)) s.free s.cells slots = subst S cut stage.shows in
    let C : List ℕ → Type 0 = λ xs. CountsReads g xs s.left in
    let counts : CountsReads g (x ∷ later) s.left = subst C cut stage.left in
    let fresh : among before x ≡ false = plan.placed.once p within in
    let wants_later : needed g later x ≡ true = plan.needed_later p within in
    let kids_many : length g.kids ≡ length n.gates = length-map n.gates gates_read in
    let there : x < length g.kids = plan.placed.there p 0 within in
    let least : IsLeast slots t = Shows-least n before (needed g (x ∷ later)) s.free s.cells slots t (drop 1 s.free.primed) shows first in
    let base : ℕ → Slot = put t x slots in
    let s2 : ScheduleView = placed x s in
    let shows1 : Shows n (before ++ x ∷ []) (needed g (x ∷ later)) s2.free s2.cells base =
    Shows-place n before (needed g (x ∷ later)) s.free s.cells slots t x (drop 1 s.free.primed) shows first fresh (needed-more g x later x wants_later) (omega (arith, stage.long, kids_many, there)) in
    let known : (h : ℕ) → among (before ++ x ∷ []) h ≡ true → h < length g.kids =
    λ h was. All-among (λ (y : ℕ). y < length g.kids) (take (p + 1) order) (All-take (λ (y : ℕ). y < length g.kids) (p + 1) order plan.placed.there) h (ap (λ (xs : List ℕ). among xs h) more ∙ was) in
    let shows2 : Shows n (before ++ x ∷ []) (still_needed g s.left) s2.free s2.cells base =
    Shows-wanted n (before ++ x ∷ []) (needed g (x ∷ later)) (still_needed g s.left) s2.free s2.cells base (λ h was. told-needed tells g (x ∷ later) s.left counts h (known h was)) shows1 in
    let read : Read n (before ++ x ∷ []) base s2 = record {
      slots = base;
      shows = shows2;
      settle = λ c. kept-all n (still_needed g s.left) (base c) (λ h e. shows2.is_wanted c h e);
    } in
    let kids : List ℕ = kids_of g x in
    let earlier : (h : ℕ) → among kids h ≡ true → among before h ≡ true = λ h child. All-among (λ (y : ℕ). among before y ≡ true) kids (plan.placed.after p within) h child in
    let were : (h : ℕ) → among kids h ≡ true → among (before ++ x ∷ []) h ≡ true =
    λ h child. among-append before (x ∷ []) h ∙ or_left (among before h) (eqb x h || false) (earlier h child) in
    let enough : (h : ℕ) → occurrences kids h ≤ slice_index s.left h =
    λ h. elim (cases_Bool (among kids h)) [
      | inl child ↦ omega (arith, counts.counts h (known h (were h child)))
      | inr none ↦ omega (arith, occurrences-none kids h none)
    ] in
    let done_all : AfterReads (before ++ x ∷ []) base s2 (fold after_read s2 kids) kids = reads_done (before ++ x ∷ []) base kids s2 read were enough in
    let s3 : ScheduleView = fold after_read s2 kids in
    let counts3 : CountsReads g later s3.left = record {
      len = done_all.long ∙ counts.len;
      counts = λ h small. omega (arith, done_all.left h, counts.counts h small);
    } in
    let final : ℕ → Slot = settled n (needed g later) base in
    let same : (c : ℕ) → done_all.read.slots c ≡ final c =
    λ c. done_all.read.settle c ∙ kept-same n (needed g later) (still_needed g s3.left) (base c)
    (λ h e. told-needed tells g later s3.left counts3 h (known h (shows1.was_placed c h e))) in
    let shows3 : Shows n (before ++ x ∷ []) (needed g later) s3.free s3.cells done_all.read.slots =
    Shows-wanted n (before ++ x ∷ []) (still_needed g s3.left) (needed g later) s3.free s3.cells done_all.read.slots (λ h was. sym (told-needed tells g later s3.left counts3 h (known h was))) done_all.read.shows in
    let F : (ℕ → Slot) → Type 0 = λ u. Shows n (before ++ x ∷ []) (needed g later) s3.free s3.cells u in
    let T : List ℕ → Type 0 = λ xs. Shows n xs (needed g later) s3.free s3.cells final in
    let next : IsNext n before x later = record {
      there = omega (arith, kids_many, there);
      fresh = fresh;
      reads = plan.network.gates_after x One (omega (arith, kids_many, there));
      needed_later = wants_later;
    } in
    let hold : AllHold slots (map (cell_of s.cells) (pins (gate_at n x))) (pins (gate_at n x)) =
    all_hold slots s.cells [] (pins (gate_at n x))
    (λ h child. let is_kid : among kids h ≡ true = ap (λ (xs : List ℕ). among xs h) (kids-gate n x) ∙ child in
    shows.holds h (earlier h is_kid) (needed-child g x later h is_kid)) in
    let emitted : List Instr = instrs_of (cell_of s.cells) t (gate_at n x) in
    let same_draft : s3.draft ≡ with_instrs s.draft emitted = done_all.draft in
    record {
      slots = final;
      shows = subst T (sym more) (subst F (fun_ext same) shows3);
      works = Works-put n (needed g later) (work_cell n.inputs end) slots t x least.is stage.works;
      left = counts3;
      run = λ {rest} {last} run.
          let Q : List ℕ → Type 0 = λ xs. Run n final xs later rest last in
          let R : List ℕ → Type 0 = λ xs. Run n slots before xs (emitted ++ rest) last in
          let W : List Instr → Type 0 = λ is. Run n (start n.inputs end) [] order is last in
          subst W (sym (append_assoc s.draft.instrs emitted rest) ∙ ap (λ (d : ProgramView). d.instrs ++ rest) (sym same_draft))
          (stage.run (subst R (sym cut) (emit n slots last before later x t s.cells rest next least (gate_at n x) refl hold (subst Q more run))));
      draft = same_draft ∙ (ap (λ (d : ProgramView). with_instrs d emitted) stage.draft ∙ ap (λ (is : List Instr). record begin { instrs = is }) (ap (λ (d : ProgramView). d.instrs) (sym same_draft)));
      net = done_all.net;
      long = ap (λ (xs : List ℕ). length xs) done_all.cells ∙ (length-set s.cells x t ∙ stage.long);
    }

-- ---- what the steps at a place ask for

-- a gate's reads are of gates, and they are still to come
pub stage_reads : (n : NorView) (order : List ℕ) (end : ℕ) (begin : ProgramView) (p : ℕ) (s : ScheduleView) → Plan n order end → p < length order → Stage n order end begin p s →
    All (λ y. y < length n.gates) (kids_of (graph_of n) (slice_index order p)) × ((y : ℕ) → occurrences (kids_of (graph_of n) (slice_index order p)) y ≤ slice_index s.left y)
stage_reads n order end begin p s plan within stage =
    let g : GraphView = graph_of n in
    let x : ℕ = slice_index order p in
    let kids : List ℕ = kids_of g x in
    let C : List ℕ → Type 0 = λ xs. CountsReads g xs s.left in
    let counts : CountsReads g (x ∷ drop (p + 1) order) s.left = subst C (drop_more order p 0 within) stage.left in
    let kids_many : length g.kids ≡ length n.gates = length-map n.gates gates_read in
    let known : (h : ℕ) → among kids h ≡ true → h < length g.kids =
    λ h child. All-among (λ (y : ℕ). y < length g.kids) (take p order) (All-take (λ (y : ℕ). y < length g.kids) p order plan.placed.there) h
    (All-among (λ (y : ℕ). among (take p order) y ≡ true) kids (plan.placed.after p within) h child) in (
      All-from_among (λ (y : ℕ). y < length n.gates) kids (λ h child. omega (arith, known h child, kids_many)),
      λ h. elim (cases_Bool (among kids h)) [
        | inl child ↦ omega (arith, counts.counts h (known h child))
        | inr none ↦ omega (arith, occurrences-none kids h none)
      ],
    )

-- the next gate is placed, in a schedule of this network
pub place_stage : TellsRead → (n : NorView) (order : List ℕ) (end : ℕ) (begin : ProgramView) (p : ℕ) (s : ScheduleView) → Plan n order end → p < length order → 0 < length s.free.primed →
    Stage n order end begin p s → Stage n order end begin (p + 1) (after_reads (placed (slice_index order p) s) (slice_index order p))
place_stage tells n order end begin p s plan within some stage =
    let P : NorView → Type 0 = λ m. Plan m order end → Stage m order end begin p s → Stage m order end begin (p + 1) (after_reads (placed (slice_index order p) s) (slice_index order p)) in
    subst P stage.net (λ plan_of stage_of. next_stage tells order end begin p s plan_of within some stage_of) plan stage

-- ---- an Init

-- one of these cells is expired, or none is
find_expired : (slots : ℕ → Slot) (first w : ℕ) → ((c : ℕ) × (is_expired (slots c) ≡ true)) ⊎ ((k : ℕ) → k < w → is_expired (slots (first + k)) ≡ false)
find_expired slots first zero = inr (λ k small. absurd (omega arith))
find_expired slots first (suc w) =
    elim (find_expired slots first w) [
      | inl found ↦ inl found
      | inr none ↦
          elim (cases_Bool (is_expired (slots (first + w)))) [
            | inl here ↦ inl (first + w, here)
            | inr not_here ↦
                inr (λ k small. elim (cases_eq k w) [
                  | inl same ↦ ap (λ (j : ℕ). is_expired (slots (first + j))) same ∙ not_here
                  | inr apart ↦ none k (omega arith)
                ])
          ]
    ]

gate_in : Slot → ℕ
gate_in primed = 0
gate_in (held g) = g
gate_in expired = 0
gate_in outside = 0

held_of : (s : Slot) → is_primed s ≡ false → is_expired s ≡ false → is_outside s ≡ false → s ≡ held (gate_in s)
unfolding gate_in
held_of primed a b c = cc
held_of (held g) a b c = refl
held_of expired a b c = cc
held_of outside a b c = cc

kept_in : (b : Bool) (x g : ℕ) (ys : List ℕ) → (eqb x g ≡ true → b ≡ true) → (among ys g ≡ true) ⊎ (eqb x g ≡ true) → among (cond b (x ∷ ys) ys) g ≡ true
kept_in true x g ys pass (inl later) = or_right (eqb x g) (among ys g) later
kept_in true x g ys pass (inr here) = or_left (eqb x g) (among ys g) here
kept_in false x g ys pass (inl later) = later
kept_in false x g ys pass (inr here) = absurd (false≢true (pass here))

pub among-filter : (w : ℕ → Bool) (xs : List ℕ) (g : ℕ) → among xs g ≡ true → w g ≡ true → among (filter w xs) g ≡ true
among-filter w [] g there passes = cc
among-filter w (x ∷ xs) g there passes =
    kept_in (w x) x g (filter w xs) (λ same. ap w (eqb-true x g same) ∙ passes)
    (elim (or_cases (eqb x g) (among xs g) there) [
      | inl here ↦ inr here
      | inr later ↦ inl (among-filter w xs g later passes)
    ])

-- where no cell is primed, and the cells are more than the gates that are held, one of them is expired
some_expired : (n : NorView) (before : List ℕ) (wanted : ℕ → Bool) (free : FreeView) (cells : List ℕ) (slots : ℕ → Slot) (first w : ℕ) → Shows n before wanted free cells slots →
    count_by wanted before + 1 ≤ w → ((c : ℕ) → is_primed (slots c) ≡ false) → ((k : ℕ) → k < w → is_outside (slots (first + k)) ≡ false) → (c : ℕ) × (is_expired (slots c) ≡ true)
some_expired n before wanted free cells slots first w shows room none inside =
    elim (find_expired slots first w) [
      | inl found ↦ found
      | inr never ↦
          let holds : (k : ℕ) → k < w → slots (first + k) ≡ held (gate_in (slots (first + k))) = λ k small. held_of (slots (first + k)) (none (first + k)) (never k small) (inside k small) in
          let many : w ≤ length (filter wanted before) =
          pigeons w (λ (k : ℕ). gate_in (slots (first + k))) (filter wanted before)
          (λ k small. among-filter wanted before (gate_in (slots (first + k))) (shows.was_placed (first + k) _ (holds k small)) (shows.is_wanted (first + k) _ (holds k small)))
          (λ j k l m e.
          let there_j : slice_index cells (gate_in (slots (first + j))) ≡ first + j = shows.is_there (first + j) _ (holds j l) in
          let there_k : slice_index cells (gate_in (slots (first + k))) ≡ first + k = shows.is_there (first + k) _ (holds k m) in
          let both : first + j ≡ first + k = sym there_j ∙ (ap (slice_index cells) e ∙ there_k) in
          omega arith) in
          absurd (omega (arith, many, length-filter wanted before))
    ]

rising_some : (cs : List ℕ) (c : ℕ) → Rises cs → has c cs ≡ true → is_rising cs ≡ true
rising_some [] c up there = absurd (false≢true there)
rising_some (d ∷ ds) c up there = up

some_there : (cs : List ℕ) (c : ℕ) → has c cs ≡ true → 0 < length cs
some_there [] c there = absurd (false≢true there)
some_there (d ∷ ds) c there = omega arith

above_zero : (k : ℕ) → (k ≡ 0 → ⊥) → 0 < k
above_zero zero not_zero = absurd (not_zero refl)
above_zero (suc k) not_zero = omega arith

-- an Init that names the expired cells
init_stage : (n : NorView) (order : List ℕ) (end : ℕ) (begin : ProgramView) (p : ℕ) (s s1 : ScheduleView) → Plan n order end → p < length order → s.free.primed ≡ [] → IsRefilled s s1 →
    Stage n order end begin p s → Stage n order end begin p s1 × (0 < length s1.free.primed)
init_stage n order end begin p s s1 plan within empty refilled_now stage =
    let g : GraphView = graph_of n in
    let slots : ℕ → Slot = stage.slots in
    let now : List ℕ = s1.free.primed in
    let none : (c : ℕ) → is_primed (slots c) ≡ false = λ c. sym (stage.shows.are_primed c) ∙ ap (has c) empty in
    let names : (c : ℕ) → has c now ≡ is_expired (slots c) = λ c. has-permuted s.free.expired now refilled_now.same_cells c ∙ stage.shows.are_expired c in
    let room : n.inputs + (count_by (needed g (drop p order)) (take p order) + 1) ≤ end = plan.enough p within in
    let found = some_expired n (take p order) (needed g (drop p order)) s.free s.cells slots n.inputs (end - n.inputs) stage.shows (omega arith) none
    (λ k small. stage.works (n.inputs + k) ∙ ap not (and_from (leb n.inputs (n.inputs + k)) (ltb (n.inputs + k) end) (le-leb n.inputs (n.inputs + k) (omega arith)) (lt-ltb (n.inputs + k) end (omega arith)))) in
    let some : has found.0 now ≡ true = names found.0 ∙ found.1 in
    let shows : Shows n (take p order) (needed g (drop p order)) (record { primed = now; expired = [] }) s.cells (refilled slots) =
    Shows-refill n (take p order) (needed g (drop p order)) s.free s.cells now slots stage.shows empty refilled_now.same_cells refilled_now.sorted in
    let x : ℕ = slice_index order p in
    let later : List ℕ = drop (p + 1) order in
    let cut : drop p order ≡ x ∷ later = drop_more order p 0 within in
    let next : ScheduleView = record s { draft = with_instrs s.draft (instr.Init now ∷ []); free = record { primed = now; expired = [] } } in
    let stage_next : Stage n order end begin p next = record {
      slots = refilled slots;
      shows = shows;
      works = Works-refill (work_cell n.inputs end) slots stage.works;
      left = stage.left;
      run = λ {rest} {last} run.
          let Q : List ℕ → Type 0 = λ xs. Run n (refilled slots) (take p order) xs rest last in
          let R : List ℕ → Type 0 = λ xs. Run n slots (take p order) xs (instr.Init now ∷ rest) last in
          let W : List Instr → Type 0 = λ is. Run n (start n.inputs end) [] order is last in
          subst W (sym (append_assoc s.draft.instrs (instr.Init now ∷ []) rest))
          (stage.run (subst R (sym cut) (refill none (rising_some now found.0 shows.rise some) names (subst Q cut run))));
      draft = ap (λ (d : ProgramView). with_instrs d (instr.Init now ∷ [])) stage.draft;
      net = stage.net;
      long = stage.long;
    } in
    let F : ScheduleView → Type 0 = λ u. Stage n order end begin p u in
    (subst F (sym refilled_now.changes) stage_next, some_there now found.0 some)

-- a cell is primed before a gate is placed
pub refill_stage : (n : NorView) (order : List ℕ) (end : ℕ) (begin : ProgramView) (p : ℕ) (s s1 : ScheduleView) → Plan n order end → p < length order → Refills s s1 →
    Stage n order end begin p s → Stage n order end begin p s1 × (0 < length s1.free.primed)
refill_stage n order end begin p s s1 plan within refills stage =
    elim (cases_Bool (eqb (length s.free.primed) 0)) [
      | inl none ↦
          init_stage n order end begin p s s1 plan within (nil_from_length s.free.primed (eqb-true (length s.free.primed) 0 none)) (MatchBool-at_true _ _ none refills) stage
      | inr some ↦
          let same : s1 ≡ s = MatchBool-at_false _ _ some refills in
          let F : ScheduleView → Type 0 = λ u. Stage n order end begin p u × (0 < length u.free.primed) in
          subst F (sym same) (stage, above_zero (length s.free.primed) (eqb-false (length s.free.primed) 0 some))
    ]

-- ---- the start and the end

start_primed : (b : Bool) → false ≡ is_primed (cond b expired outside)
start_primed true = refl
start_primed false = refl

start_expired : (b : Bool) → b ≡ is_expired (cond b expired outside)
start_expired true = refl
start_expired false = refl

start_holds : (b : Bool) (g : ℕ) → cond b expired outside ≡ held g → ⊥
start_holds true g e = cc
start_holds false g e = cc

pub start_stage : (order : List ℕ) (s : ScheduleView) → Plan s.net order s.draft.cells → Begins order s → length s.cells ≡ length s.net.gates →
    Stage s.net order s.draft.cells s.draft 0 s
start_stage order s plan begins long =
    let n : NorView = s.net in
    let end : ℕ = s.draft.cells in
    let slots : ℕ → Slot = start n.inputs end in
    let b : ℕ → Bool = work_cell n.inputs end in
    let whole : n.inputs + (end - n.inputs) ≡ end = let h : n.inputs ≤ end = plan.inputs_within in omega arith in
    let shows : Shows n [] (needed (graph_of n) order) (record { primed = []; expired = range_with_len n.inputs (end - n.inputs) }) s.cells slots = record {
      are_primed = λ c. start_primed (b c);
      rise = tt;
      are_expired = λ c. has-range n.inputs (end - n.inputs) c ∙ (ap (λ (e : ℕ). leb n.inputs c && ltb c e) whole ∙ start_expired (b c));
      once = Once-range n.inputs (end - n.inputs);
      holds = λ g was wants. absurd (false≢true was);
      was_placed = λ c g e. absurd (start_holds (b c) g e);
      is_wanted = λ c g e. absurd (start_holds (b c) g e);
      is_there = λ c g e. absurd (start_holds (b c) g e);
    } in
    let F : FreeView → Type 0 = λ f. Shows n [] (needed (graph_of n) order) f s.cells slots in
    record {
      slots = slots;
      shows = subst F (sym begins.free) shows;
      works = Works-start n.inputs end;
      left = begins.left;
      run = λ {rest} {last} run. let W : List Instr → Type 0 = λ is. Run n (start n.inputs end) [] order is last in subst W (ap (λ (is : List Instr). is ++ rest) (sym begins.none)) run;
      draft = refl;
      net = refl;
      long = long;
    }

pub end_stage : (order : List ℕ) (old new : ScheduleView) (p : ℕ) → length order ≤ p → Stage old.net order old.draft.cells old.draft p new → Ran order old new
end_stage order old new p all stage =
    let n : NorView = old.net in
    let no_more : drop p order ≡ [] = drop_all p order all in
    let every : take p order ≡ order = take_all p order all in
    let Q : List ℕ → Type 0 = λ xs. Run n stage.slots (take p order) xs [] stage.slots in
    let W : List Instr → Type 0 = λ is. Run n (start n.inputs old.draft.cells) [] order is stage.slots in
    record {
      last = stage.slots;
      run = subst W (append-nil new.draft.instrs) (stage.run (subst Q (sym no_more) done));
      holds = λ g there root.
          stage.shows.holds g (ap (λ (xs : List ℕ). among xs g) every ∙ there) (or_right (read_by (graph_of n) (drop p order) g) (among (graph_of n).roots g) root);
      draft = stage.draft;
      net = stage.net;
    }

-- ---- what the loop asks for

pub stage_there : (n : NorView) (order : List ℕ) (end : ℕ) (begin : ProgramView) (p : ℕ) (s : ScheduleView) → Plan n order end → p < length order → Stage n order end begin p s →
    slice_index order p < length s.net.gates
stage_there n order end begin p s plan within stage =
    let F : NorView → Type 0 = λ m. slice_index order p < length m.gates in
    let there : slice_index order p < length (graph_of n).kids = plan.placed.there p 0 within in
    subst F (sym stage.net) (omega (arith, there, length-map n.gates gates_read))

-- a gate's reads may be taken back once it is placed
pub record Asks (s : ScheduleView) (x : ℕ) : Type 0 where
  pub there : x < length s.net.gates
  pub children : All (λ y. y < length s.net.gates) (kids_of (graph_of s.net) x)
  pub read : (y : ℕ) → occurrences (kids_of (graph_of s.net) x) y ≤ slice_index s.left y

pub stage_asks : (n : NorView) (order : List ℕ) (end : ℕ) (begin : ProgramView) (p : ℕ) (s t : ScheduleView) → Plan n order end → p < length order → Stage n order end begin p s →
    t ≡ placed (slice_index order p) s → Asks t (slice_index order p)
stage_asks n order end begin p s t plan within stage step =
    let x : ℕ = slice_index order p in
    let asked = stage_reads n order end begin p s plan within stage in
    let P : NorView → Type 0 = λ m. All (λ y. y < length m.gates) (kids_of (graph_of m) x) × ((y : ℕ) → occurrences (kids_of (graph_of m) x) y ≤ slice_index s.left y) in
    let here = subst P (sym stage.net) asked in
    let F : ScheduleView → Type 0 = λ u. Asks u x in
    subst F (sym step) (record { there = stage_there n order end begin p s plan within stage; children = here.0; read = here.1 })

-- ---- the ports

output_cells : (cells : List ℕ) (outs : List Pin) (labels : List (List ℕ)) → length labels ≡ length outs → cells_of (output_ports (cell_of cells) outs labels) ≡ map (cell_of cells) outs
output_cells cells [] [] same = refl
output_cells cells [] (l ∷ ls) same = refl
output_cells cells (o ∷ os) [] same = absurd (omega arith)
output_cells cells (o ∷ os) (l ∷ ls) same = ap (λ (cs : List ℕ). cell_of cells o ∷ cs) (output_cells cells os ls (omega arith))

output_labels : (cells : List ℕ) (outs : List Pin) (labels : List (List ℕ)) → length labels ≡ length outs → labels_of (output_ports (cell_of cells) outs labels) ≡ labels
output_labels cells [] [] same = refl
output_labels cells [] (l ∷ ls) same = absurd (omega arith)
output_labels cells (o ∷ os) [] same = absurd (omega arith)
output_labels cells (o ∷ os) (l ∷ ls) same = ap (λ (rest : List (List ℕ)). l ∷ rest) (output_labels cells os ls (omega arith))

-- a run and its ports are a whole draft
pub drafted : (n : NorView) (ports : PortsView) (order : List ℕ) (end : ℕ) (old new : ScheduleView) (d : ProgramView) → Plan n order end → length ports.outputs ≡ length n.outs →
    old.net ≡ n → old.draft ≡ record { target = Magic; cells = end; inputs = []; outputs = []; instrs = [] } → Ran order old new →
    d ≡ record new.draft { inputs = new.draft.inputs ++ input_ports 0 ports.inputs; outputs = new.draft.outputs ++ output_ports (cell_of new.cells) new.net.outs ports.outputs } →
    Drafted n ports order end d
drafted n ports order end old new d plan same net begin ran is =
    let new_net : new.net ≡ n = ran.net ∙ net in
    let empty : ProgramView = record { target = Magic; cells = end; inputs = []; outputs = []; instrs = new.draft.instrs } in
    let draft : new.draft ≡ empty = ran.draft ∙ ap (λ (e : ProgramView). record e { instrs = new.draft.instrs }) begin in
    let whole : ProgramView = record { target = Magic; cells = end; inputs = input_ports 0 ports.inputs; outputs = output_ports (cell_of new.cells) n.outs ports.outputs; instrs = new.draft.instrs } in
    let d_is : d ≡ whole =
    is
    ∙ (ap (λ (m : NorView). record new.draft { inputs = new.draft.inputs ++ input_ports 0 ports.inputs; outputs = new.draft.outputs ++ output_ports (cell_of new.cells) m.outs ports.outputs }) new_net
    ∙ ap (λ (e : ProgramView). record e { inputs = e.inputs ++ input_ports 0 ports.inputs; outputs = e.outputs ++ output_ports (cell_of new.cells) n.outs ports.outputs }) draft) in
    let R : NorView → Type 0 = λ m. Run m (start m.inputs old.draft.cells) [] order new.draft.instrs ran.last in
    let E : ℕ → Type 0 = λ e. Run n (start n.inputs e) [] order new.draft.instrs ran.last in
    let H : NorView → Type 0 = λ m. (g : ℕ) → among order g ≡ true → among (graph_of m).roots g ≡ true → ran.last (slice_index new.cells g) ≡ held g in
    let holds = subst H net ran.holds in
    let O : List ℕ → Type 0 = λ cs. AllHold ran.last cs n.outs in
    let made : Drafted n ports order end whole = record {
      last = ran.last;
      run = subst E (ap (λ (e : ProgramView). e.cells) begin) (subst R net ran.run);
      outs = subst O (sym (output_cells new.cells n.outs ports.outputs same))
          (all_hold ran.last new.cells [] n.outs (λ h root. holds h (plan.roots_there h root) root));
      labels = output_labels new.cells n.outs ports.outputs same;
      inputs = refl;
      cells = refl;
      target = refl;
    } in
    let F : ProgramView → Type 0 = λ e. Drafted n ports order end e in
    subst F (sym d_is) made

-- a new schedule begins
pub begun : (n : NorView) (order : List ℕ) (end : ℕ) (s : ScheduleView) → s.net ≡ n → s.draft ≡ record { target = Magic; cells = end; inputs = []; outputs = []; instrs = [] } →
    s.free ≡ record { primed = []; expired = range_with_len n.inputs (end - n.inputs) } → CountsReads (graph_of n) order s.left → Plan n order end →
    Plan s.net order s.draft.cells × Begins order s
begun n order end s net draft free left plan =
    let cells : s.draft.cells ≡ end = ap (λ (d : ProgramView). d.cells) draft in
    let N : NorView → Type 0 = λ m. Plan m order end in
    let E : ℕ → Type 0 = λ e. Plan s.net order e in
    let C : NorView → Type 0 = λ m. CountsReads (graph_of m) order s.left in
    let ranged : NorView → ℕ → FreeView = λ m e. record { primed = []; expired = range_with_len m.inputs (e - m.inputs) } in (
      subst E (sym cells) (subst N (sym net) plan),
      record {
        free = free ∙ (ap (λ (m : NorView). ranged m end) (sym net) ∙ ap (λ (e : ℕ). ranged s.net e) (sym cells));
        left = subst C (sym net) left;
        none = ap (λ (d : ProgramView). d.instrs) draft;
      },
    )
