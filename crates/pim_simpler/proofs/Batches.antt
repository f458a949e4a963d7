-- A run initialises all dead cells at once, and takes the least free cell.
use Rattle.std.proofs.Common.{◌≡◌, ℕ, zero, suc, ◌<◌, Bool, true, false, ◌||◌, ◌&&◌, not, eqb, cond, List, [], ◌∷◌, ◌++◌, take, drop, Some, refl, sym, ap, ◌∙◌, subst, append_assoc}
use Rattle.std.specs.Prelude.{slice_get, IsTrue}
use Rattle.std.specs.List.{list_any}
use Rattle.std.proofs.lemmas.Bool.{false≢true, or_left, or_from, and_from, and_left, and_right, eq-eqb, ne_eqb, not-true, not-false, MatchBool-at_false}
use Rattle.std.proofs.lemmas.List.{append-nil}
use Rattle.pim_graph.specs.Peaks.{needed}
use Rattle.pim_isa.specs.declared.instr.Ins.{Ins}
use Rattle.pim_isa.specs.declared.instr.Instr.{Instr}
use Rattle.pim_isa.specs.declared.instr.Instr.TheVariants as instr
use Rattle.pim_isa.specs.Laws.{WriteLaws}
use Rattle.pim_isa.specs.Live.{is_live_in}
use Rattle.pim_isa.specs.Primed.{last_write_is_init}
use Rattle.pim_isa.specs.Touches.{operands}
use Rattle.pim_isa.specs.Validity.{has}
use Rattle.pim_nor.specs.GateGraphs.{graph_of}
use Rattle.pim_nor.specs.Network.{NorView, is_nor, pins, AreOfFirst}
use Rattle.pim_nor.specs.declared.network.Pin.{Pin}
use Rattle.pim_nor.specs.declared.network.Pin.TheVariants.{Input, Gate as Place}
use Rattle.pim_simpler.specs.Following.{gate_at, nors_of}
use Rattle.pim_simpler.specs.inner.Slots.{Slot, primed, held, expired, outside, is_primed, is_expired, is_outside, refilled, put, settled, AllHold, IsLeast, Works}
use Rattle.pim_simpler.specs.inner.Runs.{Run, IsNext}
use Rattle.pim_simpler.specs.inner.Runs.Run.{done, refill, nor, one}
use Rattle.pim_simpler.proofs.Placing.{any_from_has}
use Rattle.pim_simpler.proofs.Followed.{Tells, SoFar, SoFar-refill, SoFar-nor, SoFar-one}
use Rattle.pim_simpler.proofs.Marks.{Apart, Apart-refill, Apart-put, Works-refill, Works-put, work_of, kept-stays, put-there, held_cell}
use Rattle.pim_simpler.proofs.Lives.{live-held}

-- all that the instructions so far and the cells say of one another
pub record Keeping (n : NorView) (work : ℕ → Bool) (before : List Instr) (placed later : List ℕ) (slots : ℕ → Slot) : Type 0 where
  pub so_far : SoFar n before placed slots
  pub apart : Apart n placed later slots
  pub works : Works work slots
  pub inputs : (c : ℕ) → c < n.inputs → work c ≡ false

-- what is said of an Init, and of a NOR, by what was emitted before it and by what comes from it on
pub record GoodInit (work : ℕ → Bool) (outs : List ℕ) (before : List Instr) (cells : List ℕ) (rest : List Instr) : Type 0 where
  pub named : (c : ℕ) → has c cells ≡ (work c && not (is_live_in rest outs c))
  pub not_again : (c : ℕ) → has c cells ≡ true → last_write_is_init false before c ≡ false
  pub last : rest ≡ instr.Init cells ∷ [] → list_any (last_write_is_init false (before ++ instr.Init cells ∷ [])) outs ≡ true

pub record GoodNor (work : ℕ → Bool) (outs : List ℕ) (before : List Instr) (t : ℕ) (rest : List Instr) : Type 0 where
  pub target : (work t && (not (is_live_in rest outs t) && last_write_is_init false before t)) ≡ true
  pub least : (c : ℕ) → c < t → (work c && (not (is_live_in rest outs c) && last_write_is_init false before c)) ≡ false

abbrev pub Good : (ℕ → Bool) → List ℕ → List Instr → Instr → List Instr → Type 0
Good work outs before (instr.Init cells) rest = GoodInit work outs before cells rest
Good work outs before (instr.Nor t ins) rest = GoodNor work outs before t rest
Good work outs before (instr.Rm3 p q z) rest = Unit {0}

no_primed : (work : ℕ → Bool) (slots : ℕ → Slot) → Works work slots → (cells outs : List ℕ) (is : List Instr) (c : ℕ) (s : Slot) → slots c ≡ s → is_primed s ≡ false →
    has c cells ≡ is_expired s → ((g : ℕ) → s ≡ held g → is_live_in (instr.Init cells ∷ is) outs c ≡ true) →
    has c cells ≡ (work c && not (is_live_in (instr.Init cells ∷ is) outs c))
no_primed work slots works cells outs is c primed at free names_it live = cc
no_primed work slots works cells outs is c (held g) at free names_it live =
    names_it ∙ sym (and_right (work c) (not (is_live_in (instr.Init cells ∷ is) outs c)) (ap not (live g refl)))
no_primed work slots works cells outs is c expired at free names_it live =
    let is_work : work c ≡ true = not-false (work c) (sym (work_of work slots works c expired at)) in
    let named : has c (cells ++ []) ≡ true = ap (has c) (append-nil cells) ∙ names_it in
    let dead : is_live_in (instr.Init cells ∷ is) outs c ≡ false = ap (λ (b : Bool). cond b false (is_live_in is outs c)) named in
    names_it ∙ sym (and_from (work c) (not (is_live_in (instr.Init cells ∷ is) outs c)) is_work (ap not dead))
no_primed work slots works cells outs is c outside at free names_it live =
    names_it ∙ sym (and_left (work c) (not (is_live_in (instr.Init cells ∷ is) outs c)) (not-true (work c) (sym (work_of work slots works c outside at))))

-- what a NOR finds below its target is taken, or wasn't initialised
not_free : (n : NorView) (work : ℕ → Bool) (slots : ℕ → Slot) (gs outs : List ℕ) (before rest : List Instr) → Works work slots → (c : ℕ) (s : Slot) → slots c ≡ s →
    is_primed s ≡ false → Tells n gs before c s → ((g : ℕ) → s ≡ held g → is_live_in rest outs c ≡ true) →
    (work c && (not (is_live_in rest outs c) && last_write_is_init false before c)) ≡ false
not_free n work slots gs outs before rest works c primed at free told live = cc
not_free n work slots gs outs before rest works c (held g) at free told live =
    and_right (work c) _ (and_left (not (is_live_in rest outs c)) (last_write_is_init false before c) (ap not (live g refl)))
not_free n work slots gs outs before rest works c expired at free told live =
    and_right (work c) _ (and_right (not (is_live_in rest outs c)) (last_write_is_init false before c) told)
not_free n work slots gs outs before rest works c outside at free told live =
    and_left (work c) _ (not-true (work c) (sym (work_of work slots works c outside at)))

expired_told : (n : NorView) (gs : List ℕ) (before : List Instr) (c : ℕ) (s : Slot) → is_expired s ≡ true → Tells n gs before c s → last_write_is_init false before c ≡ false
expired_told n gs before c primed is told = cc
expired_told n gs before c (held g) is told = cc
expired_told n gs before c expired is told = told
expired_told n gs before c outside is told = cc

-- a target is none of the cells that hold what the gate reads
pub target_apart : (slots : ℕ → Slot) (inputs gates t : ℕ) → slots t ≡ primed → ((k : ℕ) → k < inputs → is_outside (slots k) ≡ true) →
    (cs : List ℕ) (ps : List Pin) → AllHold slots cs ps → AreOfFirst inputs gates ps → has t cs ≡ false
target_apart slots inputs gates t free out [] [] hold first = refl
target_apart slots inputs gates t free out [] (p ∷ ps) hold first = absurd hold
target_apart slots inputs gates t free out (c ∷ cs) [] hold first = absurd hold
target_apart slots inputs gates t free out (c ∷ cs) (Input k ∷ ps) hold first =
    or_from (eqb c t) (has t cs)
    (ne_eqb c t (λ e. false≢true (sym (ap is_outside free) ∙ (ap (λ (x : ℕ). is_outside (slots x)) (sym e ∙ hold.0) ∙ out k first.0))))
    (target_apart slots inputs gates t free out cs ps hold.1 first.1)
target_apart slots inputs gates t free out (c ∷ cs) (Place g ∷ ps) hold first =
    or_from (eqb c t) (has t cs)
    (ne_eqb c t (λ e. let f : primed ≡ held g = sym free ∙ (ap slots (sym e) ∙ hold.0) in cc))
    (target_apart slots inputs gates t free out cs ps hold.1 first.1)

module _ (laws : WriteLaws) where
  pub Keeping-refill : (n : NorView) (work : ℕ → Bool) (before : List Instr) (placed later cells : List ℕ) (slots : ℕ → Slot) → ((c : ℕ) → has c cells ≡ is_expired (slots c)) →
      Keeping n work before placed later slots → Keeping n work (before ++ instr.Init cells ∷ []) placed later (refilled slots)
  Keeping-refill n work before placed later cells slots names_them keeping = record {
    so_far = SoFar-refill laws n before placed cells slots names_them keeping.so_far;
    apart = Apart-refill n placed later slots keeping.apart;
    works = Works-refill work slots keeping.works;
    inputs = keeping.inputs;
  }

  pub Keeping-nor : (n : NorView) (work : ℕ → Bool) (before : List Instr) (placed later : List ℕ) (slots : ℕ → Slot) (g t : ℕ) (ins : Ins) →
      IsNext n placed g later → is_nor (gate_at n g) ≡ true → IsLeast slots t → AllHold slots (operands ins) (pins (gate_at n g)) →
      Keeping n work before placed (g ∷ later) slots →
      Keeping n work (before ++ instr.Nor t ins ∷ []) (placed ++ g ∷ []) later (settled n (needed (graph_of n) later) (put t g slots))
  Keeping-nor n work before placed later slots g t ins next gate_is least hold keeping = record {
    so_far = SoFar-nor laws n before placed slots (needed (graph_of n) later) g t ins next.fresh gate_is least.is hold keeping.so_far;
    apart = Apart-put n placed (g ∷ later) later slots g t next.fresh keeping.apart;
    works = Works-put n (needed (graph_of n) later) work slots t g least.is keeping.works;
    inputs = keeping.inputs;
  }

  pub Keeping-one : (n : NorView) (work : ℕ → Bool) (before : List Instr) (placed later : List ℕ) (slots : ℕ → Slot) (g t : ℕ) →
      IsNext n placed g later → is_nor (gate_at n g) ≡ false → IsLeast slots t →
      Keeping n work before placed (g ∷ later) slots →
      Keeping n work before (placed ++ g ∷ []) later (settled n (needed (graph_of n) later) (put t g slots))
  Keeping-one n work before placed later slots g t next gate_is least keeping = record {
    so_far = SoFar-one laws n before placed slots (needed (graph_of n) later) g t gate_is least.is keeping.so_far;
    apart = Apart-put n placed (g ∷ later) later slots g t next.fresh keeping.apart;
    works = Works-put n (needed (graph_of n) later) work slots t g least.is keeping.works;
    inputs = keeping.inputs;
  }

  -- where nothing more is emitted, the constant one is held, and it is an output
  ends_held : {n : NorView} {slots last : ℕ → Slot} {placed later : List ℕ} {is : List Instr} → Run n slots placed later is last → is ≡ [] →
      (work : ℕ → Bool) (before : List Instr) (outs : List ℕ) → AllHold last outs n.outs → Keeping n work before placed later slots →
      (c g : ℕ) → slots c ≡ held g → is_nor (gate_at n g) ≡ false → list_any (last_write_is_init false before) outs ≡ true
  ends_held {n} {slots} {last} {placed} done none work before outs ends keeping c g holds gate_is =
      let F : Slot → Type 0 = Tells n (nors_of n placed) before c in
      let told : Tells n (nors_of n placed) before c (held g) = subst F holds (keeping.so_far.cells c) in
      any_from_has (last_write_is_init false before) outs c
      (held_cell slots g c (λ d e. keeping.apart.single d c g e holds) n.outs outs (keeping.apart.wanted c g holds) ends)
      (MatchBool-at_false _ _ gate_is told.0)
  ends_held (refill {cells = cells} {is = is} free rises names_them run) none work before outs ends keeping c g holds gate_is = cc
  ends_held (nor {is = is} next is_one least hold run) none work before outs ends keeping c g holds gate_is = cc
  ends_held {n} {slots} {last} {placed} (one {later = later} {g = x} {t = t} next is_none least run) none work before outs ends keeping c g holds gate_is =
      ends_held run none work before outs ends (Keeping-one n work before placed later slots x t next is_none least keeping) t x
      (kept-stays n (needed (graph_of n) later) (put t x slots t) x (put-there t x slots) next.needed_later) is_none

  ends : {n : NorView} {slots last : ℕ → Slot} {placed later : List ℕ} {g : ℕ} {is : List Instr} → Run n slots placed (g ∷ later) is last → is ≡ [] →
      (work : ℕ → Bool) (before : List Instr) (outs : List ℕ) → AllHold last outs n.outs → Keeping n work before placed (g ∷ later) slots →
      list_any (last_write_is_init false before) outs ≡ true
  ends (refill {cells = cells} {is = is} free rises names_them run) none work before outs ends_with keeping = cc
  ends (nor {is = is} next is_one least hold run) none work before outs ends_with keeping = cc
  ends {n} {slots} {last} {placed} (one {later = later} {g = x} {t = t} next is_none least run) none work before outs ends_with keeping =
      ends_held run none work before outs ends_with (Keeping-one n work before placed later slots x t next is_none least keeping) t x
      (kept-stays n (needed (graph_of n) later) (put t x slots t) x (put-there t x slots) next.needed_later) is_none

  -- each instruction of a run is good where it stands
  pub good-run : {n : NorView} {slots last : ℕ → Slot} {placed later : List ℕ} {is : List Instr} → Run n slots placed later is last →
      (work : ℕ → Bool) (before : List Instr) (outs : List ℕ) → AllHold last outs n.outs → Keeping n work before placed later slots →
      (k : ℕ) (i : Instr) → slice_get is k ≡ Some i → Good work outs (before ++ take k is) i (drop k is)
  good-run done work before outs ends_with keeping k i at = cc
  good-run {n} {slots} {last} {placed} (refill {later = later} {cells = cells} {g = g} {is = is} free rises names_them run) work before outs ends_with keeping zero i at =
      let same : instr.Init cells ≡ i = cc in
      let live : (c h : ℕ) → slots c ≡ held h → is_live_in (instr.Init cells ∷ is) outs c ≡ true =
      live-held (refill free rises names_them run) outs ends_with keeping.apart in
      let good : GoodInit work outs before cells (instr.Init cells ∷ is) = record {
        named = λ c. no_primed work slots keeping.works cells outs is c (slots c) refl (free c) (names_them c) (live c);
        not_again = λ c there. expired_told n (nors_of n placed) before c (slots c) (sym (names_them c) ∙ there) (keeping.so_far.cells c);
        last = λ alone. ends run (let e : instr.Init cells ∷ is ≡ instr.Init cells ∷ [] = alone in cc) work (before ++ instr.Init cells ∷ []) outs ends_with
            (Keeping-refill n work before placed (g ∷ later) cells slots names_them keeping);
      } in
      let P : List Instr → Type 0 = λ js. Good work outs js i (instr.Init cells ∷ is) in
      let Q : Instr → Type 0 = λ j. Good work outs before j (instr.Init cells ∷ is) in
      subst P (sym (append-nil before)) (subst Q same good)
  good-run {n} {slots} {last} {placed} (refill {later = later} {cells = cells} {g = g} {is = is} free rises names_them run) work before outs ends_with keeping (suc k) i at =
      let P : List Instr → Type 0 = λ js. Good work outs js i (drop k is) in
      subst P (append_assoc before (instr.Init cells ∷ []) (take k is))
      (good-run run work (before ++ instr.Init cells ∷ []) outs ends_with (Keeping-refill n work before placed (g ∷ later) cells slots names_them keeping) k i at)
  good-run {n} {slots} {last} {placed} (nor {later = later} {g = g} {t = t} {ins = ins} {is = is} next gate_is least hold run) work before outs ends_with keeping zero i at =
      let same : instr.Nor t ins ≡ i = cc in
      let live : (c h : ℕ) → slots c ≡ held h → is_live_in (instr.Nor t ins ∷ is) outs c ≡ true =
      live-held (nor next gate_is least hold run) outs ends_with keeping.apart in
      let F : Slot → Type 0 = Tells n (nors_of n placed) before t in
      let ready : IsTrue (last_write_is_init false before t) = subst F least.is (keeping.so_far.cells t) in
      let is_work : work t ≡ true = not-false (work t) (sym (work_of work slots keeping.works t primed least.is)) in
      let other : has t (operands ins) ≡ false = target_apart slots n.inputs g t least.is (λ k small. keeping.works k ∙ ap not (keeping.inputs k small)) (operands ins) (pins (gate_at n g)) hold next.reads in
      let named : (eqb t t || has t (operands ins)) ≡ true = or_left (eqb t t) (has t (operands ins)) (eq-eqb t t refl) in
      let dead : is_live_in (instr.Nor t ins ∷ is) outs t ≡ false = ap (λ (b : Bool). cond b (has t (operands ins)) (is_live_in is outs t)) named ∙ other in
      let good : GoodNor work outs before t (instr.Nor t ins ∷ is) = record {
        target = and_from (work t) _ is_work (and_from (not (is_live_in (instr.Nor t ins ∷ is) outs t)) (last_write_is_init false before t) (ap not dead) ready);
        least = λ c below. not_free n work slots (nors_of n placed) outs before (instr.Nor t ins ∷ is) keeping.works c (slots c) refl (least.least c below) (keeping.so_far.cells c) (live c);
      } in
      let P : List Instr → Type 0 = λ js. Good work outs js i (instr.Nor t ins ∷ is) in
      let Q : Instr → Type 0 = λ j. Good work outs before j (instr.Nor t ins ∷ is) in
      subst P (sym (append-nil before)) (subst Q same good)
  good-run {n} {slots} {last} {placed} (nor {later = later} {g = g} {t = t} {ins = ins} {is = is} next gate_is least hold run) work before outs ends_with keeping (suc k) i at =
      let P : List Instr → Type 0 = λ js. Good work outs js i (drop k is) in
      subst P (append_assoc before (instr.Nor t ins ∷ []) (take k is))
      (good-run run work (before ++ instr.Nor t ins ∷ []) outs ends_with (Keeping-nor n work before placed later slots g t ins next gate_is least hold keeping) k i at)
  good-run {n} {slots} {last} {placed} (one {later = later} {g = g} {t = t} next gate_is least run) work before outs ends_with keeping k i at =
      good-run run work before outs ends_with (Keeping-one n work before placed later slots g t next gate_is least keeping) k i at
