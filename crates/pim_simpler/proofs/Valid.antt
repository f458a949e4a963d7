-- The instructions of a run are valid, few, and write work cells alone.
use Rattle.std.proofs.Common.{◌≡◌, ℕ, zero, suc, ◌+◌, ◌*◌, ◌<◌, ◌≤◌, Bool, true, false, ◌||◌, not, eqb, List, [], ◌∷◌, length, Some, inl, inr, refl, sym, ap, ◌∙◌, subst, arith}
use Rattle.std.specs.Prelude.{All, slice_get}
use Rattle.std.proofs.lemmas.Bool.{cases_Bool, false≢true, true≢false, or_from, or_left, ne_eqb, eq-eqb, not-false}
use Rattle.std.proofs.lemmas.List.{append-nil}
use Rattle.std.proofs.lemmas.List.Elements.{All-nil, All-cons}
use Rattle.pim_graph.specs.Peaks.{needed}
use Rattle.pim_isa.specs.declared.instr.Instr.{Instr}
use Rattle.pim_isa.specs.declared.instr.Instr.TheVariants as instr
use Rattle.pim_isa.specs.declared.target.Target.TheVariants.{Magic}
use Rattle.pim_isa.specs.Sound.{IsValid}
use Rattle.pim_isa.specs.Touches.{operands, writes}
use Rattle.pim_isa.specs.Validity.{has, is_rising}
use Rattle.pim_nor.specs.GateGraphs.{graph_of}
use Rattle.pim_nor.specs.Network.{NorView, pins, AreOfFirst}
use Rattle.pim_nor.specs.declared.network.Pin.{Pin}
use Rattle.pim_nor.specs.declared.network.Pin.TheVariants.{Input, Gate as Place}
use Rattle.pim_simpler.specs.Following.{gate_at}
use Rattle.pim_simpler.specs.inner.Slots.{Slot, primed, held, expired, outside, is_primed, is_expired, is_outside, anew, AllHold, Works}
use Rattle.pim_simpler.specs.inner.Runs.{Run}
use Rattle.pim_simpler.specs.inner.Runs.Run.{done, refill, nor, one}
use Rattle.pim_simpler.proofs.Batches.{target_apart}
use Rattle.pim_simpler.proofs.Marks.{Works-refill, Works-put}

-- what holds of each number that stands in a list, holds of all of them
All-from_has : (P : ℕ → Type 0) (cs : List ℕ) → ((c : ℕ) → has c cs ≡ true → P c) → All P cs
All-from_has P [] each = All-nil P
All-from_has P (d ∷ ds) each =
    All-cons P d ds (each d (or_left (eqb d d) (has d ds) (eq-eqb d d refl)))
    (All-from_has P ds (λ c later. each c (elim (cases_Bool (eqb d c)) [
      | inl same ↦ or_left (eqb d c) (has c ds) same
      | inr other ↦ ap (λ (b : Bool). b || has c ds) other ∙ later
    ])))

-- the cells that hold what a gate reads are below the program's
pub operands_below : (slots : ℕ → Slot) (inputs gates cells : ℕ) → inputs ≤ cells → ((c g : ℕ) → slots c ≡ held g → c < cells) →
    (cs : List ℕ) (ps : List Pin) → AllHold slots cs ps → AreOfFirst inputs gates ps → All (λ (c : ℕ). c < cells) cs
operands_below slots inputs gates cells enough below [] [] hold first = All-nil (λ (c : ℕ). c < cells)
operands_below slots inputs gates cells enough below [] (p ∷ ps) hold first = absurd hold
operands_below slots inputs gates cells enough below (c ∷ cs) [] hold first = absurd hold
operands_below slots inputs gates cells enough below (c ∷ cs) (Input k ∷ ps) hold first =
    All-cons (λ (d : ℕ). d < cells) c cs (omega (arith, hold.0, first.0)) (operands_below slots inputs gates cells enough below cs ps hold.1 first.1)
operands_below slots inputs gates cells enough below (c ∷ cs) (Place g ∷ ps) hold first =
    All-cons (λ (d : ℕ). d < cells) c cs (below c g hold.0) (operands_below slots inputs gates cells enough below cs ps hold.1 first.1)

not_outside : (work : ℕ → Bool) (slots : ℕ → Slot) → Works work slots → (c : ℕ) → is_outside (slots c) ≡ false → work c ≡ true
not_outside work slots works c inside = not-false (work c) (sym (works c) ∙ inside)

expired_inside : (s : Slot) → is_expired s ≡ true → is_outside s ≡ false
expired_inside primed e = cc
expired_inside (held g) e = cc
expired_inside expired e = refl
expired_inside outside e = cc

pub valid-run : {n : NorView} {slots last : ℕ → Slot} {placed later : List ℕ} {is : List Instr} → Run n slots placed later is last →
    (work : ℕ → Bool) (cells : ℕ) → n.inputs ≤ cells → ((c : ℕ) → work c ≡ true → c < cells) → ((c : ℕ) → c < n.inputs → work c ≡ false) →
    Works work slots → All (IsValid Magic cells) is
valid-run done work cells enough below inputs works = All-nil (IsValid Magic cells)
valid-run {slots = slots} (refill {cells = named} {is = is} none rises names_them run) work cells enough below inputs works =
    let P : List ℕ → Type 0 = λ cs. All (λ (c : ℕ). c < cells) cs in
    All-cons (IsValid Magic cells) (instr.Init named) is
    (record {
      suited = refl;
      listed = rises;
      within = subst P (sym (append-nil named))
          (All-from_has (λ (c : ℕ). c < cells) named (λ c there. below c (not_outside work slots works c (expired_inside (slots c) (sym (names_them c) ∙ there)))));
      apart = refl;
    })
    (valid-run run work cells enough below inputs (Works-refill work slots works))
valid-run {n} {slots} (nor {later = later} {g = g} {t = t} {ins = ins} {is = is} next gate_is least hold run) work cells enough below inputs works =
    All-cons (IsValid Magic cells) (instr.Nor t ins) is
    (record {
      suited = refl;
      listed = refl;
      within = All-cons (λ (c : ℕ). c < cells) t (operands ins) (below t (not_outside work slots works t (ap is_outside least.is)))
          (operands_below slots n.inputs g cells enough (λ c h e. below c (not_outside work slots works c (ap is_outside e))) (operands ins) (pins (gate_at n g)) hold next.reads);
      apart = target_apart slots n.inputs g t least.is (λ k small. works k ∙ ap not (inputs k small)) (operands ins) (pins (gate_at n g)) hold next.reads;
    })
    (valid-run run work cells enough below inputs (Works-put n (needed (graph_of n) later) work slots t g least.is works))
valid-run {n} {slots} (one {later = later} {g = g} {t = t} next gate_is least run) work cells enough below inputs works =
    valid-run run work cells enough below inputs (Works-put n (needed (graph_of n) later) work slots t g least.is works)

outside_no : (s : Slot) → is_outside s ≡ true → is_expired s ≡ false
outside_no primed e = refl
outside_no (held g) e = refl
outside_no expired e = cc
outside_no outside e = refl

pub writes_work : {n : NorView} {slots last : ℕ → Slot} {placed later : List ℕ} {is : List Instr} → Run n slots placed later is last →
    (work : ℕ → Bool) → Works work slots → (k c : ℕ) (i : Instr) → slice_get is k ≡ Some i → work c ≡ false → has c (writes i) ≡ false
writes_work done work works k c i at no_work = cc
writes_work {slots = slots} (refill {cells = named} {is = is} none rises names_them run) work works zero c i at no_work =
    let same : instr.Init named ≡ i = cc in
    ap (λ (j : Instr). has c (writes j)) (sym same) ∙ (names_them c ∙ outside_no (slots c) (works c ∙ ap not no_work))
writes_work {slots = slots} (refill {is = is} none rises names_them run) work works (suc k) c i at no_work =
    writes_work run work (Works-refill work slots works) k c i at no_work
writes_work {slots = slots} (nor {t = t} {ins = ins} {is = is} next gate_is least hold run) work works zero c i at no_work =
    let same : instr.Nor t ins ≡ i = cc in
    ap (λ (j : Instr). has c (writes j)) (sym same)
    ∙ or_from (eqb t c) false
    (ne_eqb t c (λ e. false≢true (sym (ap is_outside least.is) ∙ (ap (λ (x : ℕ). is_outside (slots x)) e ∙ (works c ∙ ap not no_work)))))
    refl
writes_work {n} {slots} (nor {later = later} {g = g} {t = t} {is = is} next gate_is least hold run) work works (suc k) c i at no_work =
    writes_work run work (Works-put n (needed (graph_of n) later) work slots t g least.is works) k c i at no_work
writes_work {n} {slots} (one {later = later} {g = g} {t = t} next gate_is least run) work works k c i at no_work =
    writes_work run work (Works-put n (needed (graph_of n) later) work slots t g least.is works) k c i at no_work

-- the same cells are work cells at the end
pub last_works : {n : NorView} {slots last : ℕ → Slot} {placed later : List ℕ} {is : List Instr} → Run n slots placed later is last →
    (work : ℕ → Bool) → Works work slots → Works work last
last_works done work works = works
last_works {slots = slots} (refill none rises names_them run) work works = last_works run work (Works-refill work slots works)
last_works {n} {slots} (nor {later = later} {g = g} {t = t} next gate_is least hold run) work works = last_works run work (Works-put n (needed (graph_of n) later) work slots t g least.is works)
last_works {n} {slots} (one {later = later} {g = g} {t = t} next gate_is least run) work works = last_works run work (Works-put n (needed (graph_of n) later) work slots t g least.is works)

-- each gate takes an Init and a NOR at most: where a cell is primed, no Init comes first
record Few (slots : ℕ → Slot) (later : List ℕ) (is : List Instr) : Type 0 where
  few : length is ≤ 2 * length later
  fewer : (c : ℕ) → slots c ≡ primed → 0 < length later → length is + 1 ≤ 2 * length later

anew_primed : (s : Slot) → is_expired s ≡ true → anew s ≡ primed
anew_primed primed e = refl
anew_primed (held g) e = cc
anew_primed expired e = refl
anew_primed outside e = cc

one_of : (cells : List ℕ) → is_rising cells ≡ true → (c : ℕ) × (has c cells ≡ true)
one_of [] e = absurd (false≢true e)
one_of (c ∷ cs) e = (c, or_left (eqb c c) (has c cs) (eq-eqb c c refl))

few_of : {n : NorView} {slots last : ℕ → Slot} {placed later : List ℕ} {is : List Instr} → Run n slots placed later is last → Few slots later is
few_of done = record { few = omega arith; fewer = λ c e some. omega arith }
few_of {slots = slots} (refill {later = later} {cells = cells} none rises names_them run) =
    let rest = few_of run in
    let first = one_of cells rises in
    record {
      few = (let h = rest.fewer first.0 (anew_primed (slots first.0) (sym (names_them first.0) ∙ first.1)) (omega arith) in omega arith);
      fewer = λ c e some. absurd (true≢false (sym (ap is_primed e) ∙ none c));
    }
few_of (nor {later = later} next gate_is least hold run) =
    let rest = few_of run in
    record { few = (let h = rest.few in omega arith); fewer = λ c e some. (let h = rest.few in omega arith) }
few_of (one {later = later} next gate_is least run) =
    let rest = few_of run in
    record { few = (let h = rest.few in omega arith); fewer = λ c e some. (let h = rest.few in omega arith) }

pub few-run : {n : NorView} {slots last : ℕ → Slot} {placed later : List ℕ} {is : List Instr} → Run n slots placed later is last → length is ≤ 2 * length later
few-run r = (few_of r).few
