-- With a cell for each gate one Init is enough.
use Rattle.std.proofs.Common.{◌≡◌, ◌⊎◌, ℕ, zero, suc, ◌+◌, ◌-◌, ◌<◌, ◌≤◌, Bool, true, false, ◌||◌, ◌&&◌, eqb, leb, ltb, cond, List, [], ◌∷◌, length, inl, inr, refl, sym, ap, ◌∙◌, arith}
use Rattle.std.specs.Prelude.{count_by}
use Rattle.std.proofs.lemmas.Bool.{cases_Bool, false≢true, true≢false, or_cases, or_left, or_right, and_from, eqb-true, lt-ltb, le-leb}
use Rattle.std.proofs.lemmas.List.Sums.{sum_by-cons}
use Rattle.pim_graph.specs.Graphs.{has as among}
use Rattle.pim_graph.specs.Peaks.{needed}
use Rattle.pim_isa.specs.declared.instr.Instr.{Instr}
use Rattle.pim_isa.specs.declared.instr.Instr.TheVariants as instr
use Rattle.pim_isa.specs.Primed.{is_init}
use Rattle.pim_nor.specs.GateGraphs.{graph_of}
use Rattle.pim_nor.specs.Network.{NorView}
use Rattle.pim_simpler.specs.inner.Slots.{Slot, primed, expired, outside, is_primed, start, anew, refilled, put, kept, settled}
use Rattle.pim_simpler.specs.inner.Runs.{Run}
use Rattle.pim_simpler.specs.inner.Runs.Run.{done, refill, nor, one}
use Rattle.pim_simpler.proofs.Marks.{put-elsewhere}

-- ---- as many places as different numbers

-- the list without the first entry that is x
pub without : ℕ → List ℕ → List ℕ
without x [] = []
without x (y ∷ ys) = cond (eqb y x) ys (y ∷ without x ys)

shorter : (b : Bool) (x y : ℕ) (ys : List ℕ) → (b ≡ false → suc (length (without x ys)) ≡ length ys) → suc (length (cond b ys (y ∷ without x ys))) ≡ suc (length ys)
shorter true x y ys rest = refl
shorter false x y ys rest = ap suc (rest refl)

pub length-without : (x : ℕ) (ys : List ℕ) → among ys x ≡ true → suc (length (without x ys)) ≡ length ys
unfolding without
length-without x [] there = absurd (false≢true there)
length-without x (y ∷ ys) there =
    shorter (eqb y x) x y ys
    (λ other. elim (or_cases (eqb y x) (among ys x) there) [
      | inl same ↦ absurd (false≢true (sym other ∙ same))
      | inr later ↦ length-without x ys later
    ])

other_stays : (b : Bool) (x y z : ℕ) (ys : List ℕ) → b ≡ eqb y x → (z ≡ x → ⊥) → (among ys z ≡ true → among (without x ys) z ≡ true) → (eqb y z || among ys z) ≡ true → among (cond b ys (y ∷ without x ys)) z ≡ true
other_stays true x y z ys is apart rest there =
    elim (or_cases (eqb y z) (among ys z) there) [
      | inl same ↦ absurd (apart (sym (eqb-true y z same) ∙ eqb-true y x (sym is)))
      | inr later ↦ later
    ]
other_stays false x y z ys is apart rest there =
    elim (or_cases (eqb y z) (among ys z) there) [
      | inl same ↦ or_left (eqb y z) (among (without x ys) z) same
      | inr later ↦ or_right (eqb y z) (among (without x ys) z) (rest later)
    ]

pub among-without : (x : ℕ) (ys : List ℕ) (z : ℕ) → (z ≡ x → ⊥) → among ys z ≡ true → among (without x ys) z ≡ true
unfolding without
among-without x [] z apart there = absurd (false≢true there)
among-without x (y ∷ ys) z apart there = other_stays (eqb y x) x y z ys refl apart (among-without x ys z apart) there

-- numbers that differ and stand in a list are no more than its entries
pub pigeons : (w : ℕ) (f : ℕ → ℕ) (ys : List ℕ) → ((k : ℕ) → k < w → among ys (f k) ≡ true) → ((j k : ℕ) → j < w → k < w → f j ≡ f k → j ≡ k) → w ≤ length ys
pigeons zero f ys there apart = omega arith
pigeons (suc w) f ys there apart =
    let rest : w ≤ length (without (f w) ys) =
    pigeons w f (without (f w) ys)
    (λ k small. among-without (f w) ys (f k) (λ e. let same : k ≡ w = apart k w (omega arith) (omega arith) e in omega arith) (there k (omega arith)))
    (λ j k l m e. apart j k (omega arith) (omega arith) e) in
    omega (arith, rest, length-without (f w) ys (there w (omega arith)))

-- ---- the Inits of a run

count-init : (i : Instr) (is : List Instr) → count_by is_init (i ∷ is) ≡ cond (is_init i) 1 0 + count_by is_init is
count-init i is = sum_by-cons (λ (j : Instr). cond (is_init j) 1 0) i is

kept-primed : (n : NorView) (wanted : ℕ → Bool) (s : Slot) → s ≡ primed → kept n wanted s ≡ primed
kept-primed n wanted s is = ap (kept n wanted) is

-- each cell that isn't primed was taken by one of the gates placed so far
abbrev AreTaken : (ℕ → Slot) → ℕ → ℕ → List ℕ → Type 0
AreTaken slots first end taken = (c : ℕ) → first ≤ c → c < end → (slots c ≡ primed) ⊎ (among taken c ≡ true)

taken-put : (n : NorView) (wanted : ℕ → Bool) (slots : ℕ → Slot) (first end t g : ℕ) (taken : List ℕ) → AreTaken slots first end taken →
    AreTaken (settled n wanted (put t g slots)) first end (t ∷ taken)
taken-put n wanted slots first end t g taken are c low high =
    elim (cases_Bool (eqb t c)) [
      | inl same ↦ inr (or_left (eqb t c) (among taken c) same)
      | inr other ↦
          elim (are c low high) [
            | inl free ↦ inl (kept-primed n wanted (put t g slots c) (put-elsewhere t g c slots other ∙ free))
            | inr was ↦ inr (or_right (eqb t c) (among taken c) was)
          ]
    ]

no_more : {n : NorView} {slots last : ℕ → Slot} {placed later : List ℕ} {is : List Instr} → Run n slots placed later is last →
    (first end : ℕ) (taken : List ℕ) → AreTaken slots first end taken → first + (length taken + length later) ≤ end → count_by is_init is ≡ 0
no_more done first end taken are few = refl
no_more {slots = slots} (refill {later = later} none rises names_them run) first end taken are few =
    let full : (k : ℕ) → k < end - first → among taken (first + k) ≡ true =
    λ k small. elim (are (first + k) (omega arith) (omega arith)) [
      | inl free ↦ absurd (true≢false (sym (ap is_primed free) ∙ none (first + k)))
      | inr was ↦ was
    ] in
    absurd (omega (arith, pigeons (end - first) (λ (k : ℕ). first + k) taken full (λ j k l m e. omega arith)))
no_more {n} {slots} (nor {later = later} {g = g} {t = t} {ins = ins} {is = is} next gate_is least hold run) first end taken are few =
    count-init (instr.Nor t ins) is
    ∙ (ap (λ (k : ℕ). 0 + k) (no_more run first end (t ∷ taken) (taken-put n (needed (graph_of n) later) slots first end t g taken are) (omega arith)) ∙ omega arith)
no_more {n} {slots} (one {later = later} {g = g} {t = t} next gate_is least run) first end taken are few =
    no_more run first end (t ∷ taken) (taken-put n (needed (graph_of n) later) slots first end t g taken are) (omega arith)

not_at_start : (b : Bool) → cond b expired outside ≡ primed → ⊥
not_at_start true e = cc
not_at_start false e = cc

fresh_cell : (first end c : ℕ) → first ≤ c → c < end → refilled (start first end) c ≡ primed
fresh_cell first end c low high =
    ap (λ (b : Bool). anew (cond b expired outside)) (and_from (leb first c) (ltb c end) (le-leb first c low) (lt-ltb c end high))

-- with as many cells as gates the first Init is the only one
pub one_init : {n : NorView} {slots last : ℕ → Slot} {placed later : List ℕ} {is : List Instr} → Run n slots placed later is last →
    (first end : ℕ) → ((c : ℕ) → slots c ≡ start first end c) → first + length later ≤ end → count_by is_init is ≤ 1
one_init done first end begins few = omega arith
one_init {slots = slots} (refill {cells = cells} {is = is} none rises names_them run) first end begins few =
    let rest : count_by is_init is ≡ 0 = no_more run first end [] (λ c low high. inl (ap anew (begins c) ∙ fresh_cell first end c low high)) (omega arith) in
    omega (arith, count-init (instr.Init cells) is)
one_init (nor {t = t} next gate_is least hold run) first end begins few =
    absurd (not_at_start (leb first t && ltb t end) (sym (begins t) ∙ least.is))
one_init (one {t = t} next gate_is least run) first end begins few =
    absurd (not_at_start (leb first t && ltb t end) (sym (begins t) ∙ least.is))
