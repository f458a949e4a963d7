-- What a run has still to emit says which cells are live.
use Rattle.std.proofs.Common.{◌≡◌, ℕ, Bool, true, false, ◌||◌, eqb, cond, List, [], ◌∷◌, ◌++◌, inl, inr, sym, ap, ◌∙◌}
use Rattle.std.proofs.lemmas.Bool.{cases_Bool, false≢true, or_from, ne_eqb, false_from_ne_true}
use Rattle.std.proofs.lemmas.List.{append-nil}
use Rattle.pim_graph.specs.Graphs.{has as among}
use Rattle.pim_graph.specs.Peaks.{needed}
use Rattle.pim_isa.specs.declared.instr.Instr.{Instr}
use Rattle.pim_isa.specs.declared.instr.Instr.TheVariants as instr
use Rattle.pim_isa.specs.Live.{is_live_in}
use Rattle.pim_isa.specs.Touches.{operands, reads, names}
use Rattle.pim_isa.specs.Validity.{has}
use Rattle.pim_nor.specs.GateGraphs.{graph_of, gates_read}
use Rattle.pim_nor.specs.Network.{NorView, pins}
use Rattle.pim_simpler.specs.Following.{gate_at}
use Rattle.pim_simpler.specs.inner.Slots.{Slot, primed, held, is_expired, anew, put, settled, AllHold}
use Rattle.pim_simpler.specs.inner.Runs.{Run}
use Rattle.pim_simpler.specs.inner.Runs.Run.{done, refill, nor, one}
use Rattle.pim_simpler.proofs.Marks.{Apart, Apart-refill, Apart-put, kept-stays, put-elsewhere, held_cell, one_reads, needed-later}

-- an instruction that doesn't name the cell leaves the question to the next one
live-past : (i : Instr) (is : List Instr) (outs : List ℕ) (c : ℕ) → has c (names i) ≡ false → is_live_in (i ∷ is) outs c ≡ is_live_in is outs c
live-past i is outs c other = ap (λ (b : Bool). cond b (has c (reads i)) (is_live_in is outs c)) other

-- the target is another cell than one that holds something
pub apart_from_target : (slots : ℕ → Slot) (t c g : ℕ) → slots t ≡ primed → slots c ≡ held g → eqb t c ≡ false
apart_from_target slots t c g free holds =
    ne_eqb t c (λ same. let e : primed ≡ held g = sym free ∙ (ap slots same ∙ holds) in cc)

-- a cell that holds a gate still holds it, where the gate is needed later and its cell is no target
stays : (n : NorView) (slots : ℕ → Slot) (wanted : ℕ → Bool) (t h c g : ℕ) → slots t ≡ primed → slots c ≡ held g → wanted g ≡ true →
    settled n wanted (put t h slots) c ≡ held g
stays n slots wanted t h c g free holds wants =
    kept-stays n wanted (put t h slots c) g (put-elsewhere t h c slots (apart_from_target slots t c g free holds) ∙ holds) wants

-- a cell that holds a gate is live
pub live-held : {n : NorView} {slots last : ℕ → Slot} {placed later : List ℕ} {is : List Instr} → Run n slots placed later is last →
    (outs : List ℕ) → AllHold last outs n.outs → Apart n placed later slots → (c g : ℕ) → slots c ≡ held g → is_live_in is outs c ≡ true
live-held {n} {slots} done outs ends apart c g holds =
    held_cell slots g c (λ d e. apart.single d c g e holds) n.outs outs (apart.wanted c g holds) ends
live-held {n} {slots} {last} {placed} (refill {later = later} {cells = cells} {g = x} {is = is} none rises names_them run) outs ends apart c g holds =
    let unnamed : has c (cells ++ []) ≡ false = ap (has c) (append-nil cells) ∙ (names_them c ∙ ap is_expired holds) in
    live-past (instr.Init cells) is outs c unnamed
    ∙ live-held run outs ends (Apart-refill n placed (x ∷ later) slots apart) c g (ap anew holds)
live-held {n} {slots} {last} {placed} (nor {later = later} {g = x} {t = t} {ins = ins} {is = is} next gate_is least hold run) outs ends apart c g holds =
    let other : eqb t c ≡ false = apart_from_target slots t c g least.is holds in
    elim (cases_Bool (has c (operands ins))) [
      | inl read ↦
          let named : (eqb t c || has c (operands ins)) ≡ true = ap (λ (b : Bool). b || has c (operands ins)) other ∙ read in
          ap (λ (b : Bool). cond b (has c (operands ins)) (is_live_in is outs c)) named ∙ read
      | inr unread ↦
          let none : among (gates_read (gate_at n x)) g ≡ false =
          false_from_ne_true (among (gates_read (gate_at n x)) g)
          (λ reads_it. false≢true (sym unread ∙ held_cell slots g c (λ d e. apart.single d c g e holds) (pins (gate_at n x)) (operands ins) reads_it hold)) in
          live-past (instr.Nor t ins) is outs c (or_from (eqb t c) (has c (operands ins)) other unread)
          ∙ live-held run outs ends (Apart-put n placed (x ∷ later) later slots x t next.fresh apart) c g
          (stays n slots (needed (graph_of n) later) t x c g least.is holds (needed-later n x later g none (apart.wanted c g holds)))
    ]
live-held {n} {slots} {last} {placed} (one {later = later} {g = x} {t = t} {is = is} next gate_is least run) outs ends apart c g holds =
    let none : among (gates_read (gate_at n x)) g ≡ false = ap (λ (xs : List ℕ). among xs g) (one_reads (gate_at n x) gate_is) in
    live-held run outs ends (Apart-put n placed (x ∷ later) later slots x t next.fresh apart) c g
    (stays n slots (needed (graph_of n) later) t x c g least.is holds (needed-later n x later g none (apart.wanted c g holds)))
