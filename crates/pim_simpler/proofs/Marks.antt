-- What the cells are, as a run goes on: each held gate is still needed and held once, and the same cells are work cells.
use Rattle.std.proofs.Common.{◌≡◌, ◌⊎◌, ℕ, Bool, true, false, ◌||◌, ◌&&◌, not, eqb, leb, ltb, cond, List, [], ◌∷◌, ◌++◌, fold, inl, inr, refl, sym, ap, ◌∙◌, subst}
use Rattle.std.proofs.Math.ListN as lists
use Rattle.std.proofs.lemmas.Bool.{cases_Bool, false≢true, or_cases, or_left, or_right, eqb-true, eq-eqb}
use Rattle.pim_graph.specs.Graphs.{has as among, kids_of}
use Rattle.pim_graph.specs.Peaks.{needed, read_by}
use Rattle.pim_isa.specs.Validity.{has}
use Rattle.pim_nor.specs.GateGraphs.{graph_of, gates_read, gates_among, with_gate}
use Rattle.pim_nor.specs.Network.{NorView, is_nor}
use Rattle.pim_nor.specs.declared.network.Gate.{Gate}
use Rattle.pim_nor.specs.declared.network.Gate.TheVariants.{One, Not, Nor, Nor3, Nor4}
use Rattle.pim_nor.specs.declared.network.Pin.{Pin}
use Rattle.pim_nor.specs.declared.network.Pin.TheVariants.{Input, Gate as Place}
use Rattle.pim_simpler.specs.Following.{gate_at}
use Rattle.pim_simpler.specs.inner.Slots.{Slot, primed, held, expired, outside, is_outside, start, anew, refilled, put, kept, settled, AllHold, Works}
use Rattle.pim_simpler.proofs.Placing.{among-append, among-push}

-- ---- back from what a cell is after a step to what it was

pub held_same : (g h : ℕ) → held g ≡ held h → g ≡ h
held_same g h e = cc

pub anew-held : (s : Slot) (g : ℕ) → anew s ≡ held g → s ≡ held g
anew-held primed g e = cc
anew-held (held h) g e = e
anew-held expired g e = cc
anew-held outside g e = cc

-- a cell that holds a gate held it before, and the gate is still needed
pub kept-held : (n : NorView) (wanted : ℕ → Bool) (s : Slot) (g : ℕ) → kept n wanted s ≡ held g → (s ≡ held g) × (wanted g ≡ true)
kept-held n wanted primed g e = cc
kept-held n wanted (held h) g e =
    elim (cases_Bool (wanted h)) [
      | inl wants ↦
          let same : held h ≡ held g = sym (ap (λ (b : Bool). cond b (held h) (cond (is_nor (gate_at n h)) expired primed)) wants) ∙ e in
          (same, ap wanted (sym (held_same h g same)) ∙ wants)
      | inr lets_go ↦
          let gone : cond (is_nor (gate_at n h)) expired primed ≡ held g = sym (ap (λ (b : Bool). cond b (held h) (cond (is_nor (gate_at n h)) expired primed)) lets_go) ∙ e in
          absurd (elim (cases_Bool (is_nor (gate_at n h))) [
            | inl is_one ↦ let f : expired ≡ held g = sym (ap (λ (b : Bool). cond b expired primed) is_one) ∙ gone in cc
            | inr is_none ↦ let f : primed ≡ held g = sym (ap (λ (b : Bool). cond b expired primed) is_none) ∙ gone in cc
          ])
    ]
kept-held n wanted expired g e = cc
kept-held n wanted outside g e = cc

-- and on
pub kept-stays : (n : NorView) (wanted : ℕ → Bool) (s : Slot) (g : ℕ) → s ≡ held g → wanted g ≡ true → kept n wanted s ≡ held g
kept-stays n wanted s g is wants =
    ap (kept n wanted) is ∙ ap (λ (b : Bool). cond b (held g) (cond (is_nor (gate_at n g)) expired primed)) wants

pub put-there : (t g : ℕ) (slots : ℕ → Slot) → put t g slots t ≡ held g
put-there t g slots = ap (λ (b : Bool). cond b (held g) (slots t)) (eq-eqb t t refl)

pub put-elsewhere : (t g c : ℕ) (slots : ℕ → Slot) → eqb t c ≡ false → put t g slots c ≡ slots c
put-elsewhere t g c slots other = ap (λ (b : Bool). cond b (held g) (slots c)) other

-- a cell that holds a gate after one was put is the new one's, or held it before
pub put-held : (t g c h : ℕ) (slots : ℕ → Slot) → put t g slots c ≡ held h → ((t ≡ c) × (g ≡ h)) ⊎ (slots c ≡ held h)
put-held t g c h slots e =
    elim (cases_Bool (eqb t c)) [
      | inl same ↦ inl (eqb-true t c same, held_same g h (sym (ap (λ (b : Bool). cond b (held g) (slots c)) same) ∙ e))
      | inr other ↦ inr (sym (put-elsewhere t g c slots other) ∙ e)
    ]

-- ---- each held gate

pub record Apart (n : NorView) (placed later : List ℕ) (slots : ℕ → Slot) : Type 0 where
  pub wanted : (c g : ℕ) → slots c ≡ held g → needed (graph_of n) later g ≡ true
  pub before : (c g : ℕ) → slots c ≡ held g → among placed g ≡ true
  pub single : (c d g : ℕ) → slots c ≡ held g → slots d ≡ held g → c ≡ d

pub Apart-refill : (n : NorView) (placed later : List ℕ) (slots : ℕ → Slot) → Apart n placed later slots → Apart n placed later (refilled slots)
Apart-refill n placed later slots apart = record {
  wanted = λ c g e. apart.wanted c g (anew-held (slots c) g e);
  before = λ c g e. apart.before c g (anew-held (slots c) g e);
  single = λ c d g e f. apart.single c d g (anew-held (slots c) g e) (anew-held (slots d) g f);
}

pub Apart-put : (n : NorView) (placed rest later : List ℕ) (slots : ℕ → Slot) (g t : ℕ) → among placed g ≡ false →
    Apart n placed rest slots → Apart n (placed ++ g ∷ []) later (settled n (needed (graph_of n) later) (put t g slots))
Apart-put n placed rest later slots g t fresh apart =
    let want : ℕ → Bool = needed (graph_of n) later in
    let back : (c h : ℕ) → settled n want (put t g slots) c ≡ held h → ((t ≡ c) × (g ≡ h)) ⊎ (slots c ≡ held h) =
    λ c h e. put-held t g c h slots (kept-held n want (put t g slots c) h e).0 in
    record {
      wanted = λ c h e. (kept-held n want (put t g slots c) h e).1;
      before = λ c h e.
          elim (back c h e) [
            | inl new ↦ let P : ℕ → Type 0 = λ x. among (placed ++ g ∷ []) x ≡ true in subst P new.1 (among-push placed g)
            | inr old ↦ among-append placed (g ∷ []) h ∙ or_left (among placed h) (eqb g h || false) (apart.before c h old)
          ];
      single = λ c d h e f.
          elim (back c h e) [
            | inl new ↦
                elim (back d h f) [
                  | inl also ↦ sym new.0 ∙ also.0
                  | inr old ↦ absurd (false≢true (sym fresh ∙ (ap (among placed) new.1 ∙ apart.before d h old)))
                ]
            | inr old ↦
                elim (back d h f) [
                  | inl new ↦ absurd (false≢true (sym fresh ∙ (ap (among placed) new.1 ∙ apart.before c h old)))
                  | inr also ↦ apart.single c d h old also
                ]
          ];
    }

none_held : (b : Bool) (g : ℕ) → cond b expired outside ≡ held g → ⊥
none_held true g e = cc
none_held false g e = cc

pub Apart-start : (n : NorView) (later : List ℕ) (first end : ℕ) → Apart n [] later (start first end)
Apart-start n later first end =
    let none : (c g : ℕ) → start first end c ≡ held g → ⊥ = λ c g e. none_held (leb first c && ltb c end) g e in
    record {
      wanted = λ c g e. absurd (none c g e);
      before = λ c g e. absurd (none c g e);
      single = λ c d g e f. absurd (none c g e);
    }

-- ---- the work cells

outside-anew : (s : Slot) → is_outside (anew s) ≡ is_outside s
outside-anew primed = refl
outside-anew (held g) = refl
outside-anew expired = refl
outside-anew outside = refl

outside-freed : (b d : Bool) (g : ℕ) → is_outside (cond b (held g) (cond d expired primed)) ≡ false
outside-freed true d g = refl
outside-freed false true g = refl
outside-freed false false g = refl

outside-kept : (n : NorView) (wanted : ℕ → Bool) (s : Slot) → is_outside (kept n wanted s) ≡ is_outside s
outside-kept n wanted primed = refl
outside-kept n wanted (held g) = outside-freed (wanted g) (is_nor (gate_at n g)) g
outside-kept n wanted expired = refl
outside-kept n wanted outside = refl

pub Works-refill : (work : ℕ → Bool) (slots : ℕ → Slot) → Works work slots → Works work (refilled slots)
Works-refill work slots works c = outside-anew (slots c) ∙ works c

pub Works-put : (n : NorView) (wanted work : ℕ → Bool) (slots : ℕ → Slot) (t g : ℕ) → slots t ≡ primed → Works work slots → Works work (settled n wanted (put t g slots))
Works-put n wanted work slots t g free works c =
    outside-kept n wanted (put t g slots c)
    ∙ elim (cases_Bool (eqb t c)) [
      | inl same ↦
          let here : t ≡ c = eqb-true t c same in
          ap is_outside (ap (λ (b : Bool). cond b (held g) (slots c)) same) ∙ (sym (ap is_outside free) ∙ (ap (λ (x : ℕ). is_outside (slots x)) here ∙ works c))
      | inr other ↦ ap is_outside (put-elsewhere t g c slots other) ∙ works c
    ]

start_outside : (b : Bool) → is_outside (cond b expired outside) ≡ not b
start_outside true = refl
start_outside false = refl

pub Works-start : (first end : ℕ) → Works (λ c. leb first c && ltb c end) (start first end)
Works-start first end c = start_outside (leb first c && ltb c end)

pub work_of : (work : ℕ → Bool) (slots : ℕ → Slot) → Works work slots → (c : ℕ) (s : Slot) → slots c ≡ s → is_outside s ≡ not (work c)
work_of work slots works c s is = ap is_outside (sym is) ∙ works c

-- ---- what a gate reads

pub kids-gate : (n : NorView) (g : ℕ) → kids_of (graph_of n) g ≡ gates_read (gate_at n g)
kids-gate n g = lists.get_or-map gates_read n.gates g One

-- a gate that stands among those of some pins was there before, or its cell is one of those that hold what the pins read
held_among : (slots : ℕ → Slot) (g c : ℕ) → ((d : ℕ) → slots d ≡ held g → d ≡ c) →
    (acc : List ℕ) (ps : List Pin) (cs : List ℕ) → among (fold with_gate acc ps) g ≡ true → AllHold slots cs ps → (among acc g ≡ true) ⊎ (has c cs ≡ true)
held_among slots g c alone acc [] [] there hold = inl there
held_among slots g c alone acc [] (d ∷ ds) there hold = absurd hold
held_among slots g c alone acc (p ∷ ps) [] there hold = absurd hold
held_among slots g c alone acc (Input k ∷ ps) (d ∷ ds) there hold =
    elim (held_among slots g c alone acc ps ds there hold.1) [
      | inl old ↦ inl old
      | inr rest ↦ inr (or_right (eqb d c) (has c ds) rest)
    ]
held_among slots g c alone acc (Place i ∷ ps) (d ∷ ds) there hold =
    elim (held_among slots g c alone (with_gate acc (Place i)) ps ds there hold.1) [
      | inl old ↦
          elim (cases_Bool (among acc i)) [
            | inl twice ↦ inl (sym (ap (λ (b : Bool). among (cond b acc (acc ++ i ∷ [])) g) twice) ∙ old)
            | inr new ↦
                let split : (among acc g || (eqb i g || false)) ≡ true =
                sym (among-append acc (i ∷ []) g) ∙ (sym (ap (λ (b : Bool). among (cond b acc (acc ++ i ∷ [])) g) new) ∙ old) in
                elim (or_cases (among acc g) (eqb i g || false) split) [
                  | inl before ↦ inl before
                  | inr last ↦
                      elim (or_cases (eqb i g) false last) [
                        | inl same ↦
                            let is : i ≡ g = eqb-true i g same in
                            inr (or_left (eqb d c) (has c ds) (eq-eqb d c (alone d (hold.0 ∙ ap (λ (x : ℕ). held x) is))))
                        | inr never ↦ absurd (false≢true never)
                      ]
                ]
          ]
      | inr rest ↦ inr (or_right (eqb d c) (has c ds) rest)
    ]

pub held_cell : (slots : ℕ → Slot) (g c : ℕ) → ((d : ℕ) → slots d ≡ held g → d ≡ c) →
    (ps : List Pin) (cs : List ℕ) → among (gates_among ps) g ≡ true → AllHold slots cs ps → has c cs ≡ true
held_cell slots g c alone ps cs there hold =
    elim (held_among slots g c alone [] ps cs there hold) [
      | inl never ↦ absurd (false≢true never)
      | inr found ↦ found
    ]

-- the constant one reads nothing
pub one_reads : (gate : Gate) → is_nor gate ≡ false → gates_read gate ≡ []
one_reads One e = refl
one_reads (Not a) e = cc
one_reads (Nor a b) e = cc
one_reads (Nor3 a b c) e = cc
one_reads (Nor4 a b c d) e = cc

-- a gate that this one doesn't read is needed after it, if it is needed from it on
pub needed-later : (n : NorView) (g : ℕ) (later : List ℕ) (h : ℕ) → among (gates_read (gate_at n g)) h ≡ false → needed (graph_of n) (g ∷ later) h ≡ true → needed (graph_of n) later h ≡ true
needed-later n g later h unread wants =
    let none : among (kids_of (graph_of n) g) h ≡ false = ap (λ (xs : List ℕ). among xs h) (kids-gate n g) ∙ unread in
    sym (ap (λ (b : Bool). (b || read_by (graph_of n) later h) || among (graph_of n).roots h) none) ∙ wants
