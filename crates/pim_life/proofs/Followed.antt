-- The tracks of cells, after the instructions were gone through.
use Rattle.std.proofs.Common.{◌≡◌, ℕ, ◌+◌, ◌<◌, Bool, true, false, ◌||◌, cond, eqb, ltb, List, [], ◌∷◌, ◌++◌, length, set, map, Option, Some, None, refl, sym, ap, subst, inl, inr, ◌∙◌, arith, append-nil, append_assoc, length-set, get_or-set_same, get_or-set_other}
use Rattle.std.specs.Prelude.{All, replicate, option_map, option_to_list}
use Rattle.std.specs.List.{range_with_len}
use Rattle.std.proofs.lemmas.Bool.{cases_eq, eq-eqb, eqb-true, ne_eqb, false≢true, false_from_ne_true, and_parts, or_cases, ltb-true}
use Rattle.std.proofs.lemmas.List.{length-map, length-replicate, get_or-replicate, get_or-map}
use Rattle.std.proofs.lemmas.List.Elements.{All-head, All-tail, All-weaker}
use Rattle.std.proofs.lemmas.List.FromFn.{fill_by_all}
use Rattle.pim_isa.specs.declared.instr.Instr.{Instr}
use Rattle.pim_isa.specs.declared.instr.Instr.TheVariants.{Init, Nor, Rm3}
use Rattle.pim_isa.specs.Programs.{ProgramView}
use Rattle.pim_isa.specs.Sound.{cells_of, IsProgram, IsValid}
use Rattle.pim_isa.specs.Touches.{reads, writes}
use Rattle.pim_isa.specs.Validity.{has, has_good_list, rises_above}
use Rattle.pim_life.specs.declared.life.Start.TheVariants.{Load, At}
use Rattle.pim_life.specs.declared.life.End.{End}
use Rattle.pim_life.specs.declared.life.End.TheVariants.{Read, Output}
use Rattle.pim_life.specs.declared.life.Life.{Life}
use Rattle.pim_life.specs.Lives.{cell_lives, end_of, written_lives}
use Rattle.pim_life.specs.inner.Tracks.{TrackView, after_instr, after_instrs, all_changed, all_ended, all_loaded, blank, ended, loaded, track_at, track_lives, tracks_of, unread, written}
use Rattle.pim_life.proofs.Ends.{end_from, end_from-unread, read_on}

-- ---- rising lists

-- each number is above the one before it
abbrev pub Rises : List ℕ → Type 0
Rises [] = Unit {0}
Rises (c ∷ cs) = rises_above c cs ≡ true

rises-above : (c : ℕ) (cs : List ℕ) → rises_above c cs ≡ true → (d : ℕ) → has d cs ≡ true → c < d
rises-above c [] up d there = absurd (false≢true there)
rises-above c (x ∷ xs) up d there =
    let both : (ltb c x ≡ true) × (rises_above x xs ≡ true) = and_parts (ltb c x) (rises_above x xs) up in
    elim (or_cases (eqb x d) (has d xs) there) [
      | inl same ↦ omega (arith, ltb-true c x both.0, eqb-true x d same)
      | inr later ↦ omega (arith, ltb-true c x both.0, rises-above x xs both.1 d later)
    ]

Rises-rest : (c : ℕ) (cs : List ℕ) → Rises (c ∷ cs) → Rises cs
Rises-rest c [] up = tt
Rises-rest c (d ∷ ds) up = (and_parts (ltb c d) (rises_above d ds) up).1

-- the first one is not among the others
first_once : (c : ℕ) (cs : List ℕ) → Rises (c ∷ cs) → has c cs ≡ false
first_once c cs up = false_from_ne_true (has c cs) (λ there. let below : c < c = rises-above c cs up c there in omega arith)

-- what a valid instruction writes is a rising list
writes_rise : (i : Instr) → has_good_list i ≡ true → Rises (writes i)
writes_rise (Init []) good = tt
writes_rise (Init (c ∷ cs)) good = good
writes_rise (Nor t ins) good = refl
writes_rise (Rm3 p q z) good = refl

-- ---- the track of one cell, after a list of cells was gone through

length-all_changed : (f : ℕ → TrackView → TrackView) (cs : List ℕ) (ts : List TrackView) →
    length (all_changed f cs ts) ≡ length ts
length-all_changed f [] ts = refl
length-all_changed f (d ∷ ds) ts = length-all_changed f ds _ ∙ length-set ts d (f d (track_at ts d))

-- one cell more, which is this one or another: it is changed once at least, or once in all
one_cell : (f : ℕ → TrackView → TrackView) (d c : ℕ) (b : Bool) (ts : List TrackView) → c < length ts →
    (d ≡ c → cond b (f c (f c (track_at ts c))) (f c (track_at ts c)) ≡ f c (track_at ts c)) →
    cond b (f c (track_at (set ts d (f d (track_at ts d))) c)) (track_at (set ts d (f d (track_at ts d))) c)
    ≡ cond (eqb d c || b) (f c (track_at ts c)) (track_at ts c)
one_cell f d c b ts lt once =
    elim (cases_eq d c) [
      | inl same ↦
          let written : track_at (set ts d (f d (track_at ts d))) c ≡ f c (track_at ts c) =
          subst (λ (x : ℕ). track_at (set ts x (f x (track_at ts x))) c ≡ f c (track_at ts c)) (sym same) (get_or-set_same ts c _ blank lt) in
          ap (λ (t : TrackView). cond b (f c t) t) written ∙ once same
          ∙ ap (λ (y : Bool). cond (y || b) (f c (track_at ts c)) (track_at ts c)) (sym (eq-eqb d c same))
      | inr other ↦
          let kept : track_at (set ts d (f d (track_at ts d))) c ≡ track_at ts c =
          get_or-set_other ts d c _ blank (λ same. other (sym same)) in
          ap (λ (t : TrackView). cond b (f c t) t) kept
          ∙ ap (λ (y : Bool). cond (y || b) (f c (track_at ts c)) (track_at ts c)) (sym (ne_eqb d c other))
    ]

twice : (b : Bool) (t u : TrackView) → u ≡ t → cond b u t ≡ t
twice true t u is = is
twice false t u is = refl

-- where the change makes no difference the second time
track_at-again : (f : ℕ → TrackView → TrackView) → ((c : ℕ) (t : TrackView) → f c (f c t) ≡ f c t) →
    (cs : List ℕ) (ts : List TrackView) (c : ℕ) → c < length ts →
    track_at (all_changed f cs ts) c ≡ cond (has c cs) (f c (track_at ts c)) (track_at ts c)
track_at-again f again [] ts c lt = refl
track_at-again f again (d ∷ ds) ts c lt =
    let longer : c < length (set ts d (f d (track_at ts d))) = omega (arith, length-set ts d (f d (track_at ts d))) in
    track_at-again f again ds _ c longer
    ∙ one_cell f d c (has c ds) ts lt (λ same. twice (has c ds) _ _ (again c (track_at ts c)))

ended-again : (e : End) (past : List Life) (current : Option Life) →
    ended e (ended e (record { past = past; current = current })) ≡ ended e (record { past = past; current = current })
ended-again e past None = refl
ended-again e past (Some l) = refl

track_at-all_ended : (e : End) (cs : List ℕ) (ts : List TrackView) (c : ℕ) → c < length ts →
    track_at (all_ended e cs ts) c ≡ cond (has c cs) (ended e (track_at ts c)) (track_at ts c)
track_at-all_ended e cs ts c lt = track_at-again (λ c. ended e) (λ c t. ended-again e t.past t.current) cs ts c lt

-- where the list names no cell twice
track_at-rising : (f : ℕ → TrackView → TrackView) (cs : List ℕ) (ts : List TrackView) (c : ℕ) → Rises cs → c < length ts →
    track_at (all_changed f cs ts) c ≡ cond (has c cs) (f c (track_at ts c)) (track_at ts c)
track_at-rising f [] ts c up lt = refl
track_at-rising f (d ∷ ds) ts c up lt =
    let longer : c < length (set ts d (f d (track_at ts d))) = omega (arith, length-set ts d (f d (track_at ts d))) in
    track_at-rising f ds _ c (Rises-rest d ds up) longer
    ∙ one_cell f d c (has c ds) ts lt
    (λ same. ap (λ (b : Bool). cond b (f c (f c (track_at ts c))) (f c (track_at ts c))) (ap (λ (x : ℕ). has x ds) (sym same) ∙ first_once d ds up))

-- ---- the lives that a track comes to

-- a life, as it ends given the instructions that follow
abbrev life_on : ℕ → Bool → ℕ → List Instr → Life → Life
life_on c out k is l = record l { end = end_from c out l.end k is }

-- the lives of a cell with this track, given the instructions that follow
abbrev resumed : ℕ → Bool → ℕ → List Instr → TrackView → List Life
resumed c out k is t = (t.past ++ option_to_list (option_map (life_on c out k is) t.current)) ++ written_lives c out k is

-- the lives of a cell at the end
abbrev finished : Bool → TrackView → List Life
finished out t = track_lives (cond out (ended Output t) t)

-- the track after an instruction that reads and writes the cell, or doesn't
abbrev stepped : ℕ → ℕ → Bool → Bool → TrackView → TrackView
stepped k c w r t = cond w (written k c (cond r (ended (Read k) t) t)) (cond r (ended (Read k) t) t)

resumed_end : (c : ℕ) (out : Bool) (k : ℕ) (past : List Life) (current : Option Life) →
    finished out (record { past = past; current = current }) ≡ resumed c out k [] (record { past = past; current = current })
resumed_end c true k past None = sym (append-nil _)
resumed_end c true k past (Some l) = sym (append-nil _)
resumed_end c false k past None = sym (append-nil _)
resumed_end c false k past (Some l) = sym (append-nil _)

-- a life begins behind those before it
life_begins : (c : ℕ) (out : Bool) (k : ℕ) (is : List Instr) (before : List Life) →
    (before ++ life_on c out (k + 1) is (unread c (At k)) ∷ []) ++ written_lives c out (k + 1) is
    ≡ before ++ (record { cell = c; start = At k; end = end_of c out (k + 1) is } ∷ written_lives c out (k + 1) is)
life_begins c out k is before =
    append_assoc before _ (written_lives c out (k + 1) is)
    ∙ ap (λ (e : End). before ++ (record { cell = c; start = At k; end = e } ∷ written_lives c out (k + 1) is)) (end_from-unread c out (k + 1) is)

resumed_step : (c : ℕ) (out w r : Bool) (k : ℕ) (is : List Instr) (past : List Life) (current : Option Life) →
    resumed c out (k + 1) is (stepped k c w r (record { past = past; current = current }))
    ≡ (past ++ option_to_list (option_map (λ (l : Life). record l { end = cond w (read_on k r l.end) (end_from c out (read_on k r l.end) (k + 1) is) }) current))
    ++ (cond w (record { cell = c; start = At k; end = end_of c out (k + 1) is } ∷ []) [] ++ written_lives c out (k + 1) is)
resumed_step c out false false k is past None = refl
resumed_step c out false false k is past (Some l) = refl
resumed_step c out false true k is past None = refl
resumed_step c out false true k is past (Some l) = refl
resumed_step c out true false k is past None = life_begins c out k is (past ++ [])
resumed_step c out true false k is past (Some l) = life_begins c out k is (past ++ l ∷ [])
resumed_step c out true true k is past None = life_begins c out k is (past ++ [])
resumed_step c out true true k is past (Some l) = life_begins c out k is (past ++ record l { end = Read k } ∷ [])

track_at-after_instr : (k : ℕ) (i : Instr) (ts : List TrackView) (c : ℕ) → Rises (writes i) → c < length ts →
    track_at (after_instr k i ts) c ≡ stepped k c (has c (writes i)) (has c (reads i)) (track_at ts c)
track_at-after_instr k i ts c up lt =
    let longer : c < length (all_ended (Read k) (reads i) ts) = omega (arith, length-all_changed (λ c. ended (Read k)) (reads i) ts) in
    track_at-rising (written k) (writes i) _ c up longer
    ∙ ap (λ (t : TrackView). cond (has c (writes i)) (written k c t) t) (track_at-all_ended (Read k) (reads i) ts c lt)

length-after_instr : (k : ℕ) (i : Instr) (ts : List TrackView) → length (after_instr k i ts) ≡ length ts
length-after_instr k i ts =
    length-all_changed (written k) (writes i) _ ∙ length-all_changed (λ c. ended (Read k)) (reads i) ts

length-after_instrs : (k : ℕ) (is : List Instr) (ts : List TrackView) → length (after_instrs k is ts) ≡ length ts
length-after_instrs k [] ts = refl
length-after_instrs k (i ∷ is) ts = length-after_instrs (k + 1) is _ ∙ length-after_instr k i ts

-- the lives that the track of a cell comes to
finished-after_instrs : (k : ℕ) (is : List Instr) (ts : List TrackView) (c : ℕ) (out : Bool) →
    All (λ i. has_good_list i ≡ true) is → c < length ts →
    finished out (track_at (after_instrs k is ts) c) ≡ resumed c out k is (track_at ts c)
finished-after_instrs k [] ts c out good lt = resumed_end c out k (track_at ts c).past (track_at ts c).current
finished-after_instrs k (i ∷ is) ts c out good lt =
    let longer : c < length (after_instr k i ts) = omega (arith, length-after_instr k i ts) in
    let up = writes_rise i (All-head (λ i. has_good_list i ≡ true) i is good) in
    finished-after_instrs (k + 1) is _ c out (All-tail (λ i. has_good_list i ≡ true) i is good) longer
    ∙ ap (resumed c out (k + 1) is) (track_at-after_instr k i ts c up lt)
    ∙ resumed_step c out (has c (writes i)) (has c (reads i)) k is (track_at ts c).past (track_at ts c).current

-- ---- a whole program

-- what a cell begins with, as an input or not
resumed_begin : (c : ℕ) (out loads : Bool) (is : List Instr) →
    resumed c out 0 is (cond loads (loaded c blank) blank)
    ≡ cond loads (record { cell = c; start = Load; end = end_of c out 0 is } ∷ []) [] ++ written_lives c out 0 is
resumed_begin c out true is =
    ap (λ (e : End). record { cell = c; start = Load; end = e } ∷ written_lives c out 0 is) (end_from-unread c out 0 is)
resumed_begin c out false is = refl

pub length-tracks_of : (p : ProgramView) → length (tracks_of p) ≡ p.cells
length-tracks_of p =
    length-all_changed (λ c. ended Output) (cells_of p.outputs) _
    ∙ length-after_instrs 0 p.instrs _
    ∙ length-all_changed loaded (cells_of p.inputs) _
    ∙ length-replicate p.cells blank

-- the lists of valid instructions
good_lists : (p : ProgramView) → IsProgram p → All (λ i. has_good_list i ≡ true) p.instrs
good_lists p valid =
    All-weaker (IsValid p.target p.cells) (λ i. has_good_list i ≡ true) (λ i ok. ok.listed) p.instrs valid.sound.instrs

track_of_cell : (p : ProgramView) → IsProgram p → (c : ℕ) → c < p.cells →
    track_lives (track_at (tracks_of p) c) ≡ cell_lives p c
track_of_cell p valid c lt =
    let none = replicate p.cells blank in
    let start = all_loaded (cells_of p.inputs) none in
    let out = has c (cells_of p.outputs) in
    let lt0 : c < length none = omega (arith, length-replicate p.cells blank) in
    let lt1 : c < length start = omega (arith, length-all_changed loaded (cells_of p.inputs) none) in
    let lt2 : c < length (after_instrs 0 p.instrs start) = omega (arith, length-after_instrs 0 p.instrs start) in
    ap track_lives (track_at-all_ended Output (cells_of p.outputs) (after_instrs 0 p.instrs start) c lt2)
    ∙ finished-after_instrs 0 p.instrs start c out (good_lists p valid) lt1
    ∙ ap (resumed c out 0 p.instrs) (track_at-again loaded (λ c t. refl) (cells_of p.inputs) none c lt0
    ∙ ap (λ (t : TrackView). cond (has c (cells_of p.inputs)) (loaded c t) t) (get_or-replicate p.cells c blank blank lt))
    ∙ resumed_begin c out (has c (cells_of p.inputs)) p.instrs

pub lives_of_tracks : (p : ProgramView) → IsProgram p → map track_lives (tracks_of p) ≡ map (cell_lives p) (range_with_len 0 p.cells)
lives_of_tracks p valid =
    fill_by_all (cell_lives p) (map track_lives (tracks_of p)) p.cells [] (length-map (tracks_of p) track_lives ∙ length-tracks_of p)
    (λ c lt. let within : c < length (tracks_of p) = omega (arith, length-tracks_of p) in
    get_or-map track_lives (tracks_of p) c blank [] within ∙ track_of_cell p valid c lt)
