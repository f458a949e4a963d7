-- What a run has emitted so far follows the gates that it has placed, and is primed.
use Rattle.std.proofs.Common.{◌≡◌, ℕ, ◌+◌, ◌<◌, ◌≤◌, Bool, true, false, ◌||◌, ◌&&◌, eqb, leb, ltb, cond, List, [], ◌∷◌, ◌++◌, length, take, get_or, Some, inl, inr, refl, sym, ap, ◌∙◌, subst, arith, append_assoc}
use Rattle.std.specs.Prelude.{slice_get, slice_index, IsSomeAnd, IsTrue, MatchBool}
use Rattle.std.proofs.lemmas.Bool.{cases_Bool, or_from, eqb-true, eq-eqb, MatchBool-at_false, false≢true}
use Rattle.std.proofs.lemmas.List.{append-nil, take_all, take-append-le, get_or_append_left, get_or_push, length_push}
use Rattle.std.proofs.lemmas.Option.{slice_get_within}
use Rattle.pim_graph.specs.Graphs.{has as among}
use Rattle.pim_graph.specs.Peaks.{needed}
use Rattle.pim_isa.specs.declared.instr.Ins.{Ins}
use Rattle.pim_isa.specs.declared.instr.Instr.{Instr}
use Rattle.pim_isa.specs.declared.instr.Instr.TheVariants as instr
use Rattle.pim_isa.specs.Laws.{WriteLaws}
use Rattle.pim_isa.specs.Primed.{is_init, last_write_is_init, IsPrimed}
use Rattle.pim_isa.specs.Touches.{operands, writes}
use Rattle.pim_isa.specs.Validity.{has}
use Rattle.pim_isa.specs.Writes.{last_write, nor_places}
use Rattle.pim_nor.specs.GateGraphs.{graph_of}
use Rattle.pim_nor.specs.Network.{NorView, is_nor, pins}
use Rattle.pim_nor.specs.declared.network.Pin.{Pin}
use Rattle.pim_nor.specs.declared.network.Pin.TheVariants.{Input, Gate as Place}
use Rattle.pim_simpler.specs.Following.{gate_at, nors_of, place_of, Stands, AllStand}
use Rattle.pim_simpler.specs.inner.Slots.{Slot, primed, held, expired, outside, is_expired, start, anew, refilled, put, kept, settled, Holds, AllHold}
use Rattle.pim_simpler.specs.inner.Runs.{Run}
use Rattle.pim_simpler.specs.inner.Runs.Run.{done, refill, nor, one}
use Rattle.pim_simpler.proofs.Placing.{slice_get-push, MatchBool-map, IsSomeAnd-map, IsSomeAnd-from, nors-push_nor, nors-push_one, nors-fresh, Keeps, Keeps-append, place_of-push}

-- after these instructions the cell holds the value of a gate
abbrev pub Has : NorView → List ℕ → List ℕ → List Instr → ℕ → ℕ → Type 0
Has n gates places is c g =
    MatchBool (is_nor (gate_at n g))
    (IsSomeAnd (place_of gates places g) (λ p. last_write is c ≡ Some p))
    (IsTrue (last_write_is_init false is c))

-- what the instructions so far say of a cell
abbrev pub Tells : NorView → List ℕ → List Instr → ℕ → Slot → Type 0
Tells n gates is c primed = IsTrue (last_write_is_init false is c)
Tells n gates is c (held g) = Has n gates (nor_places is) is c g × (is_nor (gate_at n g) ≡ true → last_write_is_init false is c ≡ false)
Tells n gates is c expired = last_write_is_init false is c ≡ false
Tells n gates is c outside = Unit {0}

-- the instructions follow the gates placed so far and are primed, and what the cells are says how they were written last
pub record SoFar (n : NorView) (is : List Instr) (placed : List ℕ) (slots : ℕ → Slot) : Type 0 where
  pub count : length (nor_places is) ≡ length (nors_of n placed)
  pub below : (j q : ℕ) → slice_get (nor_places is) j ≡ Some q → q < length is
  pub reads : (j q t : ℕ) (ins : Ins) → slice_get (nor_places is) j ≡ Some q → slice_get is q ≡ Some (instr.Nor t ins) →
      AllStand n (nors_of n placed) is q (operands ins) (pins (gate_at n (slice_index (nors_of n placed) j)))
  pub are_primed : IsPrimed is
  pub cells : (c : ℕ) → Tells n (nors_of n placed) is c (slots c)

-- ---- what stands, stands on

-- what a pin reads stood at an earlier place, and does so with one instruction more
Stands-push : (n : NorView) (gs hs : List ℕ) (is : List Instr) (i : Instr) → Keeps gs (nor_places is) hs (nor_places (is ++ i ∷ [])) →
    (q c : ℕ) (pin : Pin) → q ≤ length is → Stands n gs is q c pin → Stands n hs (is ++ i ∷ []) q c pin
Stands-push n gs hs is i keeps q c (Input k) within stands = stands
Stands-push n gs hs is i keeps q c (Place g) within stands =
    let front : take q (is ++ i ∷ []) ≡ take q is = take-append-le q is (i ∷ []) within in
    let P : List Instr → Type 0 = λ js. MatchBool (is_nor (gate_at n g)) (IsSomeAnd (place_of hs (nor_places (is ++ i ∷ [])) g) (λ p. last_write js c ≡ Some p)) (IsTrue (last_write_is_init false js c)) in
    subst P (sym front)
    (MatchBool-map (is_nor (gate_at n g))
    (IsSomeAnd-map (place_of gs (nor_places is) g) (place_of hs (nor_places (is ++ i ∷ [])) g) (λ (p : ℕ). last_write (take q is) c ≡ Some p) (λ (p : ℕ). last_write (take q is) c ≡ Some p) (λ p e. keeps g p e) (λ p e. e))
    (λ b. b) stands)

AllStand-push : (n : NorView) (gs hs : List ℕ) (is : List Instr) (i : Instr) → Keeps gs (nor_places is) hs (nor_places (is ++ i ∷ [])) →
    (q : ℕ) (cs : List ℕ) (ps : List Pin) → q ≤ length is → AllStand n gs is q cs ps → AllStand n hs (is ++ i ∷ []) q cs ps
AllStand-push n gs hs is i keeps q [] [] within all = tt
AllStand-push n gs hs is i keeps q [] (p ∷ ps) within all = absurd all
AllStand-push n gs hs is i keeps q (c ∷ cs) [] within all = absurd all
AllStand-push n gs hs is i keeps q (c ∷ cs) (p ∷ ps) within all =
    (Stands-push n gs hs is i keeps q c p within all.0, AllStand-push n gs hs is i keeps q cs ps within all.1)

-- what a held cell holds stands there as the next instruction comes
Stands-from : (n : NorView) (gs : List ℕ) (is : List Instr) (slots : ℕ → Slot) → ((c : ℕ) → Tells n gs is c (slots c)) →
    (c : ℕ) (pin : Pin) → Holds slots c pin → Stands n gs is (length is) c pin
Stands-from n gs is slots tells c (Input k) holds = holds
Stands-from n gs is slots tells c (Place g) holds =
    let whole : take (length is) is ≡ is = take_all (length is) is (omega arith) in
    let F : Slot → Type 0 = Tells n gs is c in
    let told : Tells n gs is c (held g) = subst F holds (tells c) in
    let P : List Instr → Type 0 = λ js. Has n gs (nor_places is) js c g in
    subst P (sym whole) told.0

pub AllStand-from : (n : NorView) (gs : List ℕ) (is : List Instr) (slots : ℕ → Slot) → ((c : ℕ) → Tells n gs is c (slots c)) →
    (cs : List ℕ) (ps : List Pin) → AllHold slots cs ps → AllStand n gs is (length is) cs ps
AllStand-from n gs is slots tells [] [] all = tt
AllStand-from n gs is slots tells [] (p ∷ ps) all = absurd all
AllStand-from n gs is slots tells (c ∷ cs) [] all = absurd all
AllStand-from n gs is slots tells (c ∷ cs) (p ∷ ps) all =
    (Stands-from n gs is slots tells c p all.0, AllStand-from n gs is slots tells cs ps all.1)

-- ---- one instruction more, and the cells that it doesn't write

module _ (laws : WriteLaws) where
  init-push : (is : List Instr) (i : Instr) (c : ℕ) → last_write_is_init false (is ++ i ∷ []) c ≡ cond (has c (writes i)) (is_init i) (last_write_is_init false is c)
  init-push is i c = laws.init_append false is (i ∷ []) c

  init-push_other : (is : List Instr) (i : Instr) (c : ℕ) → has c (writes i) ≡ false → last_write_is_init false (is ++ i ∷ []) c ≡ last_write_is_init false is c
  init-push_other is i c other = init-push is i c ∙ ap (λ (b : Bool). cond b (is_init i) (last_write_is_init false is c)) other

  last_write-push_other : (is : List Instr) (i : Instr) (c : ℕ) → has c (writes i) ≡ false → last_write (is ++ i ∷ []) c ≡ last_write is c
  last_write-push_other is i c other =
      laws.last_write_push is i c ∙ ap (λ (b : Bool). cond b (Some (length is)) (last_write is c)) other

  Tells-push : (n : NorView) (gs hs : List ℕ) (is : List Instr) (i : Instr) → Keeps gs (nor_places is) hs (nor_places (is ++ i ∷ [])) →
      (c : ℕ) (s : Slot) → has c (writes i) ≡ false → Tells n gs is c s → Tells n hs (is ++ i ∷ []) c s
  Tells-push n gs hs is i keeps c primed other told = init-push_other is i c other ∙ told
  Tells-push n gs hs is i keeps c (held g) other told = (
    MatchBool-map (is_nor (gate_at n g))
        (IsSomeAnd-map (place_of gs (nor_places is) g) (place_of hs (nor_places (is ++ i ∷ [])) g) (λ (p : ℕ). last_write is c ≡ Some p) (λ (p : ℕ). last_write (is ++ i ∷ []) c ≡ Some p) (λ p e. keeps g p e)
        (λ p e. last_write-push_other is i c other ∙ e))
        (λ b. init-push_other is i c other ∙ b) told.0,
    λ is_one. init-push_other is i c other ∙ told.1 is_one,
  )
  Tells-push n gs hs is i keeps c expired other told = init-push_other is i c other ∙ told
  Tells-push n gs hs is i keeps c outside other told = tt

  -- after an Init that names the expired cells
  Tells-anew : (n : NorView) (gs : List ℕ) (is : List Instr) (cells : List ℕ) → Keeps gs (nor_places is) gs (nor_places (is ++ instr.Init cells ∷ [])) →
      (c : ℕ) (s : Slot) → has c cells ≡ is_expired s → Tells n gs is c s → Tells n gs (is ++ instr.Init cells ∷ []) c (anew s)
  Tells-anew n gs is cells keeps c primed names told = Tells-push n gs gs is (instr.Init cells) keeps c primed names told
  Tells-anew n gs is cells keeps c (held g) names told = Tells-push n gs gs is (instr.Init cells) keeps c (held g) names told
  Tells-anew n gs is cells keeps c expired names told =
      init-push is (instr.Init cells) c ∙ ap (λ (b : Bool). cond b true (last_write_is_init false is c)) names
  Tells-anew n gs is cells keeps c outside names told = tt

  -- ---- an Init more
  Keeps-init : (gs : List ℕ) (is : List Instr) (cells : List ℕ) → Keeps gs (nor_places is) gs (nor_places (is ++ instr.Init cells ∷ []))
  Keeps-init gs is cells g q found =
      let same : nor_places (is ++ instr.Init cells ∷ []) ≡ nor_places is = laws.nors_push is (instr.Init cells) ∙ append-nil (nor_places is) in
      ap (λ (ps : List ℕ). place_of gs ps g) same ∙ found

  -- an older NOR stands where it stood
  older : (is : List Instr) (i : Instr) (q t : ℕ) (ins : Ins) → q < length is → slice_get (is ++ i ∷ []) q ≡ Some (instr.Nor t ins) → slice_get is q ≡ Some (instr.Nor t ins)
  older is i q t ins within at =
      elim (slice_get-push is i (instr.Nor t ins) q at) [
        | inl before ↦ before
        | inr last ↦ absurd (omega (arith, last.0))
      ]

  pub SoFar-refill : (n : NorView) (is : List Instr) (placed cells : List ℕ) (slots : ℕ → Slot) → ((c : ℕ) → has c cells ≡ is_expired (slots c)) →
      SoFar n is placed slots → SoFar n (is ++ instr.Init cells ∷ []) placed (refilled slots)
  SoFar-refill n is placed cells slots names so =
      let i : Instr = instr.Init cells in
      let same : nor_places (is ++ i ∷ []) ≡ nor_places is = laws.nors_push is i ∙ append-nil (nor_places is) in
      record {
        count = ap (λ (ps : List ℕ). length ps) same ∙ so.count;
        below = λ j q at. omega (arith, so.below j q (ap (λ (ps : List ℕ). slice_get ps j) (sym same) ∙ at), length_push is i);
        reads = λ j q t ins at is_nor_at.
            let at_before : slice_get (nor_places is) j ≡ Some q = ap (λ (ps : List ℕ). slice_get ps j) (sym same) ∙ at in
            let within : q < length is = so.below j q at_before in
            AllStand-push n (nors_of n placed) (nors_of n placed) is i (Keeps-init (nors_of n placed) is cells) q (operands ins) _ (omega arith)
            (so.reads j q t ins at_before (older is i q t ins within is_nor_at));
        are_primed = laws.primed_push is i so.are_primed tt;
        cells = λ c. Tells-anew n (nors_of n placed) is cells (Keeps-init (nors_of n placed) is cells) c (slots c) (names c) (so.cells c);
      }

  -- ---- a gate more

  -- what is needed no longer is let go
  Tells-kept : (n : NorView) (gs : List ℕ) (is : List Instr) (wanted : ℕ → Bool) (c : ℕ) (s : Slot) → Tells n gs is c s → Tells n gs is c (kept n wanted s)
  Tells-kept n gs is wanted c primed told = told
  Tells-kept n gs is wanted c (held g) told =
      let F : Slot → Type 0 = Tells n gs is c in
      elim (cases_Bool (wanted g)) [
        | inl wants ↦ subst F (sym (ap (λ (b : Bool). cond b (held g) (cond (is_nor (gate_at n g)) expired primed)) wants)) told
        | inr lets_go ↦
            subst F (sym (ap (λ (b : Bool). cond b (held g) (cond (is_nor (gate_at n g)) expired primed)) lets_go))
            (elim (cases_Bool (is_nor (gate_at n g))) [
              | inl is_one ↦ subst F (sym (ap (λ (b : Bool). cond b expired primed) is_one)) (told.1 is_one)
              | inr is_none ↦ subst F (sym (ap (λ (b : Bool). cond b expired primed) is_none)) (MatchBool-at_false _ _ is_none told.0)
            ])
      ]
  Tells-kept n gs is wanted c expired told = told
  Tells-kept n gs is wanted c outside told = told

  Tells-put : (n : NorView) (gs : List ℕ) (is : List Instr) (t g c : ℕ) (slots : ℕ → Slot) → (t ≡ c → Tells n gs is c (held g)) → (eqb t c ≡ false → Tells n gs is c (slots c)) → Tells n gs is c (put t g slots c)
  Tells-put n gs is t g c slots here there =
      let F : Slot → Type 0 = Tells n gs is c in
      elim (cases_Bool (eqb t c)) [
        | inl same ↦ subst F (sym (ap (λ (b : Bool). cond b (held g) (slots c)) same)) (here (eqb-true t c same))
        | inr other ↦ subst F (sym (ap (λ (b : Bool). cond b (held g) (slots c)) other)) (there other)
      ]

  pub SoFar-nor : (n : NorView) (is : List Instr) (placed : List ℕ) (slots : ℕ → Slot) (wanted : ℕ → Bool) (g t : ℕ) (ins : Ins) →
      among placed g ≡ false → is_nor (gate_at n g) ≡ true → slots t ≡ primed → AllHold slots (operands ins) (pins (gate_at n g)) →
      SoFar n is placed slots → SoFar n (is ++ instr.Nor t ins ∷ []) (placed ++ g ∷ []) (settled n wanted (put t g slots))
  SoFar-nor n is placed slots wanted g t ins fresh gate_is free hold so =
      let i : Instr = instr.Nor t ins in
      let gs : List ℕ = nors_of n placed in
      let hs : List ℕ = nors_of n (placed ++ g ∷ []) in
      let more : hs ≡ gs ++ g ∷ [] = nors-push_nor n placed g gate_is in
      let places : nor_places (is ++ i ∷ []) ≡ nor_places is ++ length is ∷ [] = laws.nors_push is i in
      let keeps : Keeps gs (nor_places is) hs (nor_places (is ++ i ∷ [])) =
      λ x q found. ap (λ (ps : List ℕ). place_of hs ps x) places ∙ ap (λ (xs : List ℕ). place_of xs (nor_places is ++ length is ∷ []) x) more ∙ Keeps-append gs (nor_places is) (g ∷ []) (length is ∷ []) x q found in
      let found : place_of hs (nor_places (is ++ i ∷ [])) g ≡ Some (length is) =
      ap (λ (ps : List ℕ). place_of hs ps g) places ∙ ap (λ (xs : List ℕ). place_of xs (nor_places is ++ length is ∷ []) g) more ∙ place_of-push gs (nor_places is) g (length is) (nors-fresh n placed g fresh) (sym so.count) in
      let written : has t (writes i) ≡ true = ap (λ (b : Bool). b || false) (eq-eqb t t refl) in
      let at_target : last_write (is ++ i ∷ []) t ≡ Some (length is) =
      laws.last_write_push is i t ∙ ap (λ (b : Bool). cond b (Some (length is)) (last_write is t)) written in
      let no_init : last_write_is_init false (is ++ i ∷ []) t ≡ false =
      init-push is i t ∙ ap (λ (b : Bool). cond b false (last_write_is_init false is t)) written in
      let F : Slot → Type 0 = Tells n gs is t in
      let ready : IsTrue (last_write_is_init false is t) = subst F free (so.cells t) in
      record {
        count = ap (λ (ps : List ℕ). length ps) places ∙ length_push (nor_places is) (length is) ∙ ap (λ (k : ℕ). k + 1) so.count ∙ sym (length_push gs g) ∙ ap (λ (xs : List ℕ). length xs) (sym more);
        below = λ j q at.
            elim (slice_get-push (nor_places is) (length is) q j (ap (λ (ps : List ℕ). slice_get ps j) (sym places) ∙ at)) [
              | inl before ↦ omega (arith, so.below j q before, length_push is i)
              | inr last ↦ omega (arith, last.1, length_push is i)
            ];
        reads = λ j q u js at is_nor_at.
            elim (slice_get-push (nor_places is) (length is) q j (ap (λ (ps : List ℕ). slice_get ps j) (sym places) ∙ at)) [
              | inl before ↦
                  let within : q < length is = so.below j q before in
                  let small : j < length gs = omega (arith, slice_get_within (nor_places is) j q before, so.count) in
                  let same : slice_index hs j ≡ slice_index gs j = ap (λ (xs : List ℕ). get_or xs j 0) more ∙ get_or_append_left gs (g ∷ []) 0 j small in
                  let P : ℕ → Type 0 = λ x. AllStand n hs (is ++ i ∷ []) q (operands js) (pins (gate_at n x)) in
                  subst P (sym same)
                  (AllStand-push n gs hs is i keeps q (operands js) _ (omega arith) (so.reads j q u js before (older is i q u js within is_nor_at)))
              | inr last ↦
                  let same : slice_index hs j ≡ g = ap (λ (xs : List ℕ). get_or xs j 0) more ∙ get_or_push gs g 0 j (sym so.count ∙ sym last.0) in
                  let found_at : slice_get (is ++ i ∷ []) (length is) ≡ Some (instr.Nor u js) = ap (λ (k : ℕ). slice_get (is ++ i ∷ []) k) last.1 ∙ is_nor_at in
                  elim (slice_get-push is i (instr.Nor u js) (length is) found_at) [
                    | inl before ↦ absurd (omega (arith, slice_get_within is (length is) (instr.Nor u js) before))
                    | inr here ↦
                        let ins_same : ins ≡ js = let e : instr.Nor t ins ≡ instr.Nor u js = here.1 in cc in
                        let stands : AllStand n hs (is ++ i ∷ []) (length is) (operands ins) (pins (gate_at n g)) =
                        AllStand-push n gs hs is i keeps (length is) (operands ins) _ (omega arith) (AllStand-from n gs is slots so.cells (operands ins) _ hold) in
                        let P : ℕ → Type 0 = λ x. AllStand n hs (is ++ i ∷ []) q (operands js) (pins (gate_at n x)) in
                        let Q : ℕ → Type 0 = λ k. AllStand n hs (is ++ i ∷ []) k (operands js) (pins (gate_at n g)) in
                        let R : Ins → Type 0 = λ x. AllStand n hs (is ++ i ∷ []) (length is) (operands x) (pins (gate_at n g)) in
                        subst P (sym same) (subst Q last.1 (subst R ins_same stands))
                  ]
            ];
        are_primed = laws.primed_push is i so.are_primed ready;
        cells = λ c.
            Tells-kept n hs (is ++ i ∷ []) wanted c (put t g slots c)
            (Tells-put n hs (is ++ i ∷ []) t g c slots
            (λ same. let P : ℕ → Type 0 = λ d. Tells n hs (is ++ i ∷ []) d (held g) in
            let Q : Bool → Type 0 = λ b. MatchBool b (IsSomeAnd (place_of hs (nor_places (is ++ i ∷ [])) g) (λ p. last_write (is ++ i ∷ []) t ≡ Some p)) (IsTrue (last_write_is_init false (is ++ i ∷ []) t)) in
            subst P same (subst Q (sym gate_is) (IsSomeAnd-from _ (λ (p : ℕ). last_write (is ++ i ∷ []) t ≡ Some p) (length is) found at_target), λ _. no_init))
            (λ other. Tells-push n gs hs is i keeps c (slots c) (or_from (eqb t c) false other refl) (so.cells c)));
      }

  pub SoFar-one : (n : NorView) (is : List Instr) (placed : List ℕ) (slots : ℕ → Slot) (wanted : ℕ → Bool) (g t : ℕ) →
      is_nor (gate_at n g) ≡ false → slots t ≡ primed →
      SoFar n is placed slots → SoFar n is (placed ++ g ∷ []) (settled n wanted (put t g slots))
  SoFar-one n is placed slots wanted g t gate_is free so =
      let gs : List ℕ = nors_of n placed in
      let same : gs ≡ nors_of n (placed ++ g ∷ []) = sym (nors-push_one n placed g gate_is) in
      let F : Slot → Type 0 = Tells n gs is t in
      let ready : IsTrue (last_write_is_init false is t) = subst F free (so.cells t) in
      let C : List ℕ → Type 0 = λ xs. length (nor_places is) ≡ length xs in
      let R : List ℕ → Type 0 = λ xs. (j q u : ℕ) (js : Ins) → slice_get (nor_places is) j ≡ Some q → slice_get is q ≡ Some (instr.Nor u js) →
      AllStand n xs is q (operands js) (pins (gate_at n (slice_index xs j))) in
      let T : List ℕ → Type 0 = λ xs. (c : ℕ) → Tells n xs is c (settled n wanted (put t g slots) c) in
      let Q : Bool → Type 0 = λ b. MatchBool b (IsSomeAnd (place_of gs (nor_places is) g) (λ p. last_write is t ≡ Some p)) (IsTrue (last_write_is_init false is t)) in
      let at_target : Tells n gs is t (held g) = (subst Q (sym gate_is) ready, λ is_one. absurd (false≢true (sym gate_is ∙ is_one))) in
      record {
        count = subst C same so.count;
        below = so.below;
        reads = subst R same so.reads;
        are_primed = so.are_primed;
        cells = subst T same (λ c.
            Tells-kept n gs is wanted c (put t g slots c)
            (Tells-put n gs is t g c slots (λ e. let P : ℕ → Type 0 = λ d. Tells n gs is d (held g) in subst P e at_target) (λ other. so.cells c)));
      }

  -- ---- the whole run
  pub SoFar-run : {n : NorView} {slots last : ℕ → Slot} {placed later : List ℕ} {is : List Instr} → Run n slots placed later is last →
      (before : List Instr) → SoFar n before placed slots → SoFar n (before ++ is) (placed ++ later) last
  SoFar-run {n} {slots} {last} {placed} done before so =
      let P : List Instr → Type 0 = λ js. SoFar n js (placed ++ []) slots in
      let Q : List ℕ → Type 0 = λ xs. SoFar n before xs slots in
      subst P (sym (append-nil before)) (subst Q (sym (append-nil placed)) so)
  SoFar-run {n} {slots} {last} {placed} (refill {later = later} {cells = cells} {g = g} {is = is} none rises names run) before so =
      let P : List Instr → Type 0 = λ js. SoFar n js (placed ++ g ∷ later) last in
      subst P (append_assoc before (instr.Init cells ∷ []) is)
      (SoFar-run run (before ++ instr.Init cells ∷ []) (SoFar-refill n before placed cells slots names so))
  SoFar-run {n} {slots} {last} {placed} (nor {later = later} {g = g} {t = t} {ins = ins} {is = is} next gate_is least hold run) before so =
      let P : List Instr → Type 0 = λ js. SoFar n js (placed ++ g ∷ later) last in
      let Q : List ℕ → Type 0 = λ xs. SoFar n ((before ++ instr.Nor t ins ∷ []) ++ is) xs last in
      subst P (append_assoc before (instr.Nor t ins ∷ []) is)
      (subst Q (append_assoc placed (g ∷ []) later)
      (SoFar-run run (before ++ instr.Nor t ins ∷ []) (SoFar-nor n before placed slots (needed (graph_of n) later) g t ins next.fresh gate_is least.is hold so)))
  SoFar-run {n} {slots} {last} {placed} (one {later = later} {g = g} {t = t} {is = is} next gate_is least run) before so =
      let Q : List ℕ → Type 0 = λ xs. SoFar n (before ++ is) xs last in
      subst Q (append_assoc placed (g ∷ []) later)
      (SoFar-run run before (SoFar-one n before placed slots (needed (graph_of n) later) g t gate_is least.is so))

-- ---- the start

start_told : (n : NorView) (c : ℕ) (b : Bool) → Tells n [] [] c (cond b expired outside)
start_told n c true = refl
start_told n c false = tt

pub SoFar-start : (n : NorView) (first end : ℕ) → SoFar n [] [] (start first end)
SoFar-start n first end = record {
  count = refl;
  below = λ j q at. cc;
  reads = λ j q t ins at is_nor_at. cc;
  are_primed = λ k t ins at. cc;
  cells = λ c. start_told n c (leb first c && ltb c end);
}
