-- What a schedule in the making keeps says what each cell is, at each step.
use Rattle.std.proofs.Common.{◌≡◌, ◌⊎◌, ℕ, ◌<◌, Bool, true, false, ◌||◌, eqb, cond, List, [], ◌∷◌, ◌++◌, length, get_or, set, inl, inr, refl, sym, ap, ◌∙◌, subst, arith}
use Rattle.std.specs.Prelude.{IsPermutation, IsSorted, slice_index}
use Rattle.std.specs.Ordering.{nat_cmp}
use Rattle.std.proofs.lemmas.Bool.{cases_Bool, false≢true, or_cases, or_left, or_right, or_from, eqb-true, eqb-false, eq-eqb, ne_eqb}
use Rattle.std.proofs.lemmas.List.{get_or-set_same, get_or-set_other}
use Rattle.std.proofs.lemmas.List.Folds.{list_any-append}
use Rattle.pim_graph.specs.Graphs.{has as among}
use Rattle.pim_isa.specs.Validity.{has}
use Rattle.pim_nor.specs.Network.{NorView}
use Rattle.pim_simpler.specs.inner.Kept.{FreeView, freed}
use Rattle.pim_simpler.specs.inner.Slots.{Slot, primed, held, expired, outside, is_primed, is_expired, anew, refilled, put, IsLeast}
use Rattle.pim_simpler.proofs.Marks.{anew-held, put-there, put-elsewhere, put-held, held_same}
use Rattle.pim_simpler.proofs.Placing.{among-append, among-push}
use Rattle.pim_simpler.proofs.Rising.{Rises, Rises-rest, Rises-insert, Rises-sorted, rises-above, first_once, has-insert, Once, Once-push, Once-permuted, has-permuted}

-- the free cells are those that are primed and those that are expired, and each gate that was placed and is still wanted
-- is held in the cell that it took
pub record Shows (n : NorView) (placed : List ℕ) (wanted : ℕ → Bool) (free : FreeView) (cells : List ℕ) (slots : ℕ → Slot) : Type 0 where
  pub are_primed : (c : ℕ) → has c free.primed ≡ is_primed (slots c)
  pub rise : Rises free.primed
  pub are_expired : (c : ℕ) → has c free.expired ≡ is_expired (slots c)
  pub once : Once free.expired
  pub holds : (g : ℕ) → among placed g ≡ true → wanted g ≡ true → slots (slice_index cells g) ≡ held g
  pub was_placed : (c g : ℕ) → slots c ≡ held g → among placed g ≡ true
  pub is_wanted : (c g : ℕ) → slots c ≡ held g → wanted g ≡ true
  pub is_there : (c g : ℕ) → slots c ≡ held g → slice_index cells g ≡ c

-- ---- after an Init

expired_anew : (s : Slot) → is_primed s ≡ false → is_expired s ≡ is_primed (anew s)
expired_anew primed e = cc
expired_anew (held g) e = refl
expired_anew expired e = refl
expired_anew outside e = refl

none_expired : (s : Slot) → false ≡ is_expired (anew s)
none_expired primed = refl
none_expired (held g) = refl
none_expired expired = refl
none_expired outside = refl

pub Shows-refill : (n : NorView) (placed : List ℕ) (wanted : ℕ → Bool) (free : FreeView) (cells now : List ℕ) (slots : ℕ → Slot) →
    Shows n placed wanted free cells slots → free.primed ≡ [] → IsPermutation free.expired now → IsSorted nat_cmp now →
    Shows n placed wanted (record { primed = now; expired = [] }) cells (refilled slots)
Shows-refill n placed wanted free cells now slots shows empty same sorted =
    let none : (c : ℕ) → is_primed (slots c) ≡ false = λ c. sym (shows.are_primed c) ∙ ap (has c) empty in
    record {
      are_primed = λ c. has-permuted free.expired now same c ∙ (shows.are_expired c ∙ expired_anew (slots c) (none c));
      rise = Rises-sorted now sorted (Once-permuted free.expired now same shows.once);
      are_expired = λ c. none_expired (slots c);
      once = λ c. omega arith;
      holds = λ g was wants. ap anew (shows.holds g was wants);
      was_placed = λ c g e. shows.was_placed c g (anew-held (slots c) g e);
      is_wanted = λ c g e. shows.is_wanted c g (anew-held (slots c) g e);
      is_there = λ c g e. shows.is_there c g (anew-held (slots c) g e);
    }

-- ---- after a gate has taken the least primed cell

primed_of : (s : Slot) → is_primed s ≡ true → s ≡ primed
primed_of primed e = refl
primed_of (held g) e = cc
primed_of expired e = cc
primed_of outside e = cc

pub Shows-least : (n : NorView) (placed : List ℕ) (wanted : ℕ → Bool) (free : FreeView) (cells : List ℕ) (slots : ℕ → Slot) (t : ℕ) (rest : List ℕ) →
    Shows n placed wanted free cells slots → free.primed ≡ t ∷ rest → IsLeast slots t
Shows-least n placed wanted free cells slots t rest shows first = record {
  is = primed_of (slots t) (sym (shows.are_primed t) ∙ (ap (has t) first ∙ or_left (eqb t t) (has t rest) (eq-eqb t t refl)));
  least = λ c below.
      let up : Rises (t ∷ rest) = subst Rises first shows.rise in
      let other : eqb t c ≡ false = ne_eqb t c (λ e. omega arith) in
      let none : has c rest ≡ false =
      elim (cases_Bool (has c rest)) [
        | inl there ↦ let above : t < c = rises-above t rest up c there in absurd (omega arith)
        | inr not_there ↦ not_there
      ] in
      sym (shows.are_primed c) ∙ (ap (has c) first ∙ or_from (eqb t c) (has c rest) other none);
}

pub Shows-place : (n : NorView) (placed : List ℕ) (wanted : ℕ → Bool) (free : FreeView) (cells : List ℕ) (slots : ℕ → Slot) (t g : ℕ) (rest : List ℕ) →
    Shows n placed wanted free cells slots → free.primed ≡ t ∷ rest → among placed g ≡ false → wanted g ≡ true → g < length cells →
    Shows n (placed ++ g ∷ []) wanted (record free { primed = rest }) (set cells g t) (put t g slots)
Shows-place n placed wanted free cells slots t g rest shows first fresh wants there =
    let up : Rises (t ∷ rest) = subst Rises first shows.rise in
    let at : slots t ≡ primed = (Shows-least n placed wanted free cells slots t rest shows first).is in
    let back : (c h : ℕ) → put t g slots c ≡ held h → ((t ≡ c) × (g ≡ h)) ⊎ (slots c ≡ held h) = λ c h e. put-held t g c h slots e in
    let older : (h : ℕ) → among placed h ≡ true → h ≡ g → ⊥ = λ h was e. false≢true (sym fresh ∙ (ap (among placed) (sym e) ∙ was)) in
    record {
      are_primed = λ c.
          elim (cases_Bool (eqb t c)) [
            | inl same ↦
                ap (λ (x : ℕ). has x rest) (sym (eqb-true t c same)) ∙ (first_once t rest up
                ∙ sym (ap is_primed (ap (λ (b : Bool). cond b (held g) (slots c)) same)))
            | inr other ↦
                ap (λ (b : Bool). b || has c rest) (sym other) ∙ (ap (has c) (sym first) ∙ (shows.are_primed c
                ∙ ap is_primed (sym (put-elsewhere t g c slots other))))
          ];
      rise = Rises-rest t rest up;
      are_expired = λ c.
          elim (cases_Bool (eqb t c)) [
            | inl same ↦
                shows.are_expired c ∙ (ap (λ (x : ℕ). is_expired (slots x)) (sym (eqb-true t c same)) ∙ (ap is_expired at
                ∙ sym (ap is_expired (ap (λ (b : Bool). cond b (held g) (slots c)) same))))
            | inr other ↦ shows.are_expired c ∙ ap is_expired (sym (put-elsewhere t g c slots other))
          ];
      once = shows.once;
      holds = λ h was wants_h.
          elim (or_cases (among placed h) (eqb g h || false) (sym (among-append placed (g ∷ []) h) ∙ was)) [
            | inl old ↦
                let kept_cell : get_or (set cells g t) h 0 ≡ get_or cells h 0 = get_or-set_other cells g h t 0 (older h old) in
                let held_before : slots (get_or cells h 0) ≡ held h = shows.holds h old wants_h in
                let other : eqb t (get_or cells h 0) ≡ false = ne_eqb t (get_or cells h 0) (λ e. let f : primed ≡ held h = sym at ∙ (ap slots e ∙ held_before) in cc) in
                ap (put t g slots) kept_cell ∙ (put-elsewhere t g (get_or cells h 0) slots other ∙ held_before)
            | inr new ↦
                elim (or_cases (eqb g h) false new) [
                  | inl same ↦
                      let here : g ≡ h = eqb-true g h same in
                      let P : ℕ → Type 0 = λ x. put t g slots (get_or (set cells g t) x 0) ≡ held x in
                      subst P here (ap (put t g slots) (get_or-set_same cells g t 0 there) ∙ put-there t g slots)
                  | inr never ↦ absurd (false≢true never)
                ]
          ];
      was_placed = λ c h e.
          elim (back c h e) [
            | inl new ↦ let P : ℕ → Type 0 = λ x. among (placed ++ g ∷ []) x ≡ true in subst P new.1 (among-push placed g)
            | inr old ↦ among-append placed (g ∷ []) h ∙ or_left (among placed h) (eqb g h || false) (shows.was_placed c h old)
          ];
      is_wanted = λ c h e.
          elim (back c h e) [
            | inl new ↦ ap wanted (sym new.1) ∙ wants
            | inr old ↦ shows.is_wanted c h old
          ];
      is_there = λ c h e.
          elim (back c h e) [
            | inl new ↦ ap (λ (x : ℕ). get_or (set cells g t) x 0) (sym new.1) ∙ (get_or-set_same cells g t 0 there ∙ new.0)
            | inr old ↦ get_or-set_other cells g h t 0 (older h (shows.was_placed c h old)) ∙ shows.is_there c h old
          ];
    }

-- ---- after a read

-- the same gates are wanted, of those that were placed
pub Shows-wanted : (n : NorView) (placed : List ℕ) (w v : ℕ → Bool) (free : FreeView) (cells : List ℕ) (slots : ℕ → Slot) →
    ((g : ℕ) → among placed g ≡ true → v g ≡ w g) → Shows n placed w free cells slots → Shows n placed v free cells slots
Shows-wanted n placed w v free cells slots same shows = record {
  are_primed = shows.are_primed;
  rise = shows.rise;
  are_expired = shows.are_expired;
  once = shows.once;
  holds = λ g was wants. shows.holds g was (sym (same g was) ∙ wants);
  was_placed = shows.was_placed;
  is_wanted = λ c g e. same g (shows.was_placed c g e) ∙ shows.is_wanted c g e;
  is_there = shows.is_there;
}

-- a cell that is let go
abbrev pub free_slot : ℕ → Bool → (ℕ → Slot) → ℕ → Slot
free_slot t b slots c = cond (eqb t c) (cond b expired primed) (slots c)

free-here : (t : ℕ) (b : Bool) (slots : ℕ → Slot) (c : ℕ) → eqb t c ≡ true → free_slot t b slots c ≡ cond b expired primed
free-here t b slots c same = ap (λ (d : Bool). cond d (cond b expired primed) (slots c)) same

free-elsewhere : (t : ℕ) (b : Bool) (slots : ℕ → Slot) (c : ℕ) → eqb t c ≡ false → free_slot t b slots c ≡ slots c
free-elsewhere t b slots c other = ap (λ (d : Bool). cond d (cond b expired primed) (slots c)) other

let_go : (b : Bool) (g : ℕ) → cond b expired primed ≡ held g → ⊥
let_go true g e = cc
let_go false g e = cc

or_false : (b : Bool) → (b || false) ≡ b
or_false true = refl
or_false false = refl

free-held : (t : ℕ) (b : Bool) (slots : ℕ → Slot) (c g : ℕ) → free_slot t b slots c ≡ held g → (eqb t c ≡ false) × (slots c ≡ held g)
free-held t b slots c g e =
    elim (cases_Bool (eqb t c)) [
      | inl same ↦ absurd (let_go b g (sym (free-here t b slots c same) ∙ e))
      | inr other ↦ (other, sym (free-elsewhere t b slots c other) ∙ e)
    ]

free_primed : (b : Bool) (t : ℕ) (f : FreeView) (slots : ℕ → Slot) (c : ℕ) → is_primed (slots t) ≡ false → has c f.primed ≡ is_primed (slots c) → has c (freed b t f).primed ≡ is_primed (free_slot t b slots c)
free_primed true t f slots c was shows =
    elim (cases_Bool (eqb t c)) [
      | inl same ↦ shows ∙ (ap (λ (x : ℕ). is_primed (slots x)) (sym (eqb-true t c same)) ∙ (was ∙ sym (ap is_primed (free-here t true slots c same))))
      | inr other ↦ shows ∙ sym (ap is_primed (free-elsewhere t true slots c other))
    ]
free_primed false t f slots c was shows =
    elim (cases_Bool (eqb t c)) [
      | inl same ↦ has-insert t f.primed c ∙ (or_left (eqb t c) (has c f.primed) same ∙ sym (ap is_primed (free-here t false slots c same)))
      | inr other ↦ has-insert t f.primed c ∙ (ap (λ (b : Bool). b || has c f.primed) other ∙ (shows ∙ sym (ap is_primed (free-elsewhere t false slots c other))))
    ]

free_expired : (b : Bool) (t : ℕ) (f : FreeView) (slots : ℕ → Slot) (c : ℕ) → is_expired (slots t) ≡ false → has c f.expired ≡ is_expired (slots c) → has c (freed b t f).expired ≡ is_expired (free_slot t b slots c)
free_expired true t f slots c was shows =
    let split : has c (f.expired ++ t ∷ []) ≡ (has c f.expired || (eqb t c || false)) = list_any-append (λ (d : ℕ). eqb d c) f.expired (t ∷ []) in
    elim (cases_Bool (eqb t c)) [
      | inl same ↦ split ∙ (or_right (has c f.expired) (eqb t c || false) (or_left (eqb t c) false same) ∙ sym (ap is_expired (free-here t true slots c same)))
      | inr other ↦ split ∙ (ap (λ (b : Bool). has c f.expired || (b || false)) other ∙ (or_false (has c f.expired) ∙ (shows ∙ sym (ap is_expired (free-elsewhere t true slots c other)))))
    ]
free_expired false t f slots c was shows =
    elim (cases_Bool (eqb t c)) [
      | inl same ↦ shows ∙ (ap (λ (x : ℕ). is_expired (slots x)) (sym (eqb-true t c same)) ∙ (was ∙ sym (ap is_expired (free-here t false slots c same))))
      | inr other ↦ shows ∙ sym (ap is_expired (free-elsewhere t false slots c other))
    ]

free_rise : (b : Bool) (t : ℕ) (f : FreeView) → Rises f.primed → has t f.primed ≡ false → Rises (freed b t f).primed
free_rise true t f up new = up
free_rise false t f up new = Rises-insert t f.primed up new

free_once : (b : Bool) (t : ℕ) (f : FreeView) → Once f.expired → has t f.expired ≡ false → Once (freed b t f).expired
free_once true t f once new = Once-push f.expired t once new
free_once false t f once new = once

-- the cell of a gate that is wanted no longer is let go
pub Shows-free : (n : NorView) (placed : List ℕ) (w v : ℕ → Bool) (free : FreeView) (cells : List ℕ) (slots : ℕ → Slot) (g : ℕ) (b : Bool) →
    Shows n placed w free cells slots → among placed g ≡ true → w g ≡ true → v g ≡ false → ((h : ℕ) → (h ≡ g → ⊥) → v h ≡ w h) →
    Shows n placed v (freed b (slice_index cells g) free) cells (free_slot (slice_index cells g) b slots)
Shows-free n placed w v free cells slots g b shows was wants gone others =
    let t : ℕ = slice_index cells g in
    let at : slots t ≡ held g = shows.holds g was wants in
    record {
      are_primed = λ c. free_primed b t free slots c (ap is_primed at) (shows.are_primed c);
      rise = free_rise b t free shows.rise (shows.are_primed t ∙ ap is_primed at);
      are_expired = λ c. free_expired b t free slots c (ap is_expired at) (shows.are_expired c);
      once = free_once b t free shows.once (shows.are_expired t ∙ ap is_expired at);
      holds = λ h was_h wants_h.
          let apart : h ≡ g → ⊥ = λ e. false≢true (sym gone ∙ (ap v (sym e) ∙ wants_h)) in
          let before : slots (slice_index cells h) ≡ held h = shows.holds h was_h (sym (others h apart) ∙ wants_h) in
          let other : eqb t (slice_index cells h) ≡ false =
          ne_eqb t (slice_index cells h) (λ e. apart (held_same h g (sym before ∙ (ap slots (sym e) ∙ at)))) in
          free-elsewhere t b slots (slice_index cells h) other ∙ before;
      was_placed = λ c h e. shows.was_placed c h (free-held t b slots c h e).1;
      is_wanted = λ c h e.
          let both = free-held t b slots c h e in
          others h (λ same. eqb-false t c both.0 (ap (slice_index cells) (sym same) ∙ shows.is_there c h both.1)) ∙ shows.is_wanted c h both.1;
      is_there = λ c h e. shows.is_there c h (free-held t b slots c h e).1;
    }
