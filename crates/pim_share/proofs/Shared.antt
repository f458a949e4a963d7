-- The program of the parts: which it is, that it is one, and what executing it leaves.
use Rattle.std.proofs.Common.{◌≡◌, ◌⊎◌, ◌∙◌, ◌+◌, ◌<◌, ◌≤◌, ◌∷◌, ℕ, zero, suc, Bool, List, [], length, get_or, map, take, cond, refl, sym, ap, ap₂, subst, false, true, inl, inr, arith, Some, None}
use Rattle.std.specs.Prelude.{Err, Option, if◌then◌else◌, is_some, nat_lt, not, option_map, slice_get, IsTrue}
use Rattle.std.specs.List.{All, position, prefix_len}
use Rattle.std.specs.Option.{option_or}
use Rattle.std.proofs.lemmas.Bool.Decides.{leb_tells}
use Rattle.std.proofs.lemmas.List.{get_or_default}
use Rattle.std.proofs.lemmas.List.Elements.{All-head, All-tail}
use Rattle.pim_isa.specs.declared.instr.Ins.{Ins}
use Rattle.pim_isa.specs.declared.instr.Instr.{Instr}
use Rattle.pim_isa.specs.declared.instr.Instr.TheVariants.{Init, Nor, Rm3}
use Rattle.pim_isa.specs.declared.port.Port.{Port}
use Rattle.pim_isa.specs.declared.target.Target.{Target}
use Rattle.pim_isa.specs.declared.target.Target.TheVariants.{Magic, Plim}
use Rattle.pim_isa.specs.Primed.{FindsPrimed, IsPrimed, IsPrimedFrom, last_write_is_init, primed_after}
use Rattle.pim_isa.specs.Programs.{ProgramView}
use Rattle.pim_isa.specs.Sound.{IsProgram, IsSound, cells_of}
use Rattle.pim_isa.specs.Steps.{bit, exec, step}
use Rattle.pim_share.specs.Merged.{differ, merge_of, merged, ok_unless, other_target, target_of, turns_fault}
use Rattle.pim_share.specs.Sharing.{IsShared}
use Rattle.pim_share.specs.Turns.{IsFair, Left, after_turns, bad_turn, is_left, laid, missing, spent}
use Rattle.pim_share.specs.Windows.{InWindow, base, needed}
use Rattle.pim_share.specs.declared.fault.ShareFault.{ShareFault}
use Rattle.pim_share.specs.declared.fault.ShareFault.TheVariants as faults
use Rattle.pim_share.proofs.Moves.{length-step}
use Rattle.pim_share.proofs.Frames.{Fits, all_fit, at, counted, frame, fair_turns, frame_outside, length-after_turns, length-interleave, primed_frame, turns_named}
use Rattle.pim_share.proofs.Laying.{AreParts, cells_at, laid_at, laid_fits, length-laid, merged_sound, nothing, part}

-- ---- searches

ltb_tells : (a b : ℕ) → ((nat_lt a b ≡ true) × (a < b)) ⊎ ((nat_lt a b ≡ false) × (b ≤ a))
ltb_tells a b = elim (leb_tells (suc a) b) [ inl h ↦ inl (h.0, omega (arith, h.1)) | inr h ↦ inr (h.0, omega (arith, h.1)) ]

prefix_all : {X : Type 0} (q : X → Bool) (xs : List X) → length xs ≤ prefix_len q xs → (j : ℕ) (d : X) → j < length xs → q (get_or xs j d) ≡ true
prefix_all q [] long j d low = absurd (omega arith)
prefix_all q (x ∷ xs) long j d low = go (q x) refl (λ more i below. prefix_all q xs more i d below) j low
  where
    go : (b : Bool) → q x ≡ b → (length xs ≤ prefix_len q xs → (i : ℕ) → i < length xs → q (get_or xs i d) ≡ true)
        → (i : ℕ) → i < length (x ∷ xs) → q (get_or (x ∷ xs) i d) ≡ true
    go false is rest i below =
        let none : prefix_len q (x ∷ xs) ≡ 0 = ap (λ (b : Bool). cond b (1 + prefix_len q xs) 0) is in
        absurd (omega arith)
    go true is rest zero below = is
    go true is rest (suc i) below =
        let more : prefix_len q (x ∷ xs) ≡ 1 + prefix_len q xs = ap (λ (b : Bool). cond b (1 + prefix_len q xs) 0) is in
        rest (omega arith) i (omega arith)

-- where no place is found, the test fails everywhere
position_none : {X : Type 0} (p : X → Bool) (xs : List X) → position p xs ≡ None → (j : ℕ) (d : X) → j < length xs → p (get_or xs j d) ≡ false
position_none p xs none j d low = elim (ltb_tells (prefix_len (λ x. not (p x)) xs) (length xs)) [
  | inl found ↦
      let bad : Some (prefix_len (λ x. not (p x)) xs) ≡ None = ap (λ (b : Bool). cond b (Some (prefix_len (λ x. not (p x)) xs)) None) (sym found.0) ∙ none in
      cc
  | inr all ↦ not_true (p (get_or xs j d)) (prefix_all (λ x. not (p x)) xs (omega (arith, all.1)) j d low)
]
  where
    not_true : (b : Bool) → not b ≡ true → b ≡ false
    not_true false h = refl
    not_true true h = cc

got : {X : Type 0} (xs : List X) (j : ℕ) (x d : X) → slice_get xs j ≡ Some x → (j < length xs) × (get_or xs j d ≡ x)
got [] j x d e = cc
got (y ∷ ys) zero x d e = (omega arith, let same : y ≡ x = cc in same)
got (y ∷ ys) (suc j) x d e = let rest = got ys j x d e in (omega (arith, rest.0), rest.1)

-- ---- which program it is

target_first : (parts : List ProgramView) (p : ProgramView) → 0 < length parts → p ≡ get_or parts 0 p → p.target ≡ target_of parts
target_first [] p some is = absurd (omega arith)
target_first (q ∷ ps) p some is = ap (λ (x : ProgramView). x.target) is

-- what is found with the target of the first part
pub found_is : (parts : List ProgramView) (t : Target) (p : ProgramView) (o : Option ℕ) → 0 < length parts → t ≡ p.target → p ≡ get_or parts 0 p
    → o ≡ position (λ (q : ProgramView). differ q.target t) parts → other_target parts ≡ o
found_is parts t p o some target first is =
    let same : t ≡ target_of parts = target ∙ target_first parts p some first in
    sym (is ∙ ap (λ (u : Target). position (λ (q : ProgramView). differ q.target u) parts) same)

pub other_fault : (parts : List ProgramView) (turns : List ℕ) (budget j : ℕ) → other_target parts ≡ Some j → merge_of parts turns budget ≡ Err (faults.OtherTarget j)
unfolding merge_of
other_fault parts turns budget j is = ap (λ (o : Option ℕ). ok_unless (merged parts turns) (option_or (option_map (λ k. faults.OtherTarget k) o)
    (option_or (if nat_lt budget (needed parts) then Some (faults.TooFewCells (needed parts)) else None) (turns_fault parts turns)))) is

pub cells_fault : (parts : List ProgramView) (turns : List ℕ) (budget : ℕ) → other_target parts ≡ None → budget < needed parts
    → merge_of parts turns budget ≡ Err (faults.TooFewCells (needed parts))
unfolding merge_of
cells_fault parts turns budget is few =
    let test : nat_lt budget (needed parts) ≡ true = elim (ltb_tells budget (needed parts)) [ inl low ↦ low.0 | inr high ↦ absurd (omega (arith, high.1)) ] in
    ap₂ (λ (o : Option ℕ) (b : Bool). ok_unless (merged parts turns) (option_or (option_map (λ k. faults.OtherTarget k) o)
    (option_or (if b then Some (faults.TooFewCells (needed parts)) else None) (turns_fault parts turns)))) is test

pub turns_judged : (parts : List ProgramView) (turns : List ℕ) (budget : ℕ) (fault : Option ShareFault) → other_target parts ≡ None → needed parts ≤ budget
    → turns_fault parts turns ≡ fault → merge_of parts turns budget ≡ ok_unless (merged parts turns) fault
unfolding merge_of
turns_judged parts turns budget fault is enough judged =
    let test : nat_lt budget (needed parts) ≡ false = elim (ltb_tells budget (needed parts)) [ inl low ↦ absurd (omega (arith, low.1)) | inr high ↦ high.0 ] in
    ap₂ (λ (o : Option ℕ) (b : Bool). ok_unless (merged parts turns) (option_or (option_map (λ k. faults.OtherTarget k) o)
    (option_or (if b then Some (faults.TooFewCells (needed parts)) else None) (turns_fault parts turns)))) is test
    ∙ ap (ok_unless (merged parts turns)) judged

-- ---- what holds where there is no fault

alike : (a b : Target) → differ a b ≡ false → a ≡ b
alike Magic Magic h = refl
alike Magic Plim h = cc
alike Plim Magic h = cc
alike Plim Plim h = refl

pub are_parts : (parts : List ProgramView) → All IsProgram parts → other_target parts ≡ None → AreParts (target_of parts) parts
are_parts parts valid none = record {
  sound = λ j low. (valid j nothing low).sound;
  alike = λ j low. alike (part parts j).target (target_of parts) (position_none (λ (p : ProgramView). differ p.target (target_of parts)) parts none j nothing low);
}

none_both : (x y : Option ℕ) → option_or (option_map (λ k. faults.Turn k) x) (option_map (λ j. faults.Missing j) y) ≡ None → (x ≡ None) × (y ≡ None)
none_both None None h = (refl, refl)
none_both None (Some j) h = cc
none_both (Some k) y h = cc

length_exec : (is : List Instr) (m : List Bool) → length (exec is m) ≡ length m
length_exec [] m = refl
length_exec (i ∷ is) m = length_exec is (step m i) ∙ length-step m i

outputs_alike : (ports : List Port) (n from : ℕ) (row w : List Bool) → All (λ c. c < n) (cells_of ports) → InWindow from n row w
    → map (λ (o : Port). bit row (from + o.cell)) ports ≡ map (λ (o : Port). bit w o.cell) ports
outputs_alike [] n from row w low win = refl
outputs_alike (o ∷ os) n from row w low win =
    ap₂ (λ (x : Bool) (xs : List Bool). x ∷ xs) (win.same o.cell (All-head (λ c. c < n) o.cell (cells_of os) low))
    (outputs_alike os n from row w (All-tail (λ c. c < n) o.cell (cells_of os) low) win)

-- primed by places is primed from the front
AtPlaces : (ℕ → Bool) → List Instr → Type 0
AtPlaces ready is = (k t : ℕ) (ins : Ins) → slice_get is k ≡ Some (Nor t ins) → IsTrue (last_write_is_init (ready t) (take k is) t)

from_places : (is : List Instr) (ready : ℕ → Bool) → AtPlaces ready is → IsPrimedFrom ready is
unfolding AtPlaces
from_places [] ready h = tt
from_places (i ∷ is) ready h = (first i (λ t ins e. h 0 t ins (ap Some e)), from_places is (primed_after ready i) (λ k t ins e. h (suc k) t ins e))
  where
    first : (j : Instr) → ((t : ℕ) (ins : Ins) → j ≡ Nor t ins → IsTrue (ready t)) → FindsPrimed ready j
    first (Init cells) g = tt
    first (Nor t ins) g = g t ins refl
    first (Rm3 p q z) g = tt

front_of : (is : List Instr) → IsPrimed is → IsPrimedFrom (λ _. false) is
unfolding AtPlaces
front_of is h = from_places is (λ _. false) h

module _ (parts : List ProgramView) (turns : List ℕ) (are : AreParts (target_of parts) parts) (judged : turns_fault parts turns ≡ None) where
  fine : bad_turn 0 (laid 0 parts) turns ≡ None
  fine = (none_both (bad_turn 0 (laid 0 parts) turns) (missing (after_turns (laid 0 parts) turns)) judged).0

  fits : Fits (target_of parts) (needed parts) (base parts) (cells_at parts) (laid 0 parts)
  fits = laid_fits (target_of parts) parts are

  left_nothing : (rest : List Instr) → is_some (slice_get rest 0) ≡ false → rest ≡ []
  left_nothing [] h = refl
  left_nothing (i ∷ is) h = cc

  done : (j : ℕ) → j < length parts → (at (after_turns (laid 0 parts) turns) j).rest ≡ []
  done j low = left_nothing (at (after_turns (laid 0 parts) turns) j).rest
      (position_none is_left (after_turns (laid 0 parts) turns)
      (none_both (bad_turn 0 (laid 0 parts) turns) (missing (after_turns (laid 0 parts) turns)) judged).1 j spent
      (omega (arith, length-after_turns turns (laid 0 parts), length-laid parts 0)))

  rest_at : (j : ℕ) → j < length parts → (at (laid 0 parts) j).rest ≡ (part parts j).instrs
  rest_at j low = ap (λ (x : Left). x.rest) (laid_at parts 0 j low)

  window : (j : ℕ) (p : ProgramView) (row w : List Bool) → slice_get parts j ≡ Some p → needed parts ≤ length row → InWindow (base parts j) p.cells row w
      → InWindow (base parts j) p.cells (exec (merged parts turns).instrs row) (exec p.instrs w)
  window j p row w is long win =
      let there = got parts j p nothing is in
      let here : InWindow (base parts j) (cells_at parts j) row w = subst (λ (q : ProgramView). InWindow (base parts j) q.cells row w) (sym there.1) win in
      let left = frame (target_of parts) (needed parts) (base parts) (cells_at parts) turns (laid 0 parts) 0 row fits fine long j w
      (omega (arith, there.0, length-laid parts 0)) (done j there.0) here in
      subst (λ (q : ProgramView). InWindow (base parts j) q.cells (exec (merged parts turns).instrs row) (exec q.instrs w)) there.1
      (subst (λ (is : List Instr). InWindow (base parts j) (cells_at parts j) (exec (merged parts turns).instrs row) (exec is w)) (rest_at j there.0) left)

  pub shared : IsShared parts (merged parts turns)
  shared = record {
    windows = window;
    outputs = λ j p row w is long win.
        let there = got parts j p nothing is in
        let sound : IsSound p = subst IsSound there.1 (are.sound j there.0) in
        outputs_alike p.outputs p.cells (base parts j) (exec (merged parts turns).instrs row) (exec p.instrs w) sound.outputs (window j p row w is long win);
    others = λ row c behind. frame_outside (target_of parts) (needed parts) (base parts) (cells_at parts) turns (laid 0 parts) 0 row c fits fine behind;
    length_kept = λ row. length_exec (merged parts turns).instrs row;
  }

  pub primed_front : All (λ (p : ProgramView). IsPrimed p.instrs) parts → IsPrimedFrom (λ _. false) (merged parts turns).instrs
  primed_front primed = primed_frame (target_of parts) (needed parts) (base parts) (cells_at parts) turns (laid 0 parts) 0 (λ _. false) fits fine (λ j low.
      let inside : j < length parts = omega (arith, length-laid parts 0) in
      subst (IsPrimedFrom (λ _. false)) (sym (rest_at j inside)) (front_of (part parts j).instrs (primed j nothing inside)))

  pub fair : IsFair parts turns
  fair = record {
    named = turns_named turns (laid 0 parts) 0 (length parts) (length-laid parts 0) fine;
    often = λ j p is.
        let there = got parts j p nothing is in
        let count = counted turns (laid 0 parts) 0 fine j (omega (arith, there.0, length-laid parts 0)) in
        let none : length (at (after_turns (laid 0 parts) turns) j).rest ≡ 0 = ap length (done j there.0) in
        let all : length (at (laid 0 parts) j).rest ≡ length p.instrs = ap length (rest_at j there.0) ∙ ap (λ (q : ProgramView). length q.instrs) there.1 in
        omega (arith, count, none, all);
  }

  pub sound : IsSound (merged parts turns)
  sound = merged_sound parts turns are (all_fit (target_of parts) (needed parts) (base parts) (cells_at parts) turns (laid 0 parts) 0 fits fine)

  pub cycles : length (merged parts turns).instrs ≡ length turns
  cycles = length-interleave turns (laid 0 parts) 0 fine

-- ---- fair turns have no fault

prefix_full : {X : Type 0} (q : X → Bool) (xs : List X) → ((j : ℕ) (d : X) → j < length xs → q (get_or xs j d) ≡ true) → prefix_len q xs ≡ length xs
prefix_full q [] h = refl
prefix_full q (x ∷ xs) h =
    let more : prefix_len q (x ∷ xs) ≡ 1 + prefix_len q xs = ap (λ (b : Bool). cond b (1 + prefix_len q xs) 0) (h 0 x (omega arith)) in
    omega (arith, more, prefix_full q xs (λ j d low. h (suc j) d (omega arith)))

position_nowhere : {X : Type 0} (p : X → Bool) (xs : List X) → ((j : ℕ) (d : X) → j < length xs → p (get_or xs j d) ≡ false) → position p xs ≡ None
position_nowhere p xs h =
    let full = prefix_full (λ x. not (p x)) xs (λ j d low. ap not (h j d low)) in
    elim (ltb_tells (prefix_len (λ x. not (p x)) xs) (length xs)) [
      | inl found ↦ absurd (omega (arith, full, found.1))
      | inr past ↦ ap (λ (b : Bool). cond b (Some (prefix_len (λ x. not (p x)) xs)) None) past.0
    ]

slice_get-at : {X : Type 0} (xs : List X) (j : ℕ) (d : X) → j < length xs → slice_get xs j ≡ Some (get_or xs j d)
slice_get-at [] j d low = absurd (omega arith)
slice_get-at (x ∷ xs) zero d low = refl
slice_get-at (x ∷ xs) (suc j) d low = slice_get-at xs j d (omega arith)

pub fair_judged : (parts : List ProgramView) (turns : List ℕ) → IsFair parts turns → turns_fault parts turns ≡ None
fair_judged parts turns is =
    let left = laid 0 parts in
    let further = fair_turns turns left 0 (length parts) (length-laid parts 0) is.named (λ j low.
    let inside : j < length parts = omega (arith, length-laid parts 0) in
    is.often j (part parts j) (slice_get-at parts j nothing inside) ∙ sym (ap (λ (x : Left). length x.rest) (laid_at parts 0 j inside))) in
    let ended : missing (after_turns left turns) ≡ None = position_nowhere is_left (after_turns left turns) (λ j d low.
    let inside : j < length left = omega (arith, length-after_turns turns left) in
    ap is_left (get_or_default (after_turns left turns) j d spent low) ∙ ap (λ (rest : List Instr). is_some (slice_get rest 0)) (further.1 j inside)) in
    ap₂ (λ (x y : Option ℕ). option_or (option_map (λ k. faults.Turn k) x) (option_map (λ j. faults.Missing j) y)) further.0 ended
