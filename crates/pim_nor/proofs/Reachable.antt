-- The marked gates are those that the outputs reach.
use Rattle.std.proofs.Common.{◌≡◌, ◌⊎◌, ℕ, zero, suc, ◌<◌, Bool, true, false, cond, List, [], ◌∷◌, length, get_or, replicate, Contains, inl, inr, refl, sym, ◌∙◌, ap, subst, arith}
use Rattle.std.proofs.lemmas.Bool.{cases_eq, cases_lt, false≢true, cond_both}
use Rattle.std.proofs.lemmas.List.{get_or-set_other, get_or_past}
use Rattle.pim_aig.specs.Graph.{AigView, IsAig}
use Rattle.pim_nor.specs.Leaves.{leaves}
use Rattle.pim_nor.specs.Lowered.{marks_of, roots}
use Rattle.pim_nor.specs.Named.{gate_at, slots}
use Rattle.pim_nor.specs.Network.{pins}
use Rattle.pim_nor.specs.Reached.{mark, mark_all, reached}
use Rattle.pim_nor.specs.Reaching.{IsSlotReached, by_output, by_gate, is_kept}
use Rattle.pim_nor.specs.declared.lowering.Width.{Width}
use Rattle.pim_nor.specs.declared.network.Gate.{Gate}
use Rattle.pim_nor.specs.declared.network.Pin.{Pin}
use Rattle.pim_nor.specs.declared.network.Pin.TheVariants.{Input, Gate as Place}
use Rattle.pim_nor.proofs.Closure.{IsMarked, AreMarked}
use Rattle.pim_nor.proofs.LeafLists.{leaves-AreLeaves}
use Rattle.pim_nor.proofs.Sound.{closed, length-marks_of, roots-marked}

-- each of marked pins is marked
AreMarked-at : (marks : List Bool) (ps : List Pin) (k : ℕ) (d : Pin) → AreMarked marks ps → k < length ps → IsMarked marks (get_or ps k d)
AreMarked-at marks [] k d h l = absurd (omega arith)
AreMarked-at marks (p ∷ ps) zero d h l = h.0
AreMarked-at marks (p ∷ ps) (suc k) d h l = AreMarked-at marks ps k d h.1 (omega arith)

Contains-marked : (marks : List Bool) (ps : List Pin) (s : ℕ) → AreMarked marks ps → Contains ps (Place s) → get_or marks s false ≡ true
Contains-marked marks ps s h c =
    let P : Pin → Type 0 = IsMarked marks in
    subst P c.2 (AreMarked-at marks ps c.0 (Place s) h c.1)

-- a marked slot is there
pub marked_there : (marks : List Bool) (s : ℕ) → get_or marks s false ≡ true → s < length marks
marked_there marks s h =
    elim (cases_lt s (length marks)) [ inl l ↦ l | inr past ↦ absurd (false≢true (sym (get_or_past marks s false past) ∙ h)) ]

-- what the outputs reach is marked
pub reached-kept : (g : AigView) → IsAig g → (width : Width) → {slot : ℕ} → IsSlotReached g width slot → is_kept g width slot ≡ true
reached-kept g sound width {slot} (by_output c) =
    Contains-marked (marks_of g (leaves g width)) (roots g) slot (roots-marked g (leaves g width) sound) c
reached-kept g sound width {slot} (by_gate {reader} r c) =
    let lists = leaves g width in
    let m = reached-kept g sound width r in
    let there : reader < slots g = omega (arith, marked_there (marks_of g lists) reader m, length-marks_of g lists) in
    Contains-marked (marks_of g lists) (pins (gate_at g lists reader)) slot (closed g lists (leaves-AreLeaves g sound width) reader there m) c

-- what marking adds

mark-cases : (marks : List Bool) (p : Pin) (t : ℕ) → get_or (mark marks p) t false ≡ true → (get_or marks t false ≡ true) ⊎ (p ≡ Place t)
mark-cases marks (Input j) t h = inl h
mark-cases marks (Place s) t h =
    elim (cases_eq t s) [
      | inl e ↦ inr (ap (λ (k : ℕ). Place k) (sym e))
      | inr ne ↦ inl (sym (get_or-set_other marks s t true false ne) ∙ h)
    ]

Contains-cons : (p q : Pin) (ps : List Pin) → Contains ps q → Contains (p ∷ ps) q
Contains-cons p q ps c = (suc c.0, (let l = c.1 in omega arith), c.2)

mark_all-cases : (marks : List Bool) (ps : List Pin) (t : ℕ) → get_or (mark_all marks ps) t false ≡ true → (get_or marks t false ≡ true) ⊎ Contains ps (Place t)
mark_all-cases marks [] t h = inl h
mark_all-cases marks (p ∷ ps) t h =
    elim (mark_all-cases (mark marks p) ps t h) [
      | inl m ↦ elim (mark-cases marks p t m) [ inl before ↦ inl before | inr e ↦ inr (0, omega arith, e) ]
      | inr c ↦ inr (Contains-cons p (Place t) ps c)
    ]

-- what the marks have at first, and what follows from it, is all that they have in the end
reached-from : (R : ℕ → Type 0) (gate : ℕ → Gate) → ((reader slot : ℕ) → R reader → Contains (pins (gate reader)) (Place slot) → R slot) → (n : ℕ) (marks : List Bool) → ((t : ℕ) → get_or marks t false ≡ true → R t) → (t : ℕ) → get_or (reached gate n marks) t false ≡ true → R t
reached-from R gate step zero marks first t h = first t h
reached-from R gate step (suc n) marks first t h =
    let P : List Bool → Type 0 = λ ms. (k : ℕ) → get_or ms k false ≡ true → R k in
    let more : (get_or marks n false ≡ true) → P (mark_all marks (pins (gate n))) = λ m k here. elim (mark_all-cases marks (pins (gate n)) k here) [ inl before ↦ first k before | inr c ↦ step n k (first n m) c ] in
    reached-from R gate step n (cond (get_or marks n false) (mark_all marks (pins (gate n))) marks) (cond_both (get_or marks n false) (mark_all marks (pins (gate n))) marks P more (λ _. first)) t h

none_marked : (n t : ℕ) → get_or (replicate n false) t false ≡ true → ⊥
none_marked n t h = false≢true (sym (all_false n t) ∙ h)
  where
    all_false : (n t : ℕ) → get_or (replicate n false) t false ≡ false
    all_false zero t = refl
    all_false (suc n) zero = refl
    all_false (suc n) (suc t) = all_false n t

-- what is marked the outputs reach
pub kept-reached : (g : AigView) (width : Width) (slot : ℕ) → is_kept g width slot ≡ true → IsSlotReached g width slot
kept-reached g width slot h =
    let R : ℕ → Type 0 = IsSlotReached g width in
    let zeros = replicate (slots g) false in
    reached-from R (gate_at g (leaves g width)) (λ reader s r c. by_gate r c) (slots g) (mark_all zeros (roots g)) (λ t m. elim (mark_all-cases zeros (roots g) t m) [ inl z ↦ absurd (none_marked (slots g) t z) | inr c ↦ by_output c ]) slot h
