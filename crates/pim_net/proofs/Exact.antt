-- A well-formed draft has no fault.
use Rattle.std.proofs.Common.{◌≡◌, ◌≢◌, ℕ, suc, ◌++◌, Bool, true, false, cond, List, [], ◌∷◌, Option, Some, None, All, length, get_or, refl, ap, sym, ◌∙◌, subst, arith}
use Rattle.std.specs.Prelude.{is_some, is_none, option_map, find, AllPairs, Contains, IsSome}
use Rattle.std.specs.Option.{option_or}
use Rattle.std.proofs.lemmas.List.{append_assoc, length-append, get_or_append_left, get_or_at, get_or_default}
use Rattle.pim_net.specs.Drivers.{place, driven, read}
use Rattle.pim_net.specs.Depths.{depth}
use Rattle.pim_net.specs.Faults.{first_repeat, walk, next_signal, fault_of, undriven, cycle}
use Rattle.pim_net.specs.WellFormed.{IsWellFormed}
use Rattle.pim_net.specs.declared.parts.Equation.{Equation}
use Rattle.pim_net.specs.declared.parts.OutRef.{OutRef}
use Rattle.pim_net.specs.declared.fault.NetFault.TheVariants.{Twice, Undriven, Cycle}
use Rattle.pim_net.proofs.Repeats.{place_is, place_has}

-- a number other than all before it has no place there
no_place : (before xs : List ℕ) (x : ℕ) → AllPairs ◌≢◌ (before ++ x ∷ xs) → is_some (place x before) ≡ false
no_place before xs x apart = by (place x before) refl
  where
    by : (p : Option ℕ) → place x before ≡ p → is_some p ≡ false
    by None h = refl
    by (Some j) h =
        let w = place_is x before j h in
        let long = length-append before (x ∷ xs) in
        let first = get_or_append_left before (x ∷ xs) 0 j w.0 in
        let second = get_or_at before x xs 0 (length before) refl in
        absurd (apart j (length before) 0 w.0 (omega (arith, long)) (first ∙ w.1 ∙ sym second))

-- where all are different, nothing repeats
pub apart_once : (before xs : List ℕ) → AllPairs ◌≢◌ (before ++ xs) → first_repeat before xs ≡ None
apart_once before [] apart = refl
apart_once before (x ∷ xs) apart =
    ap (λ b. cond b (Some x) (first_repeat (before ++ x ∷ []) xs)) (no_place before xs x apart)
    ∙ apart_once (before ++ x ∷ []) xs (subst (AllPairs ◌≢◌) (sym (append_assoc before (x ∷ []) xs)) apart)

-- where nothing passes, nothing is found
find_no : {X : Type 0} (p : X → Bool) (xs : List X) → All (λ x. p x ≡ false) xs → find p xs ≡ None
find_no p [] none = refl
find_no p (x ∷ xs) none = ap (λ b. cond b (Some x) (find p xs)) (none 0 x (omega arith)) ∙ find_no p xs (λ k d h. none (suc k) d (omega arith))

-- what is in a list has a place in it
has_place : (xs : List ℕ) (s : ℕ) → Contains xs s → is_none (place s xs) ≡ false
has_place xs s w = by (place s xs) (ap (λ n. is_some (place n xs)) (sym (get_or_default xs w.0 0 s w.1 ∙ w.2)) ∙ place_has xs w.0 w.1)
  where
    by : (p : Option ℕ) → is_some p ≡ true → is_none p ≡ false
    by None h = cc
    by (Some k) h = refl

some_not_none : (o : Option ℕ) → IsSome o → is_none o ≡ false
some_not_none None h = cc
some_not_none (Some l) h = refl

pub formed_sound : (inputs : List ℕ) (es : List Equation) (outputs : List OutRef) → IsWellFormed inputs es outputs → fault_of inputs es outputs ≡ None
formed_sound inputs es outputs formed =
    let once = apart_once [] (driven inputs es) formed.once in
    let lack = find_no (λ s. is_none (place s (driven inputs es))) (read es outputs) (λ k d h. has_place (driven inputs es) (get_or (read es outputs) k d) (formed.driven k d h)) in
    let round : cycle inputs es ≡ None = ap (option_map (λ (e : Equation). walk (next_signal inputs es) (suc (length es)) [] (Some e.sig)))
    (find_no (λ (e : Equation). is_none (depth inputs es e.sig)) es (λ k d h. some_not_none (depth inputs es (get_or es k d).sig) (formed.deep k d h))) in
    ap (λ o. option_or (option_map Twice o) (option_or (option_map Undriven (undriven inputs es outputs)) (option_map Cycle (cycle inputs es)))) once
    ∙ ap (λ o. option_or (option_map Undriven o) (option_map Cycle (cycle inputs es))) lack
    ∙ ap (option_map Cycle) round
