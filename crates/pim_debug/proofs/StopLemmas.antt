-- Counts of breakpoints by position, when one is set or taken away.
use Rattle.std.proofs.Common.{◌≡◌, ◌≢◌, ℕ, zero, suc, ◌+◌, ◌<◌, Bool, true, false, ◌||◌, cond, eqb, List, [], ◌∷◌, length, map, set, get_or, ◌-◌, Option, Some, None, ◌⊎◌, ◌≤◌, inl, inr, refl, sym, ap, subst, ◌∙◌, arith}
use Rattle.std.specs.Prelude.{nat_lt, count_by, sum_by, unwrap_or}
use Rattle.std.specs.List.{find, list_any, range_with_len}
use Rattle.std.proofs.lemmas.Bool.{ne_eqb, eqb-true, eqb-false, or_cases, or_parts, eq-eqb, lt-ltb, or_left, cond-true, cond-false, cases_Bool, cases_eq}
use Rattle.std.proofs.lemmas.List.{length-set, get_or-set_same, get_or-set_other}
use Rattle.std.proofs.lemmas.Option.{same_Some, none-some}
use Rattle.std.proofs.lemmas.List.Sums.{sum_by-cons}
use Rattle.slab.specs.Slab.{entries_from}
use Rattle.pim_debug.specs.declared.stop.Stop.{Stop}
use Rattle.pim_debug.specs.Answers.{next_stop}
use Rattle.pim_debug.specs.States.{stands_at, stop_of, has_stop, stops_from}
use Rattle.pim_debug.specs.inner.Counts.{AreCounts}

-- slots that hold nothing count nothing
nothing_counts : (g : Option ℕ → ℕ) → g None ≡ 0 → (xs : List (Option ℕ)) → ((m : ℕ) → stop_of xs m ≡ None) → sum_by g xs ≡ 0
nothing_counts g none [] empty = refl
nothing_counts g none (x ∷ xs) empty =
    let here : g x ≡ 0 = ap g (empty 0) ∙ none in
    let later : sum_by g xs ≡ 0 = nothing_counts g none xs (λ m. empty (suc m)) in
    omega (arith, here, later, sum_by-cons g x xs)

-- what each number holds decides the count, however long the lists are
same_counts : (g : Option ℕ → ℕ) → g None ≡ 0 → (xs ys : List (Option ℕ)) → ((m : ℕ) → stop_of ys m ≡ stop_of xs m) → sum_by g ys ≡ sum_by g xs
same_counts g none [] ys same = nothing_counts g none ys same
same_counts g none (x ∷ xs) [] same = sym (nothing_counts g none (x ∷ xs) (λ m. sym (same m)))
same_counts g none (x ∷ xs) (y ∷ ys) same =
    let here : g y ≡ g x = ap g (same 0) in
    let later : sum_by g ys ≡ sum_by g xs = same_counts g none xs ys (λ m. same (suc m)) in
    omega (arith, here, later, sum_by-cons g x xs, sum_by-cons g y ys)

-- one number more
one_more : (g : Option ℕ → ℕ) → g None ≡ 0 → (less more : List (Option ℕ)) (n : ℕ) → stop_of less n ≡ None →
    ((m : ℕ) → m ≢ n → stop_of more m ≡ stop_of less m) → sum_by g more ≡ sum_by g less + g (stop_of more n)
one_more g none [] [] n free same = omega (arith, none)
one_more g none [] (y ∷ ys) zero free same =
    let later : sum_by g ys ≡ 0 = nothing_counts g none ys (λ m. same (suc m) (λ e. omega arith)) in
    omega (arith, later, sum_by-cons g y ys)
one_more g none [] (y ∷ ys) (suc n) free same =
    let here : g y ≡ 0 = ap g (same 0 (λ e. omega arith)) ∙ none in
    let later : sum_by g ys ≡ 0 + g (stop_of ys n) = one_more g none [] ys n refl (λ m other. same (suc m) (λ e. other (omega arith))) in
    omega (arith, here, later, sum_by-cons g y ys)
one_more g none (x ∷ xs) [] zero free same =
    let here : g x ≡ 0 = ap g free ∙ none in
    let later : sum_by g xs ≡ 0 = nothing_counts g none xs (λ m. sym (same (suc m) (λ e. omega arith))) in
    omega (arith, here, later, none, sum_by-cons g x xs)
one_more g none (x ∷ xs) [] (suc n) free same =
    let here : g x ≡ 0 = ap g (sym (same 0 (λ e. omega arith))) ∙ none in
    let later : 0 ≡ sum_by g xs + g None = one_more g none xs [] n free (λ m other. same (suc m) (λ e. other (omega arith))) in
    omega (arith, here, later, sum_by-cons g x xs)
one_more g none (x ∷ xs) (y ∷ ys) zero free same =
    let here : g x ≡ 0 = ap g free ∙ none in
    let later : sum_by g ys ≡ sum_by g xs = same_counts g none xs ys (λ m. same (suc m) (λ e. omega arith)) in
    omega (arith, here, later, sum_by-cons g x xs, sum_by-cons g y ys)
one_more g none (x ∷ xs) (y ∷ ys) (suc n) free same =
    let here : g y ≡ g x = ap g (same 0 (λ e. omega arith)) in
    let later : sum_by g ys ≡ sum_by g xs + g (stop_of ys n) = one_more g none xs ys n free (λ m other. same (suc m) (λ e. other (omega arith))) in
    omega (arith, here, later, sum_by-cons g x xs, sum_by-cons g y ys)

-- how many breakpoints stand at a position, when one that was not set is
pub count_more : (k : ℕ) (less more : List (Option ℕ)) (n : ℕ) → stop_of less n ≡ None →
    ((m : ℕ) → m ≢ n → stop_of more m ≡ stop_of less m) →
    count_by (stands_at k) more ≡ count_by (stands_at k) less + cond (stands_at k (stop_of more n)) 1 0
count_more k less more n free same = one_more (λ (x : Option ℕ). cond (stands_at k x) 1 0) refl less more n free same

-- what a number counts at a position: one if its breakpoint stands there
abbrev tally : ℕ → Option ℕ → ℕ
tally k o = cond (stands_at k o) 1 0

-- a breakpoint stands at a position exactly where some are counted there
pub any_counts : (k : ℕ) (stops : List (Option ℕ)) → list_any (stands_at k) stops ≡ nat_lt 0 (count_by (stands_at k) stops)
any_counts k [] = refl
any_counts k (x ∷ xs) =
    let more : count_by (stands_at k) (x ∷ xs) ≡ tally k x + count_by (stands_at k) xs =
    sum_by-cons (λ (y : Option ℕ). cond (stands_at k y) 1 0) x xs in
    elim (cases_Bool (stands_at k x)) [
      | inl here ↦
          let one : tally k x ≡ 1 = cond-true (stands_at k x) 1 0 here in
          or_left (stands_at k x) (list_any (stands_at k) xs) here
          ∙ sym (lt-ltb 0 (count_by (stands_at k) (x ∷ xs)) (omega (arith, more, one)))
      | inr other ↦
          let none : tally k x ≡ 0 = cond-false (stands_at k x) 1 0 other in
          let same : count_by (stands_at k) xs ≡ count_by (stands_at k) (x ∷ xs) = omega (arith, more, none) in
          ap (λ (b : Bool). b || list_any (stands_at k) xs) other ∙ any_counts k xs ∙ ap (nat_lt 0) same
    ]

-- what one number counts is a part of the whole
part_counts : (g : Option ℕ → ℕ) → g None ≡ 0 → (xs : List (Option ℕ)) (n : ℕ) → g (stop_of xs n) ≤ sum_by g xs
part_counts g none [] n = omega (arith, none)
part_counts g none (x ∷ xs) zero = omega (arith, sum_by-cons g x xs)
part_counts g none (x ∷ xs) (suc n) =
    let later : g (stop_of xs n) ≤ sum_by g xs = part_counts g none xs n in
    omega (arith, later, sum_by-cons g x xs)

stands_there : (k : ℕ) (o : Option ℕ) → o ≡ Some k → tally k o ≡ 1
stands_there k o e = ap (tally k) e ∙ cond-true (eqb k k) 1 0 (eq-eqb k k refl)

stands_elsewhere : (j k : ℕ) (o : Option ℕ) → o ≡ Some k → k ≢ j → tally j o ≡ 0
stands_elsewhere j k o e other = ap (tally j) e ∙ cond-false (eqb k j) 1 0 (ne_eqb k j other)

-- a breakpoint that is set is counted
pub counts_some : (counts : List ℕ) (stops : List (Option ℕ)) (n k : ℕ) → AreCounts counts stops → stop_of stops n ≡ Some k →
    0 < get_or counts k 0
counts_some counts stops n k h here =
    let part : tally k (stop_of stops n) ≤ count_by (stands_at k) stops =
    part_counts (tally k) refl stops n in
    omega (arith, part, stands_there k (stop_of stops n) here, h.counted k (h.within n k here))

-- the counts when one more is set
pub counts_set : (counts : List ℕ) (stops stops' : List (Option ℕ)) (n k c : ℕ) → AreCounts counts stops → k < length counts →
    c ≡ get_or counts k 0 + 1 → stop_of stops n ≡ None → stop_of stops' n ≡ Some k →
    ((m : ℕ) → m ≢ n → stop_of stops' m ≡ stop_of stops m) → AreCounts (set counts k c) stops'
counts_set counts stops stops' n k c h small more free here same = record {
  counted = λ j fits. by_cases j (rw (length-set counts k c) at fits) (cases_eq k j);
  within = λ m j stands. elim (cases_eq m n) [
    | inl e ↦
        let j_is : k ≡ j = same_Some k j (sym here ∙ ap (stop_of stops') (sym e) ∙ stands) in
        rw (length-set counts k c) (omega arith)
    | inr other ↦ rw (length-set counts k c) (h.within m j (sym (same m other) ∙ stands))
  ];
}
  where
    by_cases : (j : ℕ) → j < length counts → (k ≡ j) ⊎ (k ≢ j) → get_or (set counts k c) j 0 ≡ count_by (stands_at j) stops'
    by_cases j fits (inl e) =
        let whole : count_by (stands_at k) stops' ≡ count_by (stands_at k) stops + tally k (stop_of stops' n) =
        count_more k stops stops' n free same in
        let now : c ≡ count_by (stands_at k) stops' = omega (arith, more, whole, stands_there k (stop_of stops' n) here, h.counted k small) in
        subst (λ (x : ℕ). get_or (set counts k c) x 0 ≡ count_by (stands_at x) stops') e (get_or-set_same counts k c 0 small ∙ now)
    by_cases j fits (inr other) =
        let whole : count_by (stands_at j) stops' ≡ count_by (stands_at j) stops + tally j (stop_of stops' n) =
        count_more j stops stops' n free same in
        let kept : count_by (stands_at j) stops ≡ count_by (stands_at j) stops' =
        omega (arith, whole, stands_elsewhere j k (stop_of stops' n) here other) in
        get_or-set_other counts k j c 0 (λ e. other (sym e)) ∙ h.counted j fits ∙ kept

-- the counts when one is taken away
pub counts_taken : (counts : List ℕ) (stops stops' : List (Option ℕ)) (n k c : ℕ) → AreCounts counts stops →
    c + 1 ≡ get_or counts k 0 → stop_of stops n ≡ Some k → stop_of stops' n ≡ None →
    ((m : ℕ) → m ≢ n → stop_of stops' m ≡ stop_of stops m) → AreCounts (set counts k c) stops'
counts_taken counts stops stops' n k c h less here free same = record {
  counted = λ j fits. by_cases j (rw (length-set counts k c) at fits) (cases_eq k j);
  within = λ m j stands. elim (cases_eq m n) [
    | inl e ↦ absurd (none-some j (sym free ∙ ap (stop_of stops') (sym e) ∙ stands))
    | inr other ↦ rw (length-set counts k c) (h.within m j (sym (same m other) ∙ stands))
  ];
}
  where
    small : k < length counts
    small = h.within n k here

    by_cases : (j : ℕ) → j < length counts → (k ≡ j) ⊎ (k ≢ j) → get_or (set counts k c) j 0 ≡ count_by (stands_at j) stops'
    by_cases j fits (inl e) =
        let whole : count_by (stands_at k) stops ≡ count_by (stands_at k) stops' + tally k (stop_of stops n) =
        count_more k stops' stops n free (λ m other. sym (same m other)) in
        let now : c ≡ count_by (stands_at k) stops' = omega (arith, less, whole, stands_there k (stop_of stops n) here, h.counted k small) in
        subst (λ (x : ℕ). get_or (set counts k c) x 0 ≡ count_by (stands_at x) stops') e (get_or-set_same counts k c 0 small ∙ now)
    by_cases j fits (inr other) =
        let whole : count_by (stands_at j) stops ≡ count_by (stands_at j) stops' + tally j (stop_of stops n) =
        count_more j stops' stops n free (λ m o. sym (same m o)) in
        let kept : count_by (stands_at j) stops ≡ count_by (stands_at j) stops' =
        omega (arith, whole, stands_elsewhere j k (stop_of stops n) here other) in
        get_or-set_other counts k j c 0 (λ e. other (sym e)) ∙ h.counted j fits ∙ kept

-- an entry of the slab as a breakpoint
abbrev pub stop_in : ℕ × ℕ → Stop
stop_in e = record { number = e.0; at = e.1 }

pub stops_in_entries : (n : ℕ) (slots : List (Option ℕ)) → map stop_in (entries_from n slots) ≡ stops_from n slots
stops_in_entries n [] = refl
stops_in_entries n (None ∷ rest) = stops_in_entries (n + 1) rest
stops_in_entries n (Some k ∷ rest) =
    ap (λ (l : List Stop). let s : Stop = record { number = n; at = k } in s ∷ l) (stops_in_entries (n + 1) rest)

-- a run to the next breakpoint, from one position and now at another: it is there, or it goes on and ends at the same place
pub record IsRunning (last before at : ℕ) (stops : List (Option ℕ)) (is_there : Bool) : Type 0 where
  pub above : before ≤ at
  pub within : at ≤ last
  pub there : is_there ≡ true → at ≡ next_stop (last - before) before stops
  pub going : is_there ≡ false → at < last
  pub left : is_there ≡ false → next_stop (last - at) at stops ≡ next_stop (last - before) before stops

-- the position after the next instruction is where the run ends, if a breakpoint stands there
pub next_stop-found : (last at : ℕ) (stops : List (Option ℕ)) → at < last → has_stop (at + 1) stops ≡ true →
    next_stop (last - at) at stops ≡ at + 1
next_stop-found last at stops below here =
    let left = last - at - 1 in
    let more : last - at ≡ suc left = omega arith in
    ap (λ (n : ℕ). next_stop n at stops) more
    ∙ ap (λ (o : Option ℕ). unwrap_or o (at + suc left)) (cond-true (has_stop (at + 1) stops) _ _ here)

pub next_stop-on : (last at : ℕ) (stops : List (Option ℕ)) → at < last → has_stop (at + 1) stops ≡ false →
    next_stop (last - at) at stops ≡ next_stop (last - (at + 1)) (at + 1) stops
next_stop-on last at stops below none =
    let left = last - (at + 1) in
    let more : last - at ≡ suc left = omega arith in
    ap (λ (n : ℕ). next_stop n at stops) more
    ∙ ap (λ (o : Option ℕ). unwrap_or o (at + suc left)) (cond-false (has_stop (at + 1) stops) _ _ none)
    ∙ ap (λ (n : ℕ). unwrap_or (find (λ k. has_stop k stops) (range_with_len (at + 1 + 1) left)) n) (omega arith)

next_stop-last : (last at : ℕ) (stops : List (Option ℕ)) → at < last → at + 1 ≡ last → next_stop (last - at) at stops ≡ at + 1
next_stop-last last at stops below e = by_cases (cases_Bool (has_stop (at + 1) stops))
  where
    by_cases : (has_stop (at + 1) stops ≡ true) ⊎ (has_stop (at + 1) stops ≡ false) → next_stop (last - at) at stops ≡ at + 1
    by_cases (inl here) = next_stop-found last at stops below here
    by_cases (inr none) =
        let done : last - (at + 1) ≡ 0 = omega arith in
        next_stop-on last at stops below none ∙ ap (λ (n : ℕ). next_stop n (at + 1) stops) done ∙ omega arith

pub running_step : (last before at at' : ℕ) (stops : List (Option ℕ)) (was_there is_there : Bool) →
    IsRunning last before at stops was_there → was_there ≡ false → at' ≡ at + 1 → is_there ≡ (eqb at' last || has_stop at' stops) →
    IsRunning last before at' stops is_there
running_step last before at at' stops was_there is_there h on next test =
    let below : at < last = h.going on in
    let same : next_stop (last - at) at stops ≡ next_stop (last - before) before stops = h.left on in
    record {
      above = omega (arith, h.above);
      within = omega arith;
      there = λ e. elim (or_cases (eqb at' last) (has_stop at' stops) (sym test ∙ e)) [
        | inl end ↦
            let over : at' ≡ last = eqb-true at' last end in
            next ∙ sym (next_stop-last last at stops below (omega arith)) ∙ same
        | inr here ↦ next ∙ sym (next_stop-found last at stops below (ap (λ (n : ℕ). has_stop n stops) (sym next) ∙ here)) ∙ same
      ];
      going = λ e.
          let both : (eqb at' last ≡ false) × (has_stop at' stops ≡ false) = or_parts (eqb at' last) (has_stop at' stops) (sym test ∙ e) in
          let other : at' ≢ last = eqb-false at' last both.0 in
          omega arith;
      left = λ e.
          let both : (eqb at' last ≡ false) × (has_stop at' stops ≡ false) = or_parts (eqb at' last) (has_stop at' stops) (sym test ∙ e) in
          ap (λ (n : ℕ). next_stop (last - n) n stops) next
          ∙ sym (next_stop-on last at stops below (ap (λ (n : ℕ). has_stop n stops) (sym next) ∙ both.1))
          ∙ same;
    }
