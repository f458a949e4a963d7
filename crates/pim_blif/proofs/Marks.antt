-- Inputs and their marks.
use Rattle.std.proofs.Common.{◌≡◌, ℕ, ◌<◌, ◌+◌, Bool, true, false, ◌||◌, cond, eqb, List, [], ◌∷◌, ◌++◌, Ok, Err, length, set, arith, refl, sym, ap, ◌∙◌, inl, inr, ◌⊎◌}
use Rattle.std.specs.List.{list_any, count_by}
use Rattle.std.proofs.lemmas.Bool.{eq-eqb, ne_eqb, cases_eq}
use Rattle.std.proofs.lemmas.List.{length-set, get_or-set_same, get_or-set_other, length-append}
use Rattle.std.proofs.lemmas.List.Sums.{count_by-le-length, sum_by-set}
use Rattle.pim_blif.specs.declared.fault.BlifFault.TheVariants as faults
use Rattle.pim_blif.specs.Signals.{signal_number}
use Rattle.pim_blif.specs.inner.InputMarks.{is_marked, AreMarked}
use Rattle.pim_blif.specs.inner.Judging.{Known, named, with_input}

-- one more mark counts as one
counted : (marks : List Bool) (sig : ℕ) → sig < length marks → is_marked marks sig ≡ false → count_by (λ mark. mark) (set marks sig true) ≡ count_by (λ mark. mark) marks + 1
counted marks sig lt unmarked =
    let e = sum_by-set (λ (mark : Bool). cond mark 1 0) marks sig true false lt in
    let f : count_by (λ mark. mark) (set marks sig true) + cond {A = ℕ} (is_marked marks sig) 1 0 ≡ count_by (λ mark. mark) marks + 1 = e in
    let g : cond {A = ℕ} (is_marked marks sig) 1 0 ≡ 0 = ap (λ (b : Bool). cond {A = ℕ} b 1 0) unmarked in
    omega arith

-- there is room for an input that is not one yet
pub few_inputs : (inputs : List ℕ) (marks : List Bool) (sig : ℕ) → AreMarked inputs marks → sig < length marks → is_marked marks sig ≡ false → length inputs < length marks
few_inputs inputs marks sig are lt unmarked =
    let more = counted marks sig lt unmarked in
    let most = count_by-le-length (λ mark. mark) (set marks sig true) in
    let size = length-set marks sig true in
    let once = are.once in
    omega arith

any_push : (inputs : List ℕ) (sig s : ℕ) → list_any (λ i. eqb i s) (inputs ++ sig ∷ []) ≡ (list_any (λ i. eqb i s) inputs || eqb sig s)
any_push [] sig s = elim (eqb sig s) as (λ t. (t || false) ≡ t) [ true ↦ refl | false ↦ refl ]
any_push (x ∷ inputs) sig s = elim (eqb x s) as (λ t. (t || list_any (λ i. eqb i s) (inputs ++ sig ∷ [])) ≡ ((t || list_any (λ i. eqb i s) inputs) || eqb sig s)) [ true ↦ refl | false ↦ any_push inputs sig s ]

or_true : (t : Bool) → (t || true) ≡ true
or_true true = refl
or_true false = refl

or_false : (t : Bool) → (t || false) ≡ t
or_false true = refl
or_false false = refl

-- the marks after one more input
pub marks_more : (inputs : List ℕ) (marks : List Bool) (sig : ℕ) → AreMarked inputs marks → sig < length marks → is_marked marks sig ≡ false → AreMarked (inputs ++ sig ∷ []) (set marks sig true)
marks_more inputs marks sig are lt unmarked = record {
  same = same;
  once = counted marks sig lt unmarked ∙ (ap (λ n. n + 1) are.once ∙ sym (length-append inputs (sig ∷ [])));
}
  where
    by : (s : ℕ) → (sig ≡ s) ⊎ (sig ≡ s → ⊥) → is_marked (set marks sig true) s ≡ list_any (λ i. eqb i s) (inputs ++ sig ∷ [])
    by s (inl e) =
        let one : is_marked (set marks sig true) s ≡ true = rw (← e) (get_or-set_same marks sig true false lt) in
        let t : eqb sig s ≡ true = eq-eqb sig s e in
        one ∙ sym (any_push inputs sig s ∙ (ap (λ b. list_any (λ i. eqb i s) inputs || b) t ∙ or_true (list_any (λ i. eqb i s) inputs)))
    by s (inr ne) =
        let t : eqb sig s ≡ false = ne_eqb sig s ne in
        get_or-set_other marks sig s true false (λ e. ne (sym e)) ∙ (are.same s ∙ sym (any_push inputs sig s ∙ (ap (λ b. list_any (λ i. eqb i s) inputs || b) t ∙ or_false (list_any (λ i. eqb i s) inputs))))

    same : (s : ℕ) → is_marked (set marks sig true) s ≡ list_any (λ i. eqb i s) (inputs ++ sig ∷ [])
    same s = by s (cases_eq sig s)

-- the marks after room was made
pub marks_same : (inputs : List ℕ) (marks more : List Bool) → AreMarked inputs marks → ((s : ℕ) → is_marked more s ≡ is_marked marks s) → count_by (λ mark. mark) more ≡ count_by (λ mark. mark) marks → AreMarked inputs more
marks_same inputs marks more are same count = record { same = λ s. same s ∙ are.same s; once = count ∙ are.once }

-- nothing is marked at first
pub marks_none : AreMarked [] []
marks_none = record { same = λ s. refl; once = refl }

-- an input whose signal is marked already is one twice
pub twice_is : (line : ℕ) (k : Known) (marks : List Bool) (name : List ℕ) (after : List (List ℕ)) → AreMarked k.draft.inputs marks → named k.names name ≡ Ok after → is_marked marks (signal_number k.names name) ≡ true → with_input line k name ≡ Err (faults.TwiceInput line)
unfolding with_input
twice_is line k marks name after are taken marked =
    let twice : list_any (λ i. eqb i (signal_number k.names name)) k.draft.inputs ≡ true = sym (are.same (signal_number k.names name)) ∙ marked in
    rw (taken, twice) refl
