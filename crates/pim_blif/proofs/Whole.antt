-- What a reader knows of a whole file is its netlist.
use Rattle.std.proofs.Common.{◌≡◌, ℕ, suc, ltb, Bool, true, cond, List, [], ◌∷◌, ◌++◌, length, Option, Some, None, Result, Ok, Err, arith, refl, sym, ap, ◌∙◌, subst, reverse}
use mathlib.Core.List.{reverse_aux}
use Rattle.std.specs.List.{flat_map, list_any}
use Rattle.std.specs.Option.{option_or, option_to_list}
use Rattle.std.specs.Result.{result_err}
use Rattle.std.proofs.lemmas.Bool.{lt-ltb}
use Rattle.std.proofs.lemmas.List.{append-nil, reverse-append, reverse-reverse, length-reverse}
use Rattle.std.proofs.lemmas.List.Concat.{flat_map-append}
use Rattle.pim_blif.specs.declared.fault.BlifFault.{BlifFault}
use Rattle.pim_blif.specs.declared.fault.BlifFault.TheVariants as faults
use Rattle.pim_blif.specs.Statements.{Statement}
use Rattle.pim_blif.specs.Directives.{directive, arguments, is_end}
use Rattle.pim_blif.specs.Signals.{with_names}
use Rattle.pim_blif.specs.Covers.{CoverText, covers_of, open_cover}
use Rattle.pim_blif.specs.Netlists.{as_inputs, as_outputs, as_signals, names_of, inputs_of, outputs_of, netlist_of, draft_with}
use Rattle.pim_blif.specs.inner.Judging.{Known, known_from, known_after, judged, without_cover, ended_covers, outcome}
use Rattle.pim_blif.specs.Files.{first_fault, judged_net, unless_faulty, netlist_by}
use Rattle.pim_io.specs.Readings.{◌>>=◌}
use Rattle.pim_blif.proofs.Growing.{with_names-append}
use Rattle.pim_blif.proofs.Faulty.{fault_same}
use Rattle.pim_blif.proofs.CoverTexts.{covers_onto}
use Rattle.pim_blif.proofs.Knowing.{made, IsWhole, made_ended}
use Rattle.pim_blif.proofs.Behind.{behind, IsWholeBehind, IsOpenBegun, taken}

-- one more statement, the latest of which comes first
turned : (s : Statement) (before : List Statement) → reverse (s ∷ before) ≡ reverse before ++ s ∷ []
turned s before = reverse-append (s ∷ []) before

one_more : (f : Statement → List (List ℕ)) (s : Statement) (before : List Statement) → flat_map f (reverse (s ∷ before)) ≡ flat_map f (reverse before) ++ f s
one_more f s before =
    ap (flat_map f) (turned s before) ∙ (flat_map-append f (reverse before) (s ∷ []) ∙ ap (λ xs. flat_map f (reverse before) ++ xs) (append-nil (f s)))

names_next : (s : Statement) (before : List Statement) → with_names (names_of (reverse before)) (as_signals (directive s) (arguments s)) ≡ names_of (reverse (s ∷ before))
names_next s before =
    sym (ap (with_names []) (one_more (λ s. as_signals (directive s) (arguments s)) s before)
    ∙ with_names-append [] (flat_map (λ s. as_signals (directive s) (arguments s)) (reverse before)) (as_signals (directive s) (arguments s)))

inputs_next : (s : Statement) (before : List Statement) → inputs_of (reverse before) ++ as_inputs (directive s) (arguments s) ≡ inputs_of (reverse (s ∷ before))
inputs_next s before = sym (one_more (λ s. as_inputs (directive s) (arguments s)) s before)

outputs_next : (s : Statement) (before : List Statement) → outputs_of (reverse before) ++ as_outputs (directive s) (arguments s) ≡ outputs_of (reverse (s ∷ before))
outputs_next s before = sym (one_more (λ s. as_outputs (directive s) (arguments s)) s before)

-- whether one of these statements ends the model
abbrev ended_in : List Statement → Bool
ended_in before = list_any (λ s. is_end (directive s)) before

-- all is whole behind these statements, the latest of which comes first
abbrev IsWholeAt : List Statement → Type 0
IsWholeAt before = IsWhole (names_of (reverse before)) (inputs_of (reverse before)) (outputs_of (reverse before)) (ended_covers before) (open_cover before)

known_next : (s : Statement) (before : List Statement) → behind (directive s) s (names_of (reverse before)) (inputs_of (reverse before)) (outputs_of (reverse before)) (ended_covers before) (open_cover before) (ended_in before) ≡ known_from (s ∷ before)
known_next s before =
    let covers = ended_covers (s ∷ before) in
    let cover = open_cover (s ∷ before) in
    let ended = ended_in (s ∷ before) in
    ap (λ ns. made ns (inputs_of (reverse before) ++ as_inputs (directive s) (arguments s)) (outputs_of (reverse before) ++ as_outputs (directive s) (arguments s)) covers cover true ended) (names_next s before)
    ∙ (ap (λ is. made (names_of (reverse (s ∷ before))) is (outputs_of (reverse before) ++ as_outputs (directive s) (arguments s)) covers cover true ended) (inputs_next s before)
    ∙ (ap (λ os. made (names_of (reverse (s ∷ before))) (inputs_of (reverse (s ∷ before))) os covers cover true ended) (outputs_next s before)
    ∙ ap (λ t. made (names_of (reverse (s ∷ before))) (inputs_of (reverse (s ∷ before))) (outputs_of (reverse (s ∷ before))) covers cover t ended) (sym (lt-ltb 0 (suc (length before)) (omega arith)))))

whole_next : (s : Statement) (before : List Statement) → IsWholeBehind (directive s) s (names_of (reverse before)) (inputs_of (reverse before)) (outputs_of (reverse before)) (ended_covers before) (open_cover before) → IsWholeAt (s ∷ before)
whole_next s before w =
    let covers = ended_covers (s ∷ before) in
    let cover = open_cover (s ∷ before) in
    let P : List (List ℕ) → Type 0 = λ ns. IsWhole ns (inputs_of (reverse before) ++ as_inputs (directive s) (arguments s)) (outputs_of (reverse before) ++ as_outputs (directive s) (arguments s)) covers cover in
    let Q : List (List ℕ) → Type 0 = λ is. IsWhole (names_of (reverse (s ∷ before))) is (outputs_of (reverse before) ++ as_outputs (directive s) (arguments s)) covers cover in
    let R : List (List ℕ) → Type 0 = λ os. IsWhole (names_of (reverse (s ∷ before))) (inputs_of (reverse (s ∷ before))) os covers cover in
    subst R (outputs_next s before) (subst Q (inputs_next s before) (subst P (names_next s before) w))

open_begun : (cover : Option CoverText) (started : Bool) → started ≡ true → IsOpenBegun cover started
open_begun None started e = tt
open_begun (Some c) started e = e

begun_at : (before : List Statement) → IsOpenBegun (open_cover before) (ltb 0 (length before))
begun_at [] = tt
begun_at (s ∷ before) = open_begun (open_cover (s ∷ before)) (ltb 0 (suc (length before))) (lt-ltb 0 (suc (length before)) (omega arith))

-- what is known, where this fault was met or none
abbrev by_fault : Option BlifFault → Known → Result Known BlifFault
by_fault None k = Ok k
by_fault (Some fault) k = Err fault

-- what is known behind further statements
onto : (rest before : List Statement) → IsWholeAt before → known_after (known_from before) rest ≡ by_fault (first_fault before rest) (known_from (reverse_aux rest before))
onto [] before w = refl
onto (s ∷ rest) before w =
    by (judged (known_from before) s.line s.words) refl (λ v. onto rest (s ∷ before) v)
    ∙ ap (λ o. by_fault (option_or o (first_fault (s ∷ before) rest)) (known_from (reverse_aux rest (s ∷ before)))) (fault_same s before w.inputs_in)
  where
    by : (r : Result Known BlifFault) → judged (known_from before) s.line s.words ≡ r → (IsWholeAt (s ∷ before) → known_after (known_from (s ∷ before)) rest ≡ by_fault (first_fault (s ∷ before) rest) (known_from (reverse_aux rest (s ∷ before)))) → (r >>= λ next. known_after next rest) ≡ by_fault (option_or (result_err r) (first_fault (s ∷ before) rest)) (known_from (reverse_aux rest (s ∷ before)))
    by (Err fault) i on = refl
    by (Ok next) i on =
        let step = taken s next (names_of (reverse before)) (inputs_of (reverse before)) (outputs_of (reverse before)) (ended_covers before) (open_cover before) (ltb 0 (length before)) (ended_in before) w (begun_at before) (directive s) i in
        ap (λ k. known_after k rest) (step.0 ∙ known_next s before) ∙ on (whole_next s before step.1)

nothing_yet : IsWholeAt []
nothing_yet = record { inputs_in = tt; outputs_in = tt; covers_in = tt; cover_in = tt }

-- the netlist of all that is known of a file
all_known : (s : Statement) (rest : List Statement) → outcome (known_from (reverse (s ∷ rest))) ≡ judged_net (names_of (s ∷ rest)) (netlist_of (s ∷ rest))
all_known s rest =
    let all = s ∷ rest in
    let back : reverse (reverse all) ≡ all = reverse-reverse all in
    let k = known_from (reverse all) in
    let count : length (reverse all) ≡ suc (length rest) = length-reverse all in
    let begun : k.started ≡ true = lt-ltb 0 (length (reverse all)) (omega arith) in
    let covers : ended_covers (reverse all) ++ option_to_list (open_cover (reverse all)) ≡ covers_of all = sym (covers_onto all []) in
    let ended : without_cover k ≡ made (names_of (reverse (reverse all))) (inputs_of (reverse (reverse all))) (outputs_of (reverse (reverse all))) (ended_covers (reverse all) ++ option_to_list (open_cover (reverse all))) None true k.ended =
    made_ended (names_of (reverse (reverse all))) (inputs_of (reverse (reverse all))) (outputs_of (reverse (reverse all))) (ended_covers (reverse all)) (open_cover (reverse all)) k.started k.ended in
    ap (λ t. cond t (judged_net k.names (without_cover k).draft) (Err (faults.Syntax 1))) begun
    ∙ (ap (λ (k : Known). judged_net (names_of (reverse (reverse all))) k.draft) ended
    ∙ (ap (λ sts. judged_net (names_of sts) (draft_with (names_of sts) (inputs_of sts) (outputs_of sts) (ended_covers (reverse all) ++ option_to_list (open_cover (reverse all))))) back
    ∙ ap (λ cs. judged_net (names_of all) (draft_with (names_of all) (inputs_of all) (outputs_of all) cs)) covers))

pub net_from_known : (statements : List Statement) → netlist_by statements ≡ (known_after (known_from []) statements >>= outcome)
unfolding netlist_by
net_from_known [] = refl
net_from_known (s ∷ rest) = by (first_fault [] (s ∷ rest)) ∙ sym (ap (λ r. r >>= outcome) (onto (s ∷ rest) [] nothing_yet))
  where
    by : (fault : Option BlifFault) → unless_faulty (s ∷ rest) fault ≡ (by_fault fault (known_from (reverse (s ∷ rest))) >>= outcome)
    by None = sym (all_known s rest)
    by (Some fault) = refl
