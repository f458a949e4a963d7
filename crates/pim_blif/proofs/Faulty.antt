-- A statement is refused for its fault, from the statements before it.
use Rattle.std.proofs.Common.{◌≡◌, ℕ, suc, ◌<◌, ◌+◌, eqb, leb, ltb, Bool, true, false, not, cond, ◌||◌, ◌&&◌, List, [], ◌∷◌, ◌++◌, length, map, Option, Some, None, option_map, Result, Ok, Err, arith, refl, sym, ap, ◌∙◌, subst, reverse}
use Rattle.std.specs.List.{list_any}
use Rattle.std.specs.Option.{option_or}
use Rattle.std.specs.Result.{result_err}
use Rattle.std.specs.Str.{bytes_eq}
use Rattle.std.proofs.lemmas.Bool.{eq-eqb, ne_eqb}
use Rattle.std.proofs.lemmas.List.{map-append, length-map, length_push}
use Rattle.std.proofs.lemmas.Slice.Eq.{bytes_eq-Decides}
use Rattle.pim_io.specs.Names.{label}
use Rattle.pim_net.specs.declared.kind.Kind.TheVariants as kinds
use Rattle.pim_blif.specs.declared.fault.BlifFault.{BlifFault}
use Rattle.pim_blif.specs.declared.fault.BlifFault.TheVariants as faults
use Rattle.pim_blif.specs.Signals.{signal_number, is_known, with_name}
use Rattle.pim_blif.specs.Statements.{Statement}
use Rattle.pim_blif.specs.Directives.{Directive, Model, Inputs, Outputs, Names, End, PassedOver, Unsupported, directive, arguments, first_word, is_end}
use Rattle.pim_blif.specs.Rows.{cells_of, pattern_of, row_at}
use Rattle.pim_blif.specs.Covers.{CoverText, open_cover, is_one, cover_of, equation_of}
use Rattle.pim_blif.specs.Netlists.{names_of, inputs_of, outputs_of, output_ref}
use Rattle.pim_blif.specs.inner.Judging.{Known, named, with_input, with_output, each, numbered, empty_cover, with_cover, first_value, with_row, with_row_at, row_of, without_cover, allowed, known_behind, judged, known_from}
use Rattle.pim_blif.specs.StatementFaults.{fault_if, name_fault, is_among, inputs_fault, outputs_fault, names_fault, cover_fault, first_of, row_fault, placed_fault, fault_of, unsupported}
use Rattle.pim_io.specs.Readings.{◌>>=◌}
use Rattle.pim_blif.proofs.Knowing.{with_inputs, with_outputs, input_is, output_is}
use Rattle.pim_blif.proofs.Growing.{IsNamed, AreNamed, named_append, still_all, same_numbers, grows_name, number_same, is_named, named_is}

-- a name without a fault is taken up, and one with a fault is not
named_fault : (names : List (List ℕ)) (name : List ℕ) → result_err (named names name) ≡ name_fault names name
named_fault names name = by (ltb 4096 (length name)) (is_known names name) (leb 1048576 (length names))
  where
    by : (long known full : Bool) → result_err (cond long (Err (faults.TooLarge kinds.Name)) (cond known (Ok names) (cond full (Err (faults.TooLarge kinds.Signals)) (Ok (names ++ name ∷ []))))) ≡ option_or (fault_if long (faults.TooLarge kinds.Name)) (fault_if (not known && full) (faults.TooLarge kinds.Signals))
    by true known full = refl
    by false true full = refl
    by false false true = refl
    by false false false = refl

-- two names with one number are one, where the first is among the names
one_name : (names : List (List ℕ)) (x y : List ℕ) → IsNamed names x → signal_number names x ≡ signal_number names y → x ≡ y
one_name [] x y h e = absurd (omega arith)
one_name (known ∷ names) x y h e = by (bytes_eq known x) (bytes_eq known y) refl refl (λ h e. one_name names x y h e) h e
  where
    by : (s t : Bool) → bytes_eq known x ≡ s → bytes_eq known y ≡ t → (IsNamed names x → signal_number names x ≡ signal_number names y → x ≡ y) → cond {A = ℕ} s 0 (suc (signal_number names x)) < suc (length names) → cond {A = ℕ} s 0 (suc (signal_number names x)) ≡ cond {A = ℕ} t 0 (suc (signal_number names y)) → x ≡ y
    by true true i j rest h e = sym ((bytes_eq-Decides known x).0 i) ∙ (bytes_eq-Decides known y).0 j
    by true false i j rest h e = absurd (omega arith)
    by false true i j rest h e = absurd (omega arith)
    by false false i j rest h e = rest (omega arith) (omega arith)

same_test : (names : List (List ℕ)) (x y : List ℕ) → IsNamed names x → eqb (signal_number names x) (signal_number names y) ≡ bytes_eq x y
same_test names x y h = by (bytes_eq x y) refl
  where
    by : (t : Bool) → bytes_eq x y ≡ t → eqb (signal_number names x) (signal_number names y) ≡ t
    by true i = eq-eqb (signal_number names x) (signal_number names y) (ap (signal_number names) ((bytes_eq-Decides x y).0 i))
    by false i = ne_eqb (signal_number names x) (signal_number names y) (λ e. (let t : bytes_eq x y ≡ true = (bytes_eq-Decides x y).1 (one_name names x y h e) in absurd cc))

-- an input is one already by its number where it is one by its name
among_same : (names inputs : List (List ℕ)) (name : List ℕ) → AreNamed names inputs → list_any (λ s. eqb s (signal_number names name)) (map (signal_number names) inputs) ≡ is_among inputs name
among_same names [] name h = refl
among_same names (x ∷ inputs) name h =
    let one = same_test names x name h.0 in
    let rest = among_same names inputs name h.1 in
    ap (λ t. t || list_any (λ s. eqb s (signal_number names name)) (map (signal_number names) inputs)) one ∙ ap (λ t. bytes_eq x name || t) rest

-- a reading that is told its value has the fault of what begins it
pub err_then : {A B : Type 0} (r : Result A BlifFault) (f : A → B) → result_err (r >>= λ x. Ok (f x)) ≡ result_err r
err_then (Ok x) f = refl
err_then (Err fault) f = refl

-- a test before a reading
test_then : {A : Type 0} (t : Bool) (fault : BlifFault) (k : Known) (on : Known → Result A BlifFault) → result_err (cond t (Err fault) (Ok k) >>= on) ≡ option_or (fault_if t fault) (result_err (on k))
test_then true fault k on = refl
test_then false fault k on = refl

-- a test behind a reading
then_test : {A B : Type 0} (r : Result A BlifFault) (t : Bool) (fault : BlifFault) (f : A → B) → result_err (r >>= λ x. cond t (Err fault) (Ok (f x))) ≡ option_or (result_err r) (fault_if t fault)
then_test (Err e) t fault f = refl
then_test (Ok x) true fault f = refl
then_test (Ok x) false fault f = refl

or_none : (o : Option BlifFault) → option_or o None ≡ o
or_none None = refl
or_none (Some fault) = refl

-- what is known has these inputs
record HasInputs (k : Known) (inputs : List (List ℕ)) : Type 0 where
  inputs_are : k.draft.inputs ≡ map (signal_number k.names) inputs
  in_names : AreNamed k.names inputs

input_fault : (line : ℕ) (k : Known) (inputs : List (List ℕ)) (name : List ℕ) → HasInputs k inputs → result_err (with_input line k name) ≡ option_or (name_fault k.names name) (fault_if (is_among inputs name) (faults.TwiceInput line))
unfolding with_input
input_fault line k inputs name h =
    let is_input : List ℕ → Bool = λ signals. list_any (λ s. eqb s (signal_number k.names name)) signals in
    then_test (named k.names name) (is_input k.draft.inputs) (faults.TwiceInput line) (λ names. with_inputs k names (signal_number k.names name ∷ []) (label name ∷ []))
    ∙ (ap (λ o. option_or o (fault_if (is_input k.draft.inputs) (faults.TwiceInput line))) (named_fault k.names name)
    ∙ ap (λ t. option_or (name_fault k.names name) (fault_if t (faults.TwiceInput line))) (ap is_input h.inputs_are ∙ among_same k.names inputs name h.in_names))

input_next : (line : ℕ) (k next : Known) (inputs : List (List ℕ)) (name : List ℕ) → HasInputs k inputs → with_input line k name ≡ Ok next → HasInputs next (inputs ++ name ∷ [])
input_next line k next inputs name h e =
    let more = with_name k.names name in
    let P : Known → Type 0 = λ k. HasInputs k (inputs ++ name ∷ []) in
    let signals : k.draft.inputs ++ signal_number k.names name ∷ [] ≡ map (signal_number more) (inputs ++ name ∷ []) =
    ap (λ is. is ++ signal_number k.names name ∷ []) h.inputs_are
    ∙ (ap (λ is. is ++ signal_number k.names name ∷ []) (sym (same_numbers k.names more inputs (grows_name k.names name) h.in_names))
    ∙ (ap (λ n. map (signal_number more) inputs ++ n ∷ []) (sym (number_same k.names name))
    ∙ sym (map-append (signal_number more) inputs (name ∷ [])))) in
    subst P (sym (input_is line k next name e)) (record {
      inputs_are = signals;
      in_names = named_append more inputs (name ∷ []) (still_all k.names more inputs (grows_name k.names name) h.in_names) (is_named k.names name, tt);
    })

inputs_same : (line : ℕ) (words : List (List ℕ)) (k : Known) (inputs : List (List ℕ)) → HasInputs k inputs → result_err (each (with_input line) k words) ≡ inputs_fault line k.names inputs words
inputs_same line [] k inputs h = refl
inputs_same line (word ∷ words) k inputs h =
    by (with_input line k word) refl (λ next g. inputs_same line words next (inputs ++ word ∷ []) g)
    ∙ ap (λ o. option_or o (inputs_fault line (with_name k.names word) (inputs ++ word ∷ []) words)) (input_fault line k inputs word h)
  where
    by : (r : Result Known BlifFault) → with_input line k word ≡ r → ((next : Known) → HasInputs next (inputs ++ word ∷ []) → result_err (each (with_input line) next words) ≡ inputs_fault line next.names (inputs ++ word ∷ []) words) → result_err (r >>= λ next. each (with_input line) next words) ≡ option_or (result_err r) (inputs_fault line (with_name k.names word) (inputs ++ word ∷ []) words)
    by (Err fault) i rest = refl
    by (Ok next) i rest =
        let names : next.names ≡ with_name k.names word = ap (λ (k : Known). k.names) (input_is line k next word i) in
        rest next (input_next line k next inputs word h i) ∙ ap (λ ns. inputs_fault line ns (inputs ++ word ∷ []) words) names

output_fault : (k : Known) (name : List ℕ) → result_err (with_output k name) ≡ option_or (name_fault k.names name) (fault_if (leb 1048576 (length k.draft.outputs)) (faults.TooLarge kinds.Outputs))
unfolding with_output
output_fault k name =
    then_test (named k.names name) (leb 1048576 (length k.draft.outputs)) (faults.TooLarge kinds.Outputs) (λ names. with_outputs k names (output_ref k.names name ∷ []) (label name ∷ []))
    ∙ ap (λ o. option_or o (fault_if (leb 1048576 (length k.draft.outputs)) (faults.TooLarge kinds.Outputs))) (named_fault k.names name)

outputs_same : (words : List (List ℕ)) (k : Known) → result_err (each with_output k words) ≡ outputs_fault k.names (length k.draft.outputs) words
outputs_same [] k = refl
outputs_same (word ∷ words) k =
    by (with_output k word) refl (λ next. outputs_same words next)
    ∙ ap (λ o. option_or o (outputs_fault (with_name k.names word) (length k.draft.outputs + 1) words)) (output_fault k word)
  where
    by : (r : Result Known BlifFault) → with_output k word ≡ r → ((next : Known) → result_err (each with_output next words) ≡ outputs_fault next.names (length next.draft.outputs) words) → result_err (r >>= λ next. each with_output next words) ≡ option_or (result_err r) (outputs_fault (with_name k.names word) (length k.draft.outputs + 1) words)
    by (Err fault) i rest = refl
    by (Ok next) i rest =
        let is = output_is k next word i in
        rest next
        ∙ (ap (λ (n : Known). outputs_fault n.names (length n.draft.outputs) words) is
        ∙ ap (λ count. outputs_fault (with_name k.names word) count words) (length_push k.draft.outputs (output_ref k.names word)))

names_same : (names words : List (List ℕ)) → result_err (numbered names words) ≡ names_fault names words
names_same names [] = refl
names_same names (word ∷ words) =
    by (named names word) refl (λ after. names_same after words)
    ∙ ap (λ o. option_or o (names_fault (with_name names word) words)) (named_fault names word)
  where
    by : (r : Result (List (List ℕ)) BlifFault) → named names word ≡ r → ((after : List (List ℕ)) → result_err (numbered after words) ≡ names_fault after words) → result_err {T = List ℕ × List (List ℕ)} (r >>= λ after. numbered after words >>= λ others. Ok (signal_number names word ∷ others.0, others.1)) ≡ option_or (result_err r) (names_fault (with_name names word) words)
    by (Err fault) i rest = refl
    by (Ok after) i rest =
        err_then {B = List ℕ × List (List ℕ)} (numbered after words) (λ others. (signal_number names word ∷ others.0, others.1))
        ∙ (rest after ∙ ap (λ ns. names_fault ns words) (named_is names after word i))

cover_same : (line : ℕ) (k : Known) (words : List (List ℕ)) → result_err (with_cover line k words) ≡ cover_fault line k.names words
cover_same line k [] = refl
cover_same line k (word ∷ words) =
    err_then (numbered k.names (word ∷ words)) (λ numbers. record k { names = numbers.1; cover = Some (empty_cover numbers.0) }) ∙ names_same k.names (word ∷ words)

first_same : (names : List (List ℕ)) (c : CoverText) (rows : List (List (List ℕ))) → first_value (cover_of names (record c { rows = rows })) ≡ first_of rows
first_same names c [] = refl
first_same names c (row ∷ rows) =
    let cells = map (λ words. cells_of (pattern_of words)) (row ∷ rows) in
    let some : eqb (length cells) 0 ≡ false = ne_eqb (length cells) 0 (λ n. absurd (omega arith)) in
    ap (λ t. cond t None (Some (is_one row))) some

row_same : (line : ℕ) (k : Known) (names : List (List ℕ)) (cover : Option CoverText) (words : List (List ℕ)) → result_err (row_of line k (option_map (equation_of names) cover) words) ≡ row_fault line cover words
unfolding with_row_at
row_same line k names None words = refl
row_same line k names (Some c) words =
    err_then (with_row_at line (equation_of names c) words) (λ e. record k { cover = Some e })
    ∙ (err_then (row_at line (length (map (signal_number names) c.columns)) (first_value (cover_of names c)) words) (with_row (equation_of names c))
    ∙ (ap (λ width. result_err (row_at line width (first_value (cover_of names c)) words)) (length-map c.columns (signal_number names))
    ∙ ap (λ first. result_err (row_at line (length c.columns) first words)) (first_same names c c.rows)))

-- a statement is refused for its fault
module _ (s : Statement) (before : List Statement) (named_inputs : AreNamed (names_of (reverse before)) (inputs_of (reverse before))) where
  abbrev ended_so : Bool
  ended_so = list_any (λ s. is_end (directive s)) before

  abbrev wrong : BlifFault
  wrong = faults.Syntax s.line

  placed_same : (d : Option Directive) → result_err (allowed s.line (known_from before) s.words d >>= λ k. known_behind s.line k s.words d) ≡ placed_fault before s d
  placed_same None =
      test_then ended_so wrong (known_from before) (λ k. row_of s.line k k.cover s.words)
      ∙ ap (λ o. option_or (fault_if ended_so wrong) o) (row_same s.line (known_from before) (names_of (reverse before)) (open_cover before) s.words)
  placed_same (Some Model) =
      test_then (ltb 0 (length before)) (unsupported s.line (first_word s.words)) (known_from before) (λ k. Ok (without_cover k))
      ∙ or_none (fault_if (ltb 0 (length before)) (unsupported s.line (first_word s.words)))
  placed_same (Some Inputs) =
      test_then ended_so wrong (known_from before) (λ k. each (with_input s.line) (without_cover k) (arguments s))
      ∙ ap (λ o. option_or (fault_if ended_so wrong) o) (inputs_same s.line (arguments s) (without_cover (known_from before)) (inputs_of (reverse before)) (record { inputs_are = refl; in_names = named_inputs }))
  placed_same (Some Outputs) =
      test_then ended_so wrong (known_from before) (λ k. each with_output (without_cover k) (arguments s))
      ∙ (ap (λ o. option_or (fault_if ended_so wrong) o) (outputs_same (arguments s) (without_cover (known_from before)))
      ∙ ap (λ count. option_or (fault_if ended_so wrong) (outputs_fault (names_of (reverse before)) count (arguments s))) (length-map (outputs_of (reverse before)) (output_ref (names_of (reverse before)))))
  placed_same (Some Names) =
      test_then ended_so wrong (known_from before) (λ k. with_cover s.line (without_cover k) (arguments s))
      ∙ ap (λ o. option_or (fault_if ended_so wrong) o) (cover_same s.line (without_cover (known_from before)) (arguments s))
  placed_same (Some End) = test_then ended_so wrong (known_from before) (λ k. Ok (record (without_cover k) { ended = true }))
  placed_same (Some PassedOver) = test_then ended_so wrong (known_from before) (λ k. Ok (without_cover k))
  placed_same (Some Unsupported) = test_then {A = Known} ended_so wrong (known_from before) (λ k. Err (unsupported s.line (first_word s.words)))

  pub fault_same : result_err (judged (known_from before) s.line s.words) ≡ fault_of before s
  fault_same = placed_same (directive s)
