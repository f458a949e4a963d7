-- What is known behind one more statement.
use Rattle.std.proofs.Common.{◌≡◌, ℕ, zero, suc, ◌<◌, ◌-◌, ◌==◌, leb, Bool, true, false, cond, List, [], ◌∷◌, ◌++◌, length, map, take, get_or, Option, Some, None, option_map, Result, Ok, Err, arith, refl, sym, ap, ◌∙◌, append_assoc}
use Rattle.std.specs.List.{list_any}
use Rattle.std.specs.Option.{option_to_list}
use Rattle.std.proofs.lemmas.List.{append-nil, map-append, take-map, length-map, get_or-map}
use Rattle.pim_io.specs.Names.{label}
use Rattle.pim_net.specs.Netlist.{DraftView}
use Rattle.pim_net.specs.declared.parts.Equation.{Equation}
use Rattle.pim_net.specs.declared.parts.OutRef.{OutRef}
use Rattle.pim_net.specs.declared.kind.Kind.TheVariants as kinds
use Rattle.pim_blif.specs.declared.fault.BlifFault.{BlifFault}
use Rattle.pim_blif.specs.declared.fault.BlifFault.TheVariants as faults
use Rattle.pim_blif.specs.Signals.{signal_number, with_name, with_names}
use Rattle.pim_blif.specs.Rows.{cells_of, pattern_of}
use Rattle.pim_blif.specs.Covers.{CoverText, cover_text, phase_of, equation_of}
use Rattle.pim_blif.specs.Netlists.{draft_with, output_ref}
use Rattle.pim_blif.specs.inner.Judging.{Known, named, with_input, with_output, each, numbered, empty_cover, without_cover}
use Rattle.pim_io.specs.Readings.{◌>>=◌}
use Rattle.pim_blif.proofs.Growing.{IsNamed, AreNamed, Grows, still_named, still_all, named_append, same_numbers, number_stays, named_is}

-- all that is known, where these names, inputs, outputs and covers came
abbrev pub made : List (List ℕ) → List (List ℕ) → List (List ℕ) → List CoverText → Option CoverText → Bool → Bool → Known
made names inputs outputs covers cover started ended = record {
  names = names;
  draft = draft_with names inputs outputs covers;
  cover = option_map (equation_of names) cover;
  started = started;
  ended = ended;
}

-- the names of a cover are among the names
abbrev pub IsCoverNamed : List (List ℕ) → CoverText → Type 0
IsCoverNamed names c = AreNamed names c.columns × IsNamed names c.driven

abbrev pub AreCoversNamed : List (List ℕ) → List CoverText → Type 0
AreCoversNamed names [] = Unit {0}
AreCoversNamed names (c ∷ covers) = IsCoverNamed names c × AreCoversNamed names covers

abbrev pub IsOpenNamed : List (List ℕ) → Option CoverText → Type 0
IsOpenNamed names None = Unit {0}
IsOpenNamed names (Some c) = IsCoverNamed names c

-- all names that came are among the names
pub record IsWhole (names inputs outputs : List (List ℕ)) (covers : List CoverText) (cover : Option CoverText) : Type 0 where
  pub inputs_in : AreNamed names inputs
  pub outputs_in : AreNamed names outputs
  pub covers_in : AreCoversNamed names covers
  pub cover_in : IsOpenNamed names cover

covers_append : (names : List (List ℕ)) (xs ys : List CoverText) → AreCoversNamed names xs → AreCoversNamed names ys → AreCoversNamed names (xs ++ ys)
covers_append names [] ys h k = k
covers_append names (x ∷ xs) ys h k = (h.0, covers_append names xs ys h.1 k)

open_named : (names : List (List ℕ)) (cover : Option CoverText) → IsOpenNamed names cover → AreCoversNamed names (option_to_list cover)
open_named names None h = tt
open_named names (Some c) h = (h, tt)

still_cover : (names more : List (List ℕ)) (c : CoverText) → Grows names more → IsCoverNamed names c → IsCoverNamed more c
still_cover names more c g h = (still_all names more c.columns g h.0, still_named names more c.driven g h.1)

still_covers : (names more : List (List ℕ)) (covers : List CoverText) → Grows names more → AreCoversNamed names covers → AreCoversNamed more covers
still_covers names more [] g h = tt
still_covers names more (c ∷ covers) g h = (still_cover names more c g h.0, still_covers names more covers g h.1)

-- where a cover was ended, all is whole still
pub whole_ended : (names inputs outputs : List (List ℕ)) (covers : List CoverText) (cover : Option CoverText) → IsWhole names inputs outputs covers cover → IsWhole names inputs outputs (covers ++ option_to_list cover) None
whole_ended names inputs outputs covers cover w = record {
  inputs_in = w.inputs_in;
  outputs_in = w.outputs_in;
  covers_in = covers_append names covers (option_to_list cover) w.covers_in (open_named names cover w.cover_in);
  cover_in = tt;
}

-- where names grow, all is whole still
pub whole_grown : (names more inputs outputs : List (List ℕ)) (covers : List CoverText) → Grows names more → IsWhole names inputs outputs covers None → IsWhole more inputs outputs covers None
whole_grown names more inputs outputs covers g w = record {
  inputs_in = still_all names more inputs g w.inputs_in;
  outputs_in = still_all names more outputs g w.outputs_in;
  covers_in = still_covers names more covers g w.covers_in;
  cover_in = tt;
}

equation_by : ℕ → List ℕ → CoverText → Equation
equation_by sig ins c = record { sig = sig; cover = record { ins = ins; rows = map (λ words. cells_of (pattern_of words)) c.rows; phase = phase_of c.rows } }

same_equation : (names more : List (List ℕ)) (c : CoverText) → Grows names more → IsCoverNamed names c → equation_of more c ≡ equation_of names c
unfolding equation_by
same_equation names more c g h =
    ap (λ sig. equation_by sig (map (signal_number more) c.columns) c) (g.same c.driven h.1)
    ∙ ap (λ ins. equation_by (signal_number names c.driven) ins c) (same_numbers names more c.columns g h.0)

same_equations : (names more : List (List ℕ)) (covers : List CoverText) → Grows names more → AreCoversNamed names covers → map (equation_of more) covers ≡ map (equation_of names) covers
same_equations names more [] g h = refl
same_equations names more (c ∷ covers) g h =
    ap (λ e. e ∷ map (equation_of more) covers) (same_equation names more c g h.0)
    ∙ ap (λ es. equation_of names c ∷ es) (same_equations names more covers g h.1)

same_outputs : (names more outputs : List (List ℕ)) → Grows names more → AreNamed names outputs → map (output_ref more) outputs ≡ map (output_ref names) outputs
same_outputs names more [] g h = refl
same_outputs names more (name ∷ outputs) g h =
    ap (λ n. record { sig = n; neg = false } ∷ map (output_ref more) outputs) (g.same name h.0)
    ∙ ap (λ os. output_ref names name ∷ os) (same_outputs names more outputs g h.1)

-- a draft of these lists
abbrev pub drafted : List ℕ → List (List ℕ) → List Equation → List OutRef → List (List ℕ) → DraftView
drafted inputs input_labels equations outputs output_labels = record {
  inputs = inputs;
  input_labels = input_labels;
  equations = equations;
  outputs = outputs;
  output_labels = output_labels;
}

-- where names grow, what came before keeps its numbers
pub same_draft : (names more inputs outputs : List (List ℕ)) (covers : List CoverText) → Grows names more → IsWhole names inputs outputs covers None → draft_with more inputs outputs covers ≡ draft_with names inputs outputs covers
same_draft names more inputs outputs covers g w =
    ap (λ is. drafted is (map label inputs) (map (equation_of more) covers) (map (output_ref more) outputs) (map label outputs)) (same_numbers names more inputs g w.inputs_in)
    ∙ (ap (λ es. drafted (map (signal_number names) inputs) (map label inputs) es (map (output_ref more) outputs) (map label outputs)) (same_equations names more covers g w.covers_in)
    ∙ ap (λ os. drafted (map (signal_number names) inputs) (map label inputs) (map (equation_of names) covers) os (map label outputs)) (same_outputs names more outputs g w.outputs_in))

ended_equations : (names : List (List ℕ)) (covers : List CoverText) (cover : Option CoverText) → map (equation_of names) covers ++ option_to_list (option_map (equation_of names) cover) ≡ map (equation_of names) (covers ++ option_to_list cover)
ended_equations names covers None = append-nil (map (equation_of names) covers) ∙ ap (map (equation_of names)) (sym (append-nil covers))
ended_equations names covers (Some c) = sym (map-append (equation_of names) covers (c ∷ []))

-- where a directive ends the open cover
pub made_ended : (names inputs outputs : List (List ℕ)) (covers : List CoverText) (cover : Option CoverText) (started ended : Bool) → without_cover (made names inputs outputs covers cover started ended) ≡ made names inputs outputs (covers ++ option_to_list cover) None true ended
made_ended names inputs outputs covers cover started ended =
    ap (λ es. record {
      names = names;
      draft = drafted (map (signal_number names) inputs) (map label inputs) es (map (output_ref names) outputs) (map label outputs);
      cover = None;
      started = true;
      ended = ended;
    }) (ended_equations names covers cover)

-- no further inputs and outputs
pub made_same : (names inputs outputs : List (List ℕ)) (covers : List CoverText) (cover : Option CoverText) (started ended : Bool) → made names inputs outputs covers cover started ended ≡ made names (inputs ++ []) (outputs ++ []) covers cover started ended
made_same names inputs outputs covers cover started ended =
    ap (λ is. made names is outputs covers cover started ended) (sym (append-nil inputs))
    ∙ ap (λ os. made names (inputs ++ []) os covers cover started ended) (sym (append-nil outputs))

pub whole_same : (names inputs outputs : List (List ℕ)) (covers : List CoverText) (cover : Option CoverText) → IsWhole names inputs outputs covers cover → IsWhole names (inputs ++ []) (outputs ++ []) covers cover
whole_same names inputs outputs covers cover w = record {
  inputs_in = named_append names inputs [] w.inputs_in tt;
  outputs_in = named_append names outputs [] w.outputs_in tt;
  covers_in = w.covers_in;
  cover_in = w.cover_in;
}

-- what is known with further inputs
abbrev pub with_inputs : Known → List (List ℕ) → List ℕ → List (List ℕ) → Known
with_inputs k names inputs labels = record k {
  names = names;
  draft = record k.draft { inputs = k.draft.inputs ++ inputs; input_labels = k.draft.input_labels ++ labels };
}

pub input_is : (line : ℕ) (k next : Known) (name : List ℕ) → with_input line k name ≡ Ok next → next ≡ with_inputs k (with_name k.names name) (signal_number k.names name ∷ []) (label name ∷ [])
unfolding with_input
input_is line k next name e = by (named k.names name) (list_any (λ s. s == signal_number k.names name) k.draft.inputs) refl e
  where
    one : List (List ℕ) → Known
    one names = with_inputs k names (signal_number k.names name ∷ []) (label name ∷ [])

    by : (r : Result (List (List ℕ)) BlifFault) (t : Bool) → named k.names name ≡ r → (r >>= λ names. cond t (Err (faults.TwiceInput line)) (Ok (one names))) ≡ Ok next → next ≡ one (with_name k.names name)
    by (Err fault) t i e = absurd cc
    by (Ok names) true i e = absurd cc
    by (Ok names) false i e =
        let same : next ≡ one names = cc in
        same ∙ ap one (named_is k.names names name i)

inputs_on : (k : Known) (n1 n2 : List (List ℕ)) (i1 i2 : List ℕ) (l1 l2 : List (List ℕ)) → with_inputs (with_inputs k n1 i1 l1) n2 i2 l2 ≡ with_inputs k n2 (i1 ++ i2) (l1 ++ l2)
inputs_on k n1 n2 i1 i2 l1 l2 = simp append_assoc

inputs_none : (k : Known) → k ≡ with_inputs k k.names [] []
inputs_none k = simp append-nil

-- the inputs of a statement that has no fault
pub inputs_taken : (line : ℕ) (k next : Known) (words : List (List ℕ)) → each (with_input line) k words ≡ Ok next → next ≡ with_inputs k (with_names k.names words) (map (signal_number (with_names k.names words)) words) (map label words)
inputs_taken line k next [] e =
    let same : next ≡ k = cc in
    same ∙ inputs_none k
inputs_taken line k next (word ∷ words) e = by (with_input line k word) refl e (λ first f. inputs_taken line first next words f)
  where
    by : (r : Result Known BlifFault) → with_input line k word ≡ r → (r >>= λ first. each (with_input line) first words) ≡ Ok next → ((first : Known) → each (with_input line) first words ≡ Ok next → next ≡ with_inputs first (with_names first.names words) (map (signal_number (with_names first.names words)) words) (map label words)) → next ≡ with_inputs k (with_names (with_name k.names word) words) (map (signal_number (with_names (with_name k.names word) words)) (word ∷ words)) (map label (word ∷ words))
    by (Err fault) i e others = absurd cc
    by (Ok first) i e others =
        let is : first ≡ with_inputs k (with_name k.names word) (signal_number k.names word ∷ []) (label word ∷ []) = input_is line k first word i in
        others first e
        ∙ (ap (λ f. with_inputs f (with_names f.names words) (map (signal_number (with_names f.names words)) words) (map label words)) is
        ∙ (inputs_on k (with_name k.names word) (with_names (with_name k.names word) words) (signal_number k.names word ∷ []) (map (signal_number (with_names (with_name k.names word) words)) words) (label word ∷ []) (map label words)
        ∙ ap (λ n. with_inputs k (with_names (with_name k.names word) words) (n ∷ map (signal_number (with_names (with_name k.names word) words)) words) (label word ∷ map label words)) (sym (number_stays k.names words word))))

-- what is known with further outputs
abbrev pub with_outputs : Known → List (List ℕ) → List OutRef → List (List ℕ) → Known
with_outputs k names outputs labels = record k {
  names = names;
  draft = record k.draft { outputs = k.draft.outputs ++ outputs; output_labels = k.draft.output_labels ++ labels };
}

pub output_is : (k next : Known) (name : List ℕ) → with_output k name ≡ Ok next → next ≡ with_outputs k (with_name k.names name) (output_ref k.names name ∷ []) (label name ∷ [])
unfolding with_output
output_is k next name e = by (named k.names name) (leb 1048576 (length k.draft.outputs)) refl e
  where
    one : List (List ℕ) → Known
    one names = with_outputs k names (output_ref k.names name ∷ []) (label name ∷ [])

    by : (r : Result (List (List ℕ)) BlifFault) (t : Bool) → named k.names name ≡ r → (r >>= λ names. cond t (Err (faults.TooLarge kinds.Outputs)) (Ok (one names))) ≡ Ok next → next ≡ one (with_name k.names name)
    by (Err fault) t i e = absurd cc
    by (Ok names) true i e = absurd cc
    by (Ok names) false i e =
        let same : next ≡ one names = cc in
        same ∙ ap one (named_is k.names names name i)

outputs_on : (k : Known) (n1 n2 : List (List ℕ)) (o1 o2 : List OutRef) (l1 l2 : List (List ℕ)) → with_outputs (with_outputs k n1 o1 l1) n2 o2 l2 ≡ with_outputs k n2 (o1 ++ o2) (l1 ++ l2)
outputs_on k n1 n2 o1 o2 l1 l2 = simp append_assoc

outputs_none : (k : Known) → k ≡ with_outputs k k.names [] []
outputs_none k = simp append-nil

-- the outputs of a statement that has no fault
pub outputs_taken : (k next : Known) (words : List (List ℕ)) → each with_output k words ≡ Ok next → next ≡ with_outputs k (with_names k.names words) (map (output_ref (with_names k.names words)) words) (map label words)
outputs_taken k next [] e =
    let same : next ≡ k = cc in
    same ∙ outputs_none k
outputs_taken k next (word ∷ words) e = by (with_output k word) refl e (λ first f. outputs_taken first next words f)
  where
    by : (r : Result Known BlifFault) → with_output k word ≡ r → (r >>= λ first. each with_output first words) ≡ Ok next → ((first : Known) → each with_output first words ≡ Ok next → next ≡ with_outputs first (with_names first.names words) (map (output_ref (with_names first.names words)) words) (map label words)) → next ≡ with_outputs k (with_names (with_name k.names word) words) (map (output_ref (with_names (with_name k.names word) words)) (word ∷ words)) (map label (word ∷ words))
    by (Err fault) i e others = absurd cc
    by (Ok first) i e others =
        let is : first ≡ with_outputs k (with_name k.names word) (output_ref k.names word ∷ []) (label word ∷ []) = output_is k first word i in
        others first e
        ∙ (ap (λ f. with_outputs f (with_names f.names words) (map (output_ref (with_names f.names words)) words) (map label words)) is
        ∙ (outputs_on k (with_name k.names word) (with_names (with_name k.names word) words) (output_ref k.names word ∷ []) (map (output_ref (with_names (with_name k.names word) words)) words) (label word ∷ []) (map label words)
        ∙ ap (λ n. with_outputs k (with_names (with_name k.names word) words) (record { sig = n; neg = false } ∷ map (output_ref (with_names (with_name k.names word) words)) words) (label word ∷ map label words)) (sym (number_stays k.names words word))))

-- the numbers of names that have no fault, and the names with them
abbrev pub numbers_of : List (List ℕ) → List (List ℕ) → List ℕ × List (List ℕ)
numbers_of names words = (map (signal_number (with_names names words)) words, with_names names words)

pub numbered_is : (names words : List (List ℕ)) (numbers : List ℕ × List (List ℕ)) → numbered names words ≡ Ok numbers → numbers ≡ numbers_of names words
numbered_is names [] numbers e = cc
numbered_is names (word ∷ words) numbers e = by (named names word) refl e (λ after others f. numbered_is after words others f)
  where
    join : (after : List (List ℕ)) (r : Result (List ℕ × List (List ℕ)) BlifFault) → numbered after words ≡ r → after ≡ with_name names word → (r >>= λ others. Ok (signal_number names word ∷ others.0, others.1)) ≡ Ok numbers → ((after : List (List ℕ)) (others : List ℕ × List (List ℕ)) → numbered after words ≡ Ok others → others ≡ numbers_of after words) → numbers ≡ numbers_of names (word ∷ words)
    join after (Err fault) i a e on = absurd cc
    join after (Ok others) i a e on =
        let same : numbers ≡ (signal_number names word ∷ others.0, others.1) = cc in
        let rest : others ≡ numbers_of (with_name names word) words = on after others i ∙ ap (λ ns. numbers_of ns words) a in
        same ∙ (ap (λ (o : List ℕ × List (List ℕ)). (signal_number names word ∷ o.0, o.1)) rest
        ∙ ap (λ n. (n ∷ map (signal_number (with_names (with_name names word) words)) words, with_names (with_name names word) words)) (sym (number_stays names words word)))

    by : (r : Result (List (List ℕ)) BlifFault) → named names word ≡ r → (r >>= λ after. numbered after words >>= λ others. Ok (signal_number names word ∷ others.0, others.1)) ≡ Ok numbers → ((after : List (List ℕ)) (others : List ℕ × List (List ℕ)) → numbered after words ≡ Ok others → others ≡ numbers_of after words) → numbers ≡ numbers_of names (word ∷ words)
    by (Err fault) i e on = absurd cc
    by (Ok after) i e on = join after (numbered after words) refl (named_is names after word i) e on

pub named_take : (names words : List (List ℕ)) (n : ℕ) → AreNamed names words → AreNamed names (take n words)
named_take names words zero h = tt
named_take names [] (suc n) h = tt
named_take names (word ∷ words) (suc n) h = (h.0, named_take names words n h.1)

pub named_at : (names words : List (List ℕ)) (i : ℕ) → i < length words → AreNamed names words → IsNamed names (get_or words i [])
named_at names [] i lt h = absurd (omega arith)
named_at names (word ∷ words) zero lt h = h.0
named_at names (word ∷ words) (suc i) lt h = named_at names words i (omega arith) h.1

-- an equation without rows
abbrev empty_by : ℕ → List ℕ → Equation
empty_by sig ins = record { sig = sig; cover = record { ins = ins; rows = []; phase = true } }

-- a cover of some words, by the numbers of its words
pub empty_is : (names words : List (List ℕ)) → 0 < length words → empty_cover (map (signal_number names) words) ≡ equation_of names (cover_text words [])
empty_is names words some =
    let size : length (map (signal_number names) words) ≡ length words = length-map words (signal_number names) in
    let at : get_or (map (signal_number names) words) (length words - 1) 0 ≡ signal_number names (get_or words (length words - 1) []) = get_or-map (signal_number names) words (length words - 1) [] 0 (omega arith) in
    let front : take (length words - 1) (map (signal_number names) words) ≡ map (signal_number names) (take (length words - 1) words) = take-map (signal_number names) (length words - 1) words in
    ap (λ n. empty_by (get_or (map (signal_number names) words) (n - 1) 0) (take (n - 1) (map (signal_number names) words))) size
    ∙ (ap (λ sig. empty_by sig (take (length words - 1) (map (signal_number names) words))) at
    ∙ ap (λ ins. empty_by (signal_number names (get_or words (length words - 1) [])) ins) front)
