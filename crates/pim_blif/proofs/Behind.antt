-- What is known behind each kind of statement.
use Rattle.std.proofs.Common.{◌≡◌, ℕ, ◌-◌, eqb, Bool, true, false, not, cond, ◌||◌, ◌&&◌, List, [], ◌∷◌, ◌++◌, length, map, Option, Some, None, option_map, Result, Ok, Err, arith, refl, sym, ap, ◌∙◌, subst}
use Rattle.std.specs.Bool.{beq}
use Rattle.std.specs.List.{list_all}
use Rattle.std.specs.Option.{option_to_list, ok_or}
use Rattle.std.specs.Str.{bytes_eq}
use Rattle.std.proofs.lemmas.Bool.{eqb-true, ne_eqb}
use Rattle.std.proofs.lemmas.List.{append-nil, map-append}
use Rattle.pim_io.specs.Names.{label}
use Rattle.pim_net.specs.Netlist.{DraftView}
use Rattle.pim_net.specs.declared.cover.Bit3.{Bit3}
use Rattle.pim_net.specs.declared.parts.Equation.{Equation}
use Rattle.pim_blif.specs.declared.fault.BlifFault.{BlifFault}
use Rattle.pim_blif.specs.declared.fault.BlifFault.TheVariants as faults
use Rattle.pim_blif.specs.Signals.{signal_number, with_name, with_names}
use Rattle.pim_blif.specs.Rows.{RowView, cells_of, pattern_of, output_of, value_of, is_mixed, is_cell, row_words, row_at}
use Rattle.pim_blif.specs.Covers.{CoverText, cover_text, with_row_text, is_one, phase_of, cover_of, equation_of, open_behind}
use Rattle.pim_blif.specs.Netlists.{draft_with, output_ref, as_inputs, as_outputs, as_signals}
use Rattle.pim_blif.specs.inner.Judging.{Known, with_input, with_output, each, numbered, empty_cover, with_cover, first_value, with_row, with_row_at, row_of, without_cover, allowed, known_behind, ended_behind}
use Rattle.pim_blif.specs.Directives.{Directive, Model, Inputs, Outputs, Names, End, PassedOver, Unsupported, arguments, first_word, is_end}
use Rattle.pim_blif.specs.Statements.{Statement}
use Rattle.pim_blif.specs.StatementFaults.{unsupported}
use Rattle.pim_io.specs.Readings.{◌>>=◌}
use Rattle.pim_blif.proofs.Growing.{all_named, named_append, grows_names}
use Rattle.pim_blif.proofs.Knowing.{drafted, made, IsWhole, whole_ended, whole_grown, whole_same, same_draft, made_ended, made_same, inputs_taken, outputs_taken, numbered_is, named_take, named_at, empty_is}

-- the value of an output character
value_is : (word : List ℕ) (value : Bool) → value_of word ≡ Some value → value ≡ bytes_eq word (49 ∷ [])
value_is [] value e = absurd cc
value_is (b ∷ c ∷ word) value e = absurd cc
value_is (b ∷ []) value e = by (eqb b 48) (eqb b 49) refl refl e
  where
    by : (off on : Bool) → eqb b 48 ≡ off → eqb b 49 ≡ on → cond off (Some false) (cond on (Some true) None) ≡ Some value → value ≡ bytes_eq (b ∷ []) (49 ∷ [])
    by true on z o e =
        let is : b ≡ 48 = eqb-true b 48 z in
        let v : value ≡ false = cc in
        v ∙ sym (ap (λ n. bytes_eq (n ∷ []) (49 ∷ [])) is)
    by false true z o e =
        let v : value ≡ true = cc in
        v ∙ sym (ap (λ t. t && true) o)
    by false false z o e = absurd cc

-- a row that has no fault
row_is : (line width : ℕ) (first : Option Bool) (words : List (List ℕ)) (row : RowView) → row_at line width first words ≡ Ok row → (row ≡ record { cells = cells_of (pattern_of words); value = is_one words }) × (is_mixed first (is_one words) ≡ false)
unfolding row_at
row_is line width first words row e = by (eqb (length words) (row_words width)) (value_of (output_of words)) (eqb (length (pattern_of words)) width) (list_all is_cell (pattern_of words)) refl e
  where
    made_row : Bool → RowView
    made_row value = record { cells = cells_of (pattern_of words); value = value }

    last : (value mixed : Bool) → is_mixed first value ≡ mixed → cond mixed (Err (faults.MixedPhase line)) (Ok (made_row value)) ≡ Ok row → (row ≡ made_row value) × (is_mixed first value ≡ false)
    last value true i e = absurd cc
    last value false i e = (let same : row ≡ made_row value = cc in same, i)

    by : (n : Bool) (v : Option Bool) (w a : Bool) → value_of (output_of words) ≡ v → cond n (ok_or v (faults.Syntax line) >>= λ value. cond w (cond a (cond (is_mixed first value) (Err (faults.MixedPhase line)) (Ok (made_row value))) (Err (faults.Syntax line))) (Err (faults.RowWidth line))) (Err (faults.Syntax line)) ≡ Ok row → (row ≡ made_row (is_one words)) × (is_mixed first (is_one words) ≡ false)
    by false v w a i e = absurd cc
    by true None w a i e = absurd cc
    by true (Some value) false a i e = absurd cc
    by true (Some value) true false i e = absurd cc
    by true (Some value) true true i e =
        let Q : Bool → Type 0 = λ v. (row ≡ made_row v) × (is_mixed first v ≡ false) in
        subst Q (value_is (output_of words) value i) (last value (is_mixed first value) refl e)

same_bits : (a b : Bool) → not (beq a b) ≡ false → b ≡ a
same_bits true true e = refl
same_bits true false e = absurd cc
same_bits false true e = absurd cc
same_bits false false e = refl

-- the value of a cover with one more row
phase_is : (rows : List (List (List ℕ))) (words : List (List ℕ)) (ins : List ℕ) → is_mixed (first_value (record { ins = ins; rows = map (λ words. cells_of (pattern_of words)) rows; phase = phase_of rows })) (is_one words) ≡ false → is_one words ≡ phase_of (rows ++ words ∷ [])
phase_is [] words ins e = refl
phase_is (row ∷ rows) words ins e =
    let some : eqb (length (map (λ words. cells_of (pattern_of words)) (row ∷ rows))) 0 ≡ false = ne_eqb (length (map (λ words. cells_of (pattern_of words)) (row ∷ rows))) 0 (λ n. absurd (omega arith)) in
    same_bits (is_one row) (is_one words) (sym (ap (λ t. is_mixed (cond t None (Some (is_one row))) (is_one words)) some) ∙ e)

-- a cover with one more row
row_taken : (line : ℕ) (names : List (List ℕ)) (c : CoverText) (words : List (List ℕ)) (e : Equation) → with_row_at line (equation_of names c) words ≡ Ok e → e ≡ equation_of names (with_row_text words c)
unfolding with_row_at
row_taken line names c words e h = by (row_at line (length (map (signal_number names) c.columns)) (first_value (cover_of names c)) words) refl h
  where
    filled : List (List Bit3) → Equation
    filled rows = record { sig = signal_number names c.driven; cover = record { ins = map (signal_number names) c.columns; rows = rows; phase = phase_of (c.rows ++ words ∷ []) } }

    by : (r : Result RowView BlifFault) → row_at line (length (map (signal_number names) c.columns)) (first_value (cover_of names c)) words ≡ r → (r >>= λ row. Ok (with_row (equation_of names c) row)) ≡ Ok e → e ≡ equation_of names (with_row_text words c)
    by (Err fault) i h = absurd cc
    by (Ok row) i h =
        let is = row_is line (length (map (signal_number names) c.columns)) (first_value (cover_of names c)) words row i in
        let same : e ≡ with_row (equation_of names c) row = cc in
        same ∙ (ap (with_row (equation_of names c)) is.0
        ∙ (ap (λ v. with_row (equation_of names c) (record { cells = cells_of (pattern_of words); value = v })) (phase_is c.rows words (map (signal_number names) c.columns) is.1)
        ∙ ap (λ rows. filled rows) (sym (map-append (λ words. cells_of (pattern_of words)) c.rows (words ∷ [])))))

-- what is known behind a statement, in terms of what came before it
abbrev pub behind : Option Directive → Statement → List (List ℕ) → List (List ℕ) → List (List ℕ) → List CoverText → Option CoverText → Bool → Known
behind d s names inputs outputs covers cover ended =
    made (with_names names (as_signals d (arguments s))) (inputs ++ as_inputs d (arguments s)) (outputs ++ as_outputs d (arguments s)) (ended_behind d cover covers) (open_behind d s cover) true (is_end d || ended)

-- all is whole still behind a statement
abbrev pub IsWholeBehind : Option Directive → Statement → List (List ℕ) → List (List ℕ) → List (List ℕ) → List CoverText → Option CoverText → Type 0
IsWholeBehind d s names inputs outputs covers cover =
    IsWhole (with_names names (as_signals d (arguments s))) (inputs ++ as_inputs d (arguments s)) (outputs ++ as_outputs d (arguments s)) (ended_behind d cover covers) (open_behind d s cover)

-- where a cover is open, there was a statement
abbrev pub IsOpenBegun : Option CoverText → Bool → Type 0
IsOpenBegun None started = Unit {0}
IsOpenBegun (Some c) started = started ≡ true

-- what may stand, stands
may_stand : (t : Bool) (fault : BlifFault) (k next : Known) (on : Known → Result Known BlifFault) → (cond t (Err fault) (Ok k) >>= on) ≡ Ok next → on k ≡ Ok next
may_stand true fault k next on e = absurd cc
may_stand false fault k next on e = e

abbrev known : Known → Result Known BlifFault
known k = Ok k

is_known_so : (k next : Known) → known k ≡ known next → next ≡ k
is_known_so k next e = cc

-- what is known of a draft where no cover is open
abbrev known_by : List (List ℕ) → DraftView → Bool → Known
known_by names draft ended = record { names = names; draft = draft; cover = None; started = true; ended = ended }

module _ (next : Known) (names inputs outputs : List (List ℕ)) (covers : List CoverText) (ended : Bool) (whole : IsWhole names inputs outputs covers None) where
  -- inputs, where no cover is open
  behind_inputs : (line : ℕ) (args : List (List ℕ)) → each (with_input line) (made names inputs outputs covers None true ended) args ≡ Ok next → (next ≡ made (with_names names args) (inputs ++ args) (outputs ++ []) covers None true ended) × IsWhole (with_names names args) (inputs ++ args) (outputs ++ []) covers None
  behind_inputs line args e =
      let more = with_names names args in
      let grows = grows_names names args in
      let still = whole_grown names more inputs outputs covers grows whole in (
        inputs_taken line (made names inputs outputs covers None true ended) next args e
            ∙ (ap (λ (d : DraftView). known_by more (record d { inputs = d.inputs ++ map (signal_number more) args; input_labels = d.input_labels ++ map label args }) ended) (sym (same_draft names more inputs outputs covers grows whole))
            ∙ (ap (λ is. known_by more (drafted is (map label inputs ++ map label args) (map (equation_of more) covers) (map (output_ref more) outputs) (map label outputs)) ended) (sym (map-append (signal_number more) inputs args))
            ∙ (ap (λ ls. known_by more (drafted (map (signal_number more) (inputs ++ args)) ls (map (equation_of more) covers) (map (output_ref more) outputs) (map label outputs)) ended) (sym (map-append label inputs args))
            ∙ ap (λ os. made more (inputs ++ args) os covers None true ended) (sym (append-nil outputs))))),
        record {
          inputs_in = named_append more inputs args still.inputs_in (all_named names args);
          outputs_in = named_append more outputs [] still.outputs_in tt;
          covers_in = still.covers_in;
          cover_in = tt;
        },
      )

  -- outputs, where no cover is open
  behind_outputs : (args : List (List ℕ)) → each with_output (made names inputs outputs covers None true ended) args ≡ Ok next → (next ≡ made (with_names names args) (inputs ++ []) (outputs ++ args) covers None true ended) × IsWhole (with_names names args) (inputs ++ []) (outputs ++ args) covers None
  behind_outputs args e =
      let more = with_names names args in
      let grows = grows_names names args in
      let still = whole_grown names more inputs outputs covers grows whole in (
        outputs_taken (made names inputs outputs covers None true ended) next args e
            ∙ (ap (λ (d : DraftView). known_by more (record d { outputs = d.outputs ++ map (output_ref more) args; output_labels = d.output_labels ++ map label args }) ended) (sym (same_draft names more inputs outputs covers grows whole))
            ∙ (ap (λ os. known_by more (drafted (map (signal_number more) inputs) (map label inputs) (map (equation_of more) covers) os (map label outputs ++ map label args)) ended) (sym (map-append (output_ref more) outputs args))
            ∙ (ap (λ ls. known_by more (drafted (map (signal_number more) inputs) (map label inputs) (map (equation_of more) covers) (map (output_ref more) (outputs ++ args)) ls) ended) (sym (map-append label outputs args))
            ∙ ap (λ is. made more is (outputs ++ args) covers None true ended) (sym (append-nil inputs))))),
        record {
          inputs_in = named_append more inputs [] still.inputs_in tt;
          outputs_in = named_append more outputs args still.outputs_in (all_named names args);
          covers_in = still.covers_in;
          cover_in = tt;
        },
      )

  -- a cover that is begun, where none is open
  behind_names : (line : ℕ) (args : List (List ℕ)) → with_cover line (made names inputs outputs covers None true ended) args ≡ Ok next → (next ≡ made (with_names names args) (inputs ++ []) (outputs ++ []) covers (Some (cover_text args [])) true ended) × IsWhole (with_names names args) (inputs ++ []) (outputs ++ []) covers (Some (cover_text args []))
  behind_names line [] e = absurd cc
  behind_names line (arg ∷ args) e = by (numbered names (arg ∷ args)) refl e
    where
      more : List (List ℕ)
      more = with_names (with_name names arg) args

      begun_by : List (List ℕ) → DraftView → Equation → Known
      begun_by names draft cover = record { names = names; draft = draft; cover = Some cover; started = true; ended = ended }

      still : IsWhole more inputs outputs covers None
      still = whole_grown names more inputs outputs covers (grows_names names (arg ∷ args)) whole

      by : (r : Result (List ℕ × List (List ℕ)) BlifFault) → numbered names (arg ∷ args) ≡ r → (r >>= λ numbers. Ok (begun_by numbers.1 (draft_with names inputs outputs covers) (empty_cover numbers.0))) ≡ Ok next → (next ≡ made more (inputs ++ []) (outputs ++ []) covers (Some (cover_text (arg ∷ args) [])) true ended) × IsWhole more (inputs ++ []) (outputs ++ []) covers (Some (cover_text (arg ∷ args) []))
      by (Err fault) i e = absurd cc
      by (Ok numbers) i e =
          let same : next ≡ begun_by numbers.1 (draft_with names inputs outputs covers) (empty_cover numbers.0) = cc in
          let all = all_named names (arg ∷ args) in (
            same
                ∙ (ap (λ (n : List ℕ × List (List ℕ)). begun_by n.1 (draft_with names inputs outputs covers) (empty_cover n.0)) (numbered_is names (arg ∷ args) numbers i)
                ∙ (ap (λ d. begun_by more d (empty_cover (map (signal_number more) (arg ∷ args)))) (sym (same_draft names more inputs outputs covers (grows_names names (arg ∷ args)) whole))
                ∙ (ap (λ c. begun_by more (draft_with more inputs outputs covers) c) (empty_is more (arg ∷ args) (omega arith))
                ∙ made_same more inputs outputs covers (Some (cover_text (arg ∷ args) [])) true ended))),
            record {
              inputs_in = named_append more inputs [] still.inputs_in tt;
              outputs_in = named_append more outputs [] still.outputs_in tt;
              covers_in = still.covers_in;
              cover_in = (named_take more (arg ∷ args) (length (arg ∷ args) - 1) all, named_at more (arg ∷ args) (length (arg ∷ args) - 1) (omega arith) all);
            },
          )

-- a row
behind_row : (line : ℕ) (words : List (List ℕ)) (next : Known) (names inputs outputs : List (List ℕ)) (covers : List CoverText) (cover : Option CoverText) (started ended : Bool) → IsWhole names inputs outputs covers cover → IsOpenBegun cover started → row_of line (made names inputs outputs covers cover started ended) (option_map (equation_of names) cover) words ≡ Ok next → (next ≡ made names (inputs ++ []) (outputs ++ []) covers (option_map (with_row_text words) cover) true ended) × IsWhole names (inputs ++ []) (outputs ++ []) covers (option_map (with_row_text words) cover)
behind_row line words next names inputs outputs covers None started ended whole is_begun e = absurd cc
behind_row line words next names inputs outputs covers (Some c) started ended whole is_begun e = by (with_row_at line (equation_of names c) words) refl e
  where
    filled_by : Bool → Equation → Known
    filled_by started cover = record { names = names; draft = draft_with names inputs outputs covers; cover = Some cover; started = started; ended = ended }

    by : (r : Result Equation BlifFault) → with_row_at line (equation_of names c) words ≡ r → (r >>= λ e. Ok (filled_by started e)) ≡ Ok next → (next ≡ made names (inputs ++ []) (outputs ++ []) covers (Some (with_row_text words c)) true ended) × IsWhole names (inputs ++ []) (outputs ++ []) covers (Some (with_row_text words c))
    by (Err fault) i e = absurd cc
    by (Ok row) i e =
        let same : next ≡ filled_by started row = cc in (
          same
              ∙ (ap (filled_by started) (row_taken line names c words row i)
              ∙ (ap (λ t. filled_by t (equation_of names (with_row_text words c))) is_begun
              ∙ made_same names inputs outputs covers (Some (with_row_text words c)) true ended)),
          record {
            inputs_in = named_append names inputs [] whole.inputs_in tt;
            outputs_in = named_append names outputs [] whole.outputs_in tt;
            covers_in = whole.covers_in;
            cover_in = whole.cover_in;
          },
        )

-- a statement that has no fault
module _ (s : Statement) (next : Known) (names inputs outputs : List (List ℕ)) (covers : List CoverText) (cover : Option CoverText) (started ended : Bool) (whole : IsWhole names inputs outputs covers cover) (is_begun : IsOpenBegun cover started) where
  abbrev before : Known
  before = made names inputs outputs covers cover started ended

  abbrev ended_now : List CoverText
  ended_now = covers ++ option_to_list cover

  -- what is known of a directive alone
  alone : without_cover before ≡ made names (inputs ++ []) (outputs ++ []) ended_now None true ended
  alone = made_ended names inputs outputs covers cover started ended ∙ made_same names inputs outputs ended_now None true ended

  whole_now : IsWhole names inputs outputs ended_now None
  whole_now = whole_ended names inputs outputs covers cover whole

  whole_alone : IsWhole names (inputs ++ []) (outputs ++ []) ended_now None
  whole_alone = whole_same names inputs outputs ended_now None whole_now

  now : (on : Known → Result Known BlifFault) → on (without_cover before) ≡ Ok next → on (made names inputs outputs ended_now None true ended) ≡ Ok next
  now on e = sym (ap on (made_ended names inputs outputs covers cover started ended)) ∙ e

  pub taken : (d : Option Directive) → (allowed s.line before s.words d >>= λ k. known_behind s.line k s.words d) ≡ Ok next → (next ≡ behind d s names inputs outputs covers cover ended) × IsWholeBehind d s names inputs outputs covers cover
  taken None e =
      behind_row s.line s.words next names inputs outputs covers cover started ended whole is_begun
      (may_stand ended (faults.Syntax s.line) before next (λ k. row_of s.line k k.cover s.words) e)
  taken (Some Model) e =
      (is_known_so (without_cover before) next (may_stand started (unsupported s.line (first_word s.words)) before next (λ k. known (without_cover k)) e) ∙ alone, whole_alone)
  taken (Some Inputs) e =
      behind_inputs next names inputs outputs ended_now ended whole_now s.line (arguments s)
      (now (λ k. each (with_input s.line) k (arguments s)) (may_stand ended (faults.Syntax s.line) before next (λ k. each (with_input s.line) (without_cover k) (arguments s)) e))
  taken (Some Outputs) e =
      behind_outputs next names inputs outputs ended_now ended whole_now (arguments s)
      (now (λ k. each with_output k (arguments s)) (may_stand ended (faults.Syntax s.line) before next (λ k. each with_output (without_cover k) (arguments s)) e))
  taken (Some Names) e =
      behind_names next names inputs outputs ended_now ended whole_now s.line (arguments s)
      (now (λ k. with_cover s.line k (arguments s)) (may_stand ended (faults.Syntax s.line) before next (λ k. with_cover s.line (without_cover k) (arguments s)) e))
  taken (Some End) e =
      (is_known_so (record (without_cover before) { ended = true }) next (may_stand ended (faults.Syntax s.line) before next (λ k. known (record (without_cover k) { ended = true })) e) ∙ ap (λ (k : Known). record k { ended = true }) alone, whole_alone)
  taken (Some PassedOver) e =
      (is_known_so (without_cover before) next (may_stand ended (faults.Syntax s.line) before next (λ k. known (without_cover k)) e) ∙ alone, whole_alone)
  taken (Some Unsupported) e =
      let wrong : Err (unsupported s.line (first_word s.words)) ≡ known next = may_stand ended (faults.Syntax s.line) before next (λ k. Err (unsupported s.line (first_word s.words))) e in
      absurd cc
