-- Reading goes on exactly behind lines that are right.
use Rattle.std.proofs.Common.{◌≡◌, ℕ, ◌+◌, ◌-◌, Bool, true, false, cond, not, ltb, eqb, ◌&&◌, ◌||◌, ◌⊎◌, inl, inr, List, [], ◌∷◌, ◌++◌, Option, Some, None, Result, Ok, Err, codes, refl, ap, sym, ◌∙◌, subst, arith}
use Rattle.std.specs.Fmt.{decimal}
use Rattle.std.specs.Option.{option_map, option_or, ok_or, is_some}
use Rattle.std.proofs.lemmas.Bool.{lt-ltb, le-ltb, eq-eqb, ne_eqb, eqb-true, eqb-false}
use Rattle.std.proofs.lemmas.Option.{cond_some}
use Rattle.std.proofs.lemmas.Slice.Eq.{bytes_eq-Decides}
use Rattle.pim_io.specs.Lines.{LineView, lines}
use Rattle.pim_isa.specs.declared.target.Target.{Target}
use Rattle.pim_isa.specs.declared.target.Target.TheVariants.{Magic, Plim}
use Rattle.pim_isa.specs.declared.port.Port.{Port}
use Rattle.pim_isa.specs.declared.instr.Ins.{Ins}
use Rattle.pim_isa.specs.declared.instr.Ins.TheVariants.{Two, Three, Four, One as Single}
use Rattle.pim_isa.specs.declared.instr.Instr.{Instr}
use Rattle.pim_isa.specs.declared.instr.Instr.TheVariants.{Init, Nor, Rm3}
use Rattle.pim_isa.specs.declared.invalid.Invalid.{Invalid}
use Rattle.pim_isa.specs.declared.draft.TheConstants.{MAX_CELLS}
use Rattle.pim_isa.specs.Validity.{fault_of}
use Rattle.pim_isa.specs.Programs.{ProgramView}
use Rattle.pim_file.specs.declared.fault.FileFault.{FileFault}
use Rattle.pim_file.specs.declared.fault.FileFault.TheVariants as faults
use Rattle.pim_text.specs.declared.fault.TextFault.{TextFault}
use Rattle.pim_text.specs.declared.fault.TextFault.TheVariants as texts
use Rattle.pim_text.specs.declared.section.Section.{Section}
use Rattle.pim_text.specs.declared.section.Section.TheVariants as section
use Rattle.pim_text.specs.Parts.{Parts}
use Rattle.pim_text.specs.ProgramTexts.{program_kind}
use Rattle.pim_text.specs.LineForms.{target_of, counted_of, port_of}
use Rattle.pim_text.specs.InstrForms.{instr_of}
use Rattle.pim_io.specs.Readings.{◌>>=◌}
use Rattle.pim_text.specs.Text.{target_word, nor_text, instr_text, port_line}
use Rattle.pim_text.specs.LineLaws.{OneLine}
use Rattle.pim_text.specs.Reading.{Reading, start, begun, with_input, with_output, with_instr, after_input, after_output, after_cycles, after_outputs, after_inputs, after_end, after_instrs, after_in, after, is_ended, read_from, any_size, parts_of}
use Rattle.pim_file.specs.ProgramFile.{file_draft, draft_of, with_fault, validated, sized, parse1_of}
use Rattle.pim_file.specs.Right.{is_form, is_cells, is_input, is_output, is_cycles, is_instr, is_end, cycles_and_more, cycles_before, right_in_body, right, is_complete, first_wrong, is_cut_off, wrong_line, is_truncated}
use Rattle.pim_file.proofs.OptionLemmas.{or_is, mapped}

-- the wrong line that the reading of a text ends with
abbrev text_wrong : Result (Parts Instr) TextFault → Option ℕ
text_wrong (Ok parts) = None
text_wrong (Err (texts.Line n)) = Some n
text_wrong (Err texts.TooLarge) = None
text_wrong (Err texts.Truncated) = None
text_wrong (Err texts.NoMemory) = None

-- the reading of a text ends too early
abbrev text_cut : Result (Parts Instr) TextFault → Bool
text_cut (Ok parts) = false
text_cut (Err (texts.Line n)) = false
text_cut (Err texts.TooLarge) = false
text_cut (Err texts.Truncated) = true
text_cut (Err texts.NoMemory) = false

nothing_follows : (s : Section) (draft : Option (Parts Instr)) (line : List ℕ) → is_ended s ≡ true → after_in program_kind any_size s draft line ≡ None
nothing_follows section.First draft line e = absurd cc
nothing_follows section.Target draft line e = absurd cc
nothing_follows (section.Cells target) draft line e = absurd cc
nothing_follows section.Inputs draft line e = absurd cc
nothing_follows section.Outputs draft line e = absurd cc
nothing_follows (section.Instrs left) draft line e = absurd cc
nothing_follows section.Ended draft line e = refl

-- the last of the lines
abbrev HasLast : List (List ℕ) → (List ℕ → Type 0) → Type 0
HasLast [] P = ⊥
HasLast (last ∷ others) P = P last

-- a line that is read as something
abbrev Reads : {A : Type 0} → Option A → Type 0
Reads {A} o = (x : A) × (o ≡ Some x)

-- what the lines so far are, where a reading stands behind them
abbrev Behind : Section → List (List ℕ) → Type 0
Behind section.First before = before ≡ []
Behind section.Target before = HasLast before (λ l. l ≡ codes "pim 1")
Behind (section.Cells target) before = HasLast before (λ l. l ≡ codes "target " ++ target_word target)
Behind section.Inputs before = HasLast before (λ l. Reads (counted_of (codes "cells ") l) ⊎ Reads (port_of (codes "input ") l))
Behind section.Outputs before = HasLast before (λ l. Reads (port_of (codes "output ") l))
Behind (section.Instrs left) before = (k : ℕ) × (m : ℕ) × (cycles_before before ≡ Some (k, m)) × (m + left ≡ k) × HasLast before (λ l. Reads (counted_of (codes "cycles ") l) ⊎ Reads (instr_of l))
Behind section.Ended before = (k : ℕ) × (cycles_before before ≡ Some (k, k + 1)) × HasLast before (λ l. l ≡ codes "end")

some-map : {A B : Type 0} (f : A → B) (o : Option A) → is_some (option_map f o) ≡ is_some o
some-map f None = refl
some-map f (Some x) = refl

some-or : {A : Type 0} (a b : Option A) → is_some (option_or a b) ≡ (is_some a || is_some b)
some-or None b = refl
some-or (Some x) b = refl

some-cond : {A : Type 0} (b : Bool) (x : A) → is_some (cond b (Some x) None) ≡ b
some-cond true x = refl
some-cond false x = refl

reads_some : {A : Type 0} (o : Option A) → Reads o → is_some o ≡ true
reads_some o h = ap is_some h.1

-- what is right behind a line of each kind

behind_target : (target : Target) (others : List (List ℕ)) (line : List ℕ) → right ((codes "target " ++ target_word target) ∷ others) line ≡ is_cells line
behind_target Magic others line = refl
behind_target Plim others line = refl

module _ (laws : OneLine) where
  behind_cells : (last line : List ℕ) (others : List (List ℕ)) → Reads (counted_of (codes "cells ") last) → right (last ∷ others) line ≡ (is_input line || (is_output line || is_cycles line))
  behind_cells last line others h =
      let spelled = laws.counted (codes "cells ") last h.0 h.1 in
      let known : is_some (counted_of (codes "cells ") (codes "cells " ++ decimal h.0)) ≡ true = ap (λ (l : List ℕ). is_some (counted_of (codes "cells ") l)) (sym spelled.0) ∙ reads_some (counted_of (codes "cells ") last) h in
      ap (λ (l : List ℕ). right (l ∷ others) line) spelled.0 ∙ rw known refl

  behind_input : (last line : List ℕ) (others : List (List ℕ)) → Reads (port_of (codes "input ") last) → right (last ∷ others) line ≡ (is_input line || (is_output line || is_cycles line))
  behind_input last line others h =
      let spelled = laws.port (codes "input ") last h.0 h.1 in
      let known : is_some (port_of (codes "input ") (port_line (codes "input ") h.0)) ≡ true = ap (λ (l : List ℕ). is_some (port_of (codes "input ") l)) (sym spelled.0) ∙ reads_some (port_of (codes "input ") last) h in
      ap (λ (l : List ℕ). right (l ∷ others) line) spelled.0 ∙ rw known refl

  behind_output : (last line : List ℕ) (others : List (List ℕ)) → Reads (port_of (codes "output ") last) → right (last ∷ others) line ≡ (is_output line || is_cycles line)
  behind_output last line others h =
      let spelled = laws.port (codes "output ") last h.0 h.1 in
      let known : is_some (port_of (codes "output ") (port_line (codes "output ") h.0)) ≡ true = ap (λ (l : List ℕ). is_some (port_of (codes "output ") l)) (sym spelled.0) ∙ reads_some (port_of (codes "output ") last) h in
      ap (λ (l : List ℕ). right (l ∷ others) line) spelled.0 ∙ rw known refl

-- a line of the body is no line of another kind

nor_is_body : (t : ℕ) (ins : Ins) (others : List (List ℕ)) (line : List ℕ) → right (nor_text t ins ∷ others) line ≡ right_in_body (cycles_before (nor_text t ins ∷ others)) line
nor_is_body t (Single a) others line = refl
nor_is_body t (Two a b) others line = refl
nor_is_body t (Three a b c) others line = refl
nor_is_body t (Four a b c d) others line = refl

instr_is_body : (i : Instr) (others : List (List ℕ)) (line : List ℕ) → right (instr_text i ∷ others) line ≡ right_in_body (cycles_before (instr_text i ∷ others)) line
instr_is_body (Init cells) others line = refl
instr_is_body (Nor t ins) others line = nor_is_body t ins others line
instr_is_body (Rm3 p q z) others line = refl

module _ (laws : OneLine) where
  behind_body : (last line : List ℕ) (others : List (List ℕ)) → (Reads (counted_of (codes "cycles ") last) ⊎ Reads (instr_of last)) → right (last ∷ others) line ≡ right_in_body (cycles_before (last ∷ others)) line
  behind_body last line others (inl h) =
      let spelled = laws.counted (codes "cycles ") last h.0 h.1 in
      subst (λ (l : List ℕ). right (l ∷ others) line ≡ right_in_body (cycles_before (l ∷ others)) line) (sym spelled.0) refl
  behind_body last line others (inr h) =
      let spelled = laws.instr last h.0 h.1 in
      subst (λ (l : List ℕ). right (l ∷ others) line ≡ right_in_body (cycles_before (l ∷ others)) line) (sym spelled.0) (instr_is_body h.0 others line)

-- an instruction doesn't say the number of cycles, and isn't the end

nor_no_cycles : (t : ℕ) (ins : Ins) → counted_of (codes "cycles ") (nor_text t ins) ≡ None
nor_no_cycles t (Single a) = refl
nor_no_cycles t (Two a b) = refl
nor_no_cycles t (Three a b c) = refl
nor_no_cycles t (Four a b c d) = refl

instr_no_cycles : (i : Instr) → counted_of (codes "cycles ") (instr_text i) ≡ None
instr_no_cycles (Init cells) = refl
instr_no_cycles (Nor t ins) = nor_no_cycles t ins
instr_no_cycles (Rm3 p q z) = refl

nor_no_end : (t : ℕ) (ins : Ins) → is_end (nor_text t ins) ≡ false
nor_no_end t (Single a) = refl
nor_no_end t (Two a b) = refl
nor_no_end t (Three a b c) = refl
nor_no_end t (Four a b c d) = refl

instr_no_end : (i : Instr) → is_end (instr_text i) ≡ false
instr_no_end (Init cells) = refl
instr_no_end (Nor t ins) = nor_no_end t ins
instr_no_end (Rm3 p q z) = refl

-- what the definition of right lines says, by how far the file is read

right_outputs : (o : Option (Parts Instr)) (line : List ℕ) → is_some (after_outputs o line) ≡ (is_output line || is_cycles line)
right_outputs o line =
    let output : is_some (after_output o line) ≡ is_output line = some-map (λ (p : Port). let r : Reading Instr = record { section = section.Outputs; draft = option_map (with_output p) o } in r) (port_of (codes "output ") line) in
    let cycles : is_some (after_cycles o line) ≡ is_cycles line = some-map (λ (n : ℕ). let r : Reading Instr = record { section = section.Instrs n; draft = o } in r) (counted_of (codes "cycles ") line) in
    some-or (after_output o line) (after_cycles o line) ∙ rw (output, cycles) refl

right_inputs : (o : Option (Parts Instr)) (line : List ℕ) → is_some (after_inputs o line) ≡ (is_input line || (is_output line || is_cycles line))
right_inputs o line =
    let input : is_some (after_input o line) ≡ is_input line = some-map (λ (p : Port). let r : Reading Instr = record { section = section.Inputs; draft = option_map (with_input p) o } in r) (port_of (codes "input ") line) in
    some-or (after_input o line) (after_outputs o line) ∙ rw (input, right_outputs o line) refl

right_body : (left k m : ℕ) (o : Option (Parts Instr)) (line : List ℕ) → m + left ≡ k → is_some (after_instrs program_kind left o line) ≡ right_in_body (Some (k, m)) line
right_body left k m o line e = by_left (eqb left 0) refl
  where
    by_left : (t : Bool) → eqb left 0 ≡ t → is_some (cond t (after_end o line) (option_map (λ i. record { section = section.Instrs (left - 1); draft = option_map (with_instr i) o }) (instr_of line))) ≡ cond (ltb m k) (is_instr line) (eqb m k && is_end line)
    by_left true z =
        let none : left ≡ 0 = eqb-true left 0 z in
        let over : ltb m k ≡ false = le-ltb m k (omega arith) in
        let all : eqb m k ≡ true = eq-eqb m k (omega arith) in
        some-cond (is_end line) (record { section = section.Ended; draft = o }) ∙ rw (over, all) refl
    by_left false z =
        let some : left ≡ 0 → ⊥ = eqb-false left 0 z in
        let more : ltb m k ≡ true = lt-ltb m k (omega arith) in
        some-map (λ (i : Instr). let r : Reading Instr = record { section = section.Instrs (left - 1); draft = option_map (with_instr i) o } in r) (instr_of line) ∙ rw more refl

over_body : (k : ℕ) (line : List ℕ) → right_in_body (Some (k, k + 1)) line ≡ false
over_body k line =
    let over : ltb (k + 1) k ≡ false = le-ltb (k + 1) k (omega arith) in
    let other : eqb (k + 1) k ≡ false = ne_eqb (k + 1) k (λ e. omega (arith, e)) in
    rw (over, other) refl

-- behind `end` as well
end_is_body : (others : List (List ℕ)) (line : List ℕ) → right (codes "end" ∷ others) line ≡ right_in_body (cycles_before (codes "end" ∷ others)) line
end_is_body others line = refl

module _ (laws : OneLine) where
  right_is : (s : Section) (before : List (List ℕ)) (o : Option (Parts Instr)) (line : List ℕ) → Behind s before → is_some (after_in program_kind any_size s o line) ≡ right before line
  right_is section.First before o line h = some-cond (is_form line) (record { section = section.Target; draft = o }) ∙ ap (λ (b : List (List ℕ)). right b line) (sym h)
  right_is section.Target [] o line h = absurd h
  right_is section.Target (last ∷ others) o line h =
      some-map (λ (t : Target). let r : Reading Instr = record { section = section.Cells t; draft = o } in r) (target_of line) ∙ ap (λ (l : List ℕ). right (l ∷ others) line) (sym h)
  right_is (section.Cells target) [] o line h = absurd h
  right_is (section.Cells target) (last ∷ others) o line h =
      some-map (λ (n : ℕ). let r : Reading Instr = record { section = section.Inputs; draft = any_size (begun target n) } in r) (counted_of (codes "cells ") line) ∙ sym (behind_target target others line) ∙ ap (λ (l : List ℕ). right (l ∷ others) line) (sym h)
  right_is section.Inputs [] o line h = absurd h
  right_is section.Inputs (last ∷ others) o line (inl cells) = right_inputs o line ∙ sym (behind_cells laws last line others cells)
  right_is section.Inputs (last ∷ others) o line (inr input) = right_inputs o line ∙ sym (behind_input laws last line others input)
  right_is section.Outputs [] o line h = absurd h
  right_is section.Outputs (last ∷ others) o line h = right_outputs o line ∙ sym (behind_output laws last line others h)
  right_is (section.Instrs left) [] o line h = absurd h.4
  right_is (section.Instrs left) (last ∷ others) o line h =
      right_body left h.0 h.1 o line h.3 ∙ ap (λ (c : Option (ℕ × ℕ)). right_in_body c line) (sym h.2) ∙ sym (behind_body laws last line others h.4)
  right_is section.Ended [] o line h = absurd h.2
  right_is section.Ended (last ∷ others) o line h =
      sym (over_body h.0 line) ∙ ap (λ (c : Option (ℕ × ℕ)). right_in_body c line) (sym h.1) ∙ subst (λ (l : List ℕ). right_in_body (cycles_before (l ∷ others)) line ≡ right (l ∷ others) line) (sym h.2) (sym (end_is_body others line))

-- where a reading stands behind one more line

abbrev Follows : Reading Instr → List ℕ → List (List ℕ) → Type 0
Follows next line before = Behind next.section (line ∷ before)

output_follows : (o : Option (Parts Instr)) (before : List (List ℕ)) (line : List ℕ) (next : Reading Instr) → after_output o line ≡ Some next → Follows next line before
output_follows o before line next e =
    let m = mapped (λ (p : Port). let r : Reading Instr = record { section = section.Outputs; draft = option_map (with_output p) o } in r) (port_of (codes "output ") line) next e in
    subst (λ (n : Reading Instr). Follows n line before) m.2 (m.0, m.1)

cycles_follow : (o : Option (Parts Instr)) (before : List (List ℕ)) (line : List ℕ) (next : Reading Instr) → after_cycles o line ≡ Some next → Follows next line before
cycles_follow o before line next e =
    let m = mapped (λ (n : ℕ). let r : Reading Instr = record { section = section.Instrs n; draft = o } in r) (counted_of (codes "cycles ") line) next e in
    let counted : cycles_before (line ∷ before) ≡ Some (m.0, 0) = ap (λ (c : Option ℕ). cycles_and_more c (cycles_before before)) m.1 in
    subst (λ (n : Reading Instr). Follows n line before) m.2 (m.0, 0, counted, omega arith, inl (m.0, m.1))

outputs_follow : (o : Option (Parts Instr)) (before : List (List ℕ)) (line : List ℕ) (next : Reading Instr) → after_outputs o line ≡ Some next → Follows next line before
outputs_follow o before line next e =
    elim (or_is (after_output o line) (after_cycles o line) next e) [
      | inl output ↦ output_follows o before line next output
      | inr cycles ↦ cycles_follow o before line next cycles
    ]

input_follows : (o : Option (Parts Instr)) (before : List (List ℕ)) (line : List ℕ) (next : Reading Instr) → after_input o line ≡ Some next → Follows next line before
input_follows o before line next e =
    let m = mapped (λ (p : Port). let r : Reading Instr = record { section = section.Inputs; draft = option_map (with_input p) o } in r) (port_of (codes "input ") line) next e in
    subst (λ (n : Reading Instr). Follows n line before) m.2 (inr (m.0, m.1))

inputs_follow : (o : Option (Parts Instr)) (before : List (List ℕ)) (line : List ℕ) (next : Reading Instr) → after_inputs o line ≡ Some next → Follows next line before
inputs_follow o before line next e =
    elim (or_is (after_input o line) (after_outputs o line) next e) [
      | inl input ↦ input_follows o before line next input
      | inr outputs ↦ outputs_follow o before line next outputs
    ]

module _ (laws : OneLine) where
  body_follows : (left k m : ℕ) (o : Option (Parts Instr)) (before : List (List ℕ)) (line : List ℕ) (next : Reading Instr) → cycles_before before ≡ Some (k, m) → m + left ≡ k → after_instrs program_kind left o line ≡ Some next → Follows next line before
  body_follows left k m o before line next c sum e = by_left (eqb left 0) refl e
    where
      by_left : (t : Bool) → eqb left 0 ≡ t → cond t (after_end o line) (option_map (λ i. record { section = section.Instrs (left - 1); draft = option_map (with_instr i) o }) (instr_of line)) ≡ Some next → Follows next line before
      by_left true z e =
          let none : left ≡ 0 = eqb-true left 0 z in
          let made : Reading Instr = record { section = section.Ended; draft = o } in
          let tests = cond_some (is_end line) made next e in
          let line_is : line ≡ codes "end" = (bytes_eq-Decides line (codes "end")).0 tests.0 in
          let all : m ≡ k = omega arith in
          let counted : cycles_before (line ∷ before) ≡ Some (k, k + 1) = ap (λ (l : List ℕ). cycles_before (l ∷ before)) line_is ∙ ap (λ (x : Option (ℕ × ℕ)). option_map (λ c. (c.0, c.1 + 1)) x) c ∙ ap (λ (n : ℕ). let x : Option (ℕ × ℕ) = Some (k, n + 1) in x) all in
          subst (λ (n : Reading Instr). Follows n line before) tests.1 (k, counted, line_is)
      by_left false z e =
          let some : left ≡ 0 → ⊥ = eqb-false left 0 z in
          let mp = mapped (λ (i : Instr). let r : Reading Instr = record { section = section.Instrs (left - 1); draft = option_map (with_instr i) o } in r) (instr_of line) next e in
          let spelled = laws.instr line mp.0 mp.1 in
          let no_cycles : counted_of (codes "cycles ") line ≡ None = ap (λ (l : List ℕ). counted_of (codes "cycles ") l) spelled.0 ∙ instr_no_cycles mp.0 in
          let counted : cycles_before (line ∷ before) ≡ Some (k, m + 1) = ap (λ (x : Option ℕ). cycles_and_more x (cycles_before before)) no_cycles ∙ ap (λ (x : Option (ℕ × ℕ)). option_map (λ c. (c.0, c.1 + 1)) x) c in
          subst (λ (n : Reading Instr). Follows n line before) mp.2 (k, m + 1, counted, omega arith, inr (mp.0, mp.1))

  line_follows : (s : Section) (before : List (List ℕ)) (o : Option (Parts Instr)) (line : List ℕ) (next : Reading Instr) → Behind s before → after_in program_kind any_size s o line ≡ Some next → Follows next line before
  line_follows section.First before o line next h e =
      let made : Reading Instr = record { section = section.Target; draft = o } in
      let tests = cond_some (is_form line) made next e in
      subst (λ (n : Reading Instr). Follows n line before) tests.1 ((bytes_eq-Decides line (codes "pim 1")).0 tests.0)
  line_follows section.Target before o line next h e =
      let m = mapped (λ (t : Target). let r : Reading Instr = record { section = section.Cells t; draft = o } in r) (target_of line) next e in
      subst (λ (n : Reading Instr). Follows n line before) m.2 (laws.target line m.0 m.1)
  line_follows (section.Cells target) before o line next h e =
      let m = mapped (λ (n : ℕ). let r : Reading Instr = record { section = section.Inputs; draft = any_size (begun target n) } in r) (counted_of (codes "cells ") line) next e in
      subst (λ (n : Reading Instr). Follows n line before) m.2 (inl (m.0, m.1))
  line_follows section.Inputs before o line next h e = inputs_follow o before line next e
  line_follows section.Outputs before o line next h e = outputs_follow o before line next e
  line_follows (section.Instrs left) before o line next h e = body_follows left h.0 h.1 o before line next h.2 h.3 e
  line_follows section.Ended before o line next h e = absurd cc

-- `end` is the last line exactly where a reading has ended

last_is : (P : List ℕ → Type 0) (before : List (List ℕ)) → HasLast before P → ((last : List ℕ) → P last → is_end last ≡ false) → is_complete before ≡ false
last_is P [] h f = refl
last_is P (last ∷ others) h f = f last h

target_no_end : (target : Target) → is_end (codes "target " ++ target_word target) ≡ false
target_no_end Magic = refl
target_no_end Plim = refl

module _ (laws : OneLine) where
  ended_is : (s : Section) (before : List (List ℕ)) → Behind s before → is_ended s ≡ is_complete before
  ended_is section.First before h = ap is_complete (sym h)
  ended_is section.Target before h = sym (last_is (λ l. l ≡ codes "pim 1") before h (λ last e. ap is_end e))
  ended_is (section.Cells target) before h = sym (last_is (λ l. l ≡ codes "target " ++ target_word target) before h (λ last e. ap is_end e ∙ target_no_end target))
  ended_is section.Inputs before h = sym (last_is (λ l. Reads (counted_of (codes "cells ") l) ⊎ Reads (port_of (codes "input ") l)) before h ports)
    where
      ports : (last : List ℕ) → (Reads (counted_of (codes "cells ") last) ⊎ Reads (port_of (codes "input ") last)) → is_end last ≡ false
      ports last (inl cells) = ap is_end (laws.counted (codes "cells ") last cells.0 cells.1).0
      ports last (inr input) = ap is_end (laws.port (codes "input ") last input.0 input.1).0
  ended_is section.Outputs before h = sym (last_is (λ l. Reads (port_of (codes "output ") l)) before h (λ last output. ap is_end (laws.port (codes "output ") last output.0 output.1).0))
  ended_is (section.Instrs left) before h = sym (last_is (λ l. Reads (counted_of (codes "cycles ") l) ⊎ Reads (instr_of l)) before h.4 body)
    where
      body : (last : List ℕ) → (Reads (counted_of (codes "cycles ") last) ⊎ Reads (instr_of last)) → is_end last ≡ false
      body last (inl cycles) = ap is_end (laws.counted (codes "cycles ") last cycles.0 cycles.1).0
      body last (inr i) = ap is_end (laws.instr last i.0 i.1).0 ∙ instr_no_end i.0
  ended_is section.Ended [] h = absurd h.2
  ended_is section.Ended (last ∷ others) h = sym (ap is_end h.2)

-- one line of a reading, and the lines behind it

done_line : (b : Bool) (o : Option (Parts Instr)) → text_wrong (cond b (ok_or o texts.TooLarge) (Err texts.Truncated)) ≡ None
done_line true None = refl
done_line true (Some d) = refl
done_line false o = refl

done_cut : (b : Bool) (o : Option (Parts Instr)) → text_cut (cond b (ok_or o texts.TooLarge) (Err texts.Truncated)) ≡ not b
done_cut true None = refl
done_cut true (Some d) = refl
done_cut false o = refl

module _ (number : ℕ) (others : Reading Instr → Result (Parts Instr) TextFault) where
  one_line : (ended over right_there complete : Bool) (x : Option (Reading Instr)) (rest : Option ℕ) → is_some x ≡ right_there → over ≡ complete → (over ≡ true → x ≡ None) → ((next : Reading Instr) → x ≡ Some next → text_wrong (others next) ≡ rest)
      → text_wrong (cond (ended || over) (ok_or x (texts.Line number)) (Err texts.Truncated) >>= others) ≡ cond ended (cond right_there rest (Some number)) (cond complete (Some number) None)
  one_line true over right_there complete None rest p q h f = rw (← p) refl
  one_line true over right_there complete (Some next) rest p q h f = rw (← p) (f next refl)
  one_line false true right_there complete None rest p q h f = rw (← q) refl
  one_line false true right_there complete (Some next) rest p q h f = let none = h refl in absurd cc
  one_line false false right_there complete x rest p q h f = rw (← q) refl

  one_cut : (ended over right_there complete : Bool) (x : Option (Reading Instr)) (rest : Bool) → is_some x ≡ right_there → over ≡ complete → (over ≡ true → x ≡ None) → ((next : Reading Instr) → x ≡ Some next → text_cut (others next) ≡ rest)
      → text_cut (cond (ended || over) (ok_or x (texts.Line number)) (Err texts.Truncated) >>= others) ≡ cond ended (right_there && rest) (not complete)
  one_cut true over right_there complete None rest p q h f = rw (← p) refl
  one_cut true over right_there complete (Some next) rest p q h f = rw (← p) (f next refl)
  one_cut false true right_there complete None rest p q h f = rw (← q) refl
  one_cut false true right_there complete (Some next) rest p q h f = let none = h refl in absurd cc
  one_cut false false right_there complete x rest p q h f = rw (← q) refl

module _ (laws : OneLine) where
  lines_wrong : (r : Reading Instr) (before : List (List ℕ)) (ls : List LineView) → Behind r.section before → text_wrong (read_from program_kind any_size r ls) ≡ first_wrong before ls
  lines_wrong r before [] h = done_line (is_ended r.section) r.draft
  lines_wrong r before (line ∷ others) h =
      one_line line.number (λ next. read_from program_kind any_size next others) line.ended (is_ended r.section) (right before line.text) (is_complete before) (after program_kind any_size r line.text) (first_wrong (line.text ∷ before) others)
      (right_is laws r.section before r.draft line.text h) (ended_is laws r.section before h) (nothing_follows r.section r.draft line.text)
      (λ next e. lines_wrong next (line.text ∷ before) others (line_follows laws r.section before r.draft line.text next h e))

  lines_cut : (r : Reading Instr) (before : List (List ℕ)) (ls : List LineView) → Behind r.section before → text_cut (read_from program_kind any_size r ls) ≡ is_cut_off before ls
  lines_cut r before [] h = done_cut (is_ended r.section) r.draft ∙ ap not (ended_is laws r.section before h)
  lines_cut r before (line ∷ others) h =
      one_cut line.number (λ next. read_from program_kind any_size next others) line.ended (is_ended r.section) (right before line.text) (is_complete before) (after program_kind any_size r line.text) (is_cut_off (line.text ∷ before) others)
      (right_is laws r.section before r.draft line.text h) (ended_is laws r.section before h) (nothing_follows r.section r.draft line.text)
      (λ next e. lines_cut next (line.text ∷ before) others (line_follows laws r.section before r.draft line.text next h e))

-- judging a draft finds no wrong line

valid_line : (d : ProgramView) (fault : Option Invalid) → wrong_line (with_fault d fault) ≡ None
valid_line d None = refl
valid_line d (Some invalid) = refl

valid_cut : (d : ProgramView) (fault : Option Invalid) → is_truncated (with_fault d fault) ≡ false
valid_cut d None = refl
valid_cut d (Some invalid) = refl

later_line : (d : ProgramView) (large : Bool) → wrong_line (cond large (Err faults.TooLarge) (Ok d) >>= validated) ≡ None
later_line d true = refl
later_line d false = valid_line d (fault_of d)

later_cut : (d : ProgramView) (large : Bool) → is_truncated (cond large (Err faults.TooLarge) (Ok d) >>= validated) ≡ false
later_cut d true = refl
later_cut d false = valid_cut d (fault_of d)

judged_line : (reading : Result ProgramView FileFault) → wrong_line (reading >>= sized >>= validated) ≡ wrong_line reading
judged_line (Ok d) = later_line d (ltb MAX_CELLS d.cells)
judged_line (Err fault) = refl

judged_cut : (reading : Result ProgramView FileFault) → is_truncated (reading >>= sized >>= validated) ≡ is_truncated reading
judged_cut (Ok d) = later_cut d (ltb MAX_CELLS d.cells)
judged_cut (Err fault) = refl

-- a draft is wrong where its text is

file_line : (reading : Result (Parts Instr) TextFault) → wrong_line (file_draft reading) ≡ text_wrong reading
file_line (Ok parts) = refl
file_line (Err (texts.Line n)) = refl
file_line (Err texts.TooLarge) = refl
file_line (Err texts.Truncated) = refl
file_line (Err texts.NoMemory) = refl

file_cut : (reading : Result (Parts Instr) TextFault) → is_truncated (file_draft reading) ≡ text_cut reading
file_cut (Ok parts) = refl
file_cut (Err (texts.Line n)) = refl
file_cut (Err texts.TooLarge) = refl
file_cut (Err texts.Truncated) = refl
file_cut (Err texts.NoMemory) = refl

module _ (laws : OneLine) where
  pub wrong_line-parse1_of : (bytes : List ℕ) → wrong_line (parse1_of bytes) ≡ first_wrong [] (lines bytes)
  unfolding parse1_of draft_of parts_of
  wrong_line-parse1_of bytes =
      judged_line (file_draft (read_from program_kind any_size start (lines bytes))) ∙ file_line (read_from program_kind any_size start (lines bytes)) ∙ lines_wrong laws start [] (lines bytes) refl

  pub is_truncated-parse1_of : (bytes : List ℕ) → is_truncated (parse1_of bytes) ≡ is_cut_off [] (lines bytes)
  unfolding parse1_of draft_of parts_of
  is_truncated-parse1_of bytes =
      judged_cut (file_draft (read_from program_kind any_size start (lines bytes))) ∙ file_cut (read_from program_kind any_size start (lines bytes)) ∙ lines_cut laws start [] (lines bytes) refl
