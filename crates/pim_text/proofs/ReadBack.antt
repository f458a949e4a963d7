-- The text of parts is read as those parts.
use Rattle.std.proofs.Common.{◌≡◌, ℕ, zero, suc, ◌+◌, ◌-◌, ◌^◌, ◌<◌, ◌≤◌, inl, inr, take, Bool, true, false, not, eqb, List, [], ◌∷◌, ◌++◌, length, Option, Some, None, Result, Ok, Err, codes, refl, ap, sym, ◌∙◌, subst, append_assoc, arith}
use Rattle.std.specs.Fmt.{decimal}
use Rattle.std.specs.List.{AllByRecursion}
use Rattle.std.specs.Str.{bytes_eq}
use Rattle.std.proofs.lemmas.Bool.{and_parts, not-true, ne_eqb, cases_lt}
use Rattle.std.proofs.lemmas.List.{append-nil, length-append, take-append-le}
use Rattle.std.proofs.lemmas.Slice.Eq.{bytes_eq-Decides}
use Rattle.std.proofs.Math.Seq.{take-append-add}
use Rattle.pim_io.specs.Lines.{LineView, is_newline, last_line, lines_after}
use Rattle.pim_isa.specs.declared.port.Port.{Port}
use Rattle.pim_isa.specs.declared.target.Target.{Target}
use Rattle.pim_text.specs.declared.fault.TextFault.{TextFault}
use Rattle.pim_text.specs.declared.fault.TextFault.TheVariants as faults
use Rattle.pim_text.specs.declared.section.Section.TheVariants as section
use Rattle.pim_text.specs.Fields.{lacks}
use Rattle.pim_text.specs.LineLaws.{ReadLines, LackNewlines}
use Rattle.pim_text.specs.Parts.{Kind, IsKind, Parts, instrs_text, told_target, head_text, text as text_of, IsTold, HasText}
use Rattle.pim_text.specs.Reading.{Reading, start, begun, with_input, with_output, with_instr, behind_first, after, is_ended, read_from, any_size, parts_of}
use Rattle.pim_text.specs.Spelled.{HasPortLine}
use Rattle.pim_text.specs.Text.{target_line, counted_text, port_line, port_text, ports_text}
use Rattle.pim_text.proofs.WholeText.{aimed_is}

-- the bytes from a line on, which begins at this place
abbrev read_at : {I : Type 0} → Kind I → ℕ → ℕ → Reading I → List ℕ → Result (Parts I) TextFault
read_at kind number place r bytes = read_from kind any_size r (lines_after number place [] bytes)

-- a piece of text leads from one reading to another, and where it is cut off the bytes end too early
pub record Passes {I : Type 0} (kind : Kind I) (r : Reading I) (piece : List ℕ) (next : Reading I) : Type 0 where
  pub whole : (number place : ℕ) (rest : List ℕ) → (n : ℕ) × (p : ℕ) × (read_at kind number place r (piece ++ rest) ≡ read_at kind n p next rest)
  pub cut : (number place k : ℕ) → k < length piece → read_at kind number place r (take k piece) ≡ Err faults.Truncated

lacks-take : (c k : ℕ) (bytes : List ℕ) → lacks c bytes ≡ true → lacks c (take k bytes) ≡ true
lacks-take c zero bytes h = refl
lacks-take c (suc k) [] h = refl
lacks-take c (suc k) (b ∷ bytes) h =
    let parts = and_parts (not (eqb b c)) (lacks c bytes) h in
    rw (parts.0, lacks-take c k bytes parts.1) refl

-- a last line without a newline in it
lines-last : (number place : ℕ) (run bytes : List ℕ) → lacks 10 bytes ≡ true → lines_after number place run bytes ≡ last_line number place (run ++ bytes)
lines-last number place run [] h = rw append-nil refl
lines-last number place run (b ∷ bytes) h =
    let parts = and_parts (not (eqb b 10)) (lacks 10 bytes) h in
    let other : is_newline b ≡ false = not-true _ parts.0 in
    rw other (lines-last number place (run ++ b ∷ []) bytes parts.1 ∙ ap (λ (t : List ℕ). last_line number place t) (append_assoc run (b ∷ []) bytes))

parts_of_sum : (k n : ℕ) → n ≤ k → k ≡ n + (k - n)
parts_of_sum k n le = omega arith

-- behind the inputs, where no output was read yet, and behind an output
abbrev ports_read : {I : Type 0} → Bool → Parts I → Reading I
ports_read true d = record { section = section.Inputs; draft = Some d }
ports_read false d = record { section = section.Outputs; draft = Some d }

ports_before_end : {I : Type 0} (none : Bool) (d : Parts I) → is_ended (ports_read none d).section ≡ false
ports_before_end true d = refl
ports_before_end false d = refl

module _ {I : Type 0} (kind : Kind I) (laws : ReadLines) (lack : LackNewlines) (is_kind : IsKind kind) where
  -- a last piece without a newline, before `end`
  last_piece : (number place : ℕ) (r : Reading I) (bytes : List ℕ) → is_ended r.section ≡ false → read_from kind any_size r (last_line number place bytes) ≡ Err faults.Truncated
  last_piece number place r [] h = rw h refl
  last_piece number place r (b ∷ bytes) h = rw h refl

  piece_cut : (number place : ℕ) (r : Reading I) (bytes : List ℕ) → is_ended r.section ≡ false → lacks 10 bytes ≡ true → read_at kind number place r bytes ≡ Err faults.Truncated
  piece_cut number place r bytes h l = ap (λ (ls : List LineView). read_from kind any_size r ls) (lines-last number place [] bytes l) ∙ last_piece number place r bytes h

  line_passes : (r next : Reading I) (line : List ℕ) → is_ended r.section ≡ false → lacks 10 line ≡ true → after kind any_size r line ≡ Some next → Passes kind r (line ++ codes "\n") next
  line_passes r next line before h e = record {
    whole = λ number place rest.
        let cut : lines_after number place [] ((line ++ codes "\n") ++ rest) ≡ record { number = number; start = place; text = line; ended = true } ∷ lines_after (number + 1) (place + length line + 1) [] rest =
        ap (λ (t : List ℕ). lines_after number place [] t) (append_assoc line (codes "\n") rest) ∙ lack.cut number place line rest h in
        (number + 1, place + length line + 1, ap (λ (ls : List LineView). read_from kind any_size r ls) cut ∙ rw e refl);
    cut = λ number place k lt.
        let within : k ≤ length line = omega (arith, length-append line (codes "\n")) in
        let front : take k (line ++ codes "\n") ≡ take k line = take-append-le k line (codes "\n") within in
        ap (λ (t : List ℕ). read_at kind number place r t) front ∙ piece_cut number place r (take k line) before (lacks-take 10 k line h);
  }

  passes_nil : (r : Reading I) → Passes kind r [] r
  passes_nil r = record {
    whole = λ number place rest. (number, place, refl);
    cut = λ number place k lt. absurd (omega arith);
  }

  passes_both : (r s t : Reading I) (a b : List ℕ) → Passes kind r a s → Passes kind s b t → Passes kind r (a ++ b) t
  passes_both r s t a b f g = record {
    whole = λ number place rest.
        let first = f.whole number place (b ++ rest) in
        let second = g.whole first.0 first.1 rest in
        (second.0, second.1, ap (λ (u : List ℕ). read_at kind number place r u) (append_assoc a b rest) ∙ first.2 ∙ second.2);
    cut = λ number place k lt.
        elim (cases_lt k (length a)) [
          | inl early ↦
              let within : k ≤ length a = omega arith in
              ap (λ (u : List ℕ). read_at kind number place r u) (take-append-le k a b within) ∙ f.cut number place k early
          | inr late ↦
              let first = f.whole number place (take (k - length a) b) in
              let inside : k - length a < length b = omega (arith, length-append a b) in
              let inner : take k (a ++ b) ≡ a ++ take (k - length a) b = ap (λ (n : ℕ). take n (a ++ b)) (parts_of_sum k (length a) late) ∙ take-append-add a b (k - length a) in
              ap (λ (u : List ℕ). read_at kind number place r u) inner ∙ first.2 ∙ g.cut first.0 first.1 (k - length a) inside
        ];
  }

  -- the parts of a draft, one after another

  abbrev first_read : Reading I
  first_read = record { section = behind_first kind.target; draft = None }

  abbrev target_read : Target → Reading I
  target_read target = record { section = section.Cells target; draft = None }

  abbrev inputs_read : Parts I → Reading I
  inputs_read d = record { section = section.Inputs; draft = Some d }

  abbrev ended_read : Parts I → Reading I
  ended_read d = record { section = section.Ended; draft = Some d }

  first_passes : Passes kind start (kind.first ++ codes "\n") first_read
  first_passes =
      let same : bytes_eq kind.first kind.first ≡ true = (bytes_eq-Decides kind.first kind.first).1 refl in
      line_passes start first_read kind.first refl is_kind.first (rw same refl)

  -- behind the first line the target is told, or is known
  told_passes : (t : Option Target) (target : Target) → IsTold t target → Passes kind (record { section = behind_first t; draft = None }) (told_target t target) (target_read target)
  told_passes None target h =
      line_passes (record { section = section.Target; draft = None }) (target_read target) (target_line target) refl (lack.target target) (rw (laws.target target) refl)
  told_passes (Some only) target h = subst (λ (t : Target). Passes kind (target_read only) [] (target_read t)) (sym h) (passes_nil (target_read only))

  cells_pass : (target : Target) (cells : ℕ) → IsTold kind.target target → cells < 2 ^ 32 → Passes kind (target_read target) ((codes "cells " ++ decimal cells) ++ codes "\n") (inputs_read (begun target cells))
  cells_pass target cells told small =
      let same = aimed_is kind.target target told in
      line_passes (target_read target) (inputs_read (begun target cells)) (codes "cells " ++ decimal cells) refl (lack.counted (codes "cells ") cells refl small) (rw (laws.counted (codes "cells ") cells small, same) refl)

  head_passes : (target : Target) (cells : ℕ) → IsTold kind.target target → cells < 2 ^ 32 → Passes kind start (head_text kind target cells) (inputs_read (begun target cells))
  head_passes target cells told small =
      let first = kind.first ++ codes "\n" in
      let aimed = told_target kind.target target in
      let two : Passes kind start (first ++ aimed) (target_read target) = passes_both start first_read (target_read target) first aimed first_passes (told_passes kind.target target told) in
      passes_both start (target_read target) (inputs_read (begun target cells)) (first ++ aimed) (counted_text (codes "cells ") cells) two (cells_pass target cells told small)

  inputs_pass : (d : Parts I) (ports : List Port) → AllByRecursion HasPortLine ports → Passes kind (inputs_read d) (ports_text (codes "input ") ports) (inputs_read (record d { inputs = d.inputs ++ ports }))
  inputs_pass d [] h = subst (λ (ps : List Port). Passes kind (inputs_read d) [] (inputs_read (record d { inputs = ps }))) (sym (append-nil d.inputs)) (passes_nil (inputs_read d))
  inputs_pass d (port ∷ ports) h =
      let e = with_input port d in
      let first : Passes kind (inputs_read d) (port_text (codes "input ") port) (inputs_read e) = line_passes (inputs_read d) (inputs_read e) (port_line (codes "input ") port) refl (lack.port (codes "input ") port refl h.0) (rw (laws.port (codes "input ") port h.0) refl) in
      let others : Passes kind (inputs_read e) (ports_text (codes "input ") ports) (inputs_read (record d { inputs = (d.inputs ++ port ∷ []) ++ ports })) = inputs_pass e ports h.1 in
      let both = passes_both (inputs_read d) (inputs_read e) (inputs_read (record d { inputs = (d.inputs ++ port ∷ []) ++ ports })) (port_text (codes "input ") port) (ports_text (codes "input ") ports) first others in
      subst (λ (ps : List Port). Passes kind (inputs_read d) (ports_text (codes "input ") (port ∷ ports)) (inputs_read (record d { inputs = ps }))) (append_assoc d.inputs (port ∷ []) ports) both

  output_right : (none : Bool) (d : Parts I) (port : Port) → HasPortLine port → after kind any_size (ports_read none d) (port_line (codes "output ") port) ≡ Some (ports_read false (with_output port d))
  output_right true d port h = rw (laws.port (codes "output ") port h) refl
  output_right false d port h = rw (laws.port (codes "output ") port h) refl

  cycles_right : (none : Bool) (d : Parts I) (n : ℕ) → n < 2 ^ 32 → after kind any_size (ports_read none d) (codes "cycles " ++ decimal n) ≡ Some (record { section = section.Instrs n; draft = Some d })
  cycles_right true d n h = rw (laws.counted (codes "cycles ") n h) refl
  cycles_right false d n h = rw (laws.counted (codes "cycles ") n h) refl

  outputs_pass : (none : Bool) (d : Parts I) (ports : List Port) → AllByRecursion HasPortLine ports → (left : Bool) × Passes kind (ports_read none d) (ports_text (codes "output ") ports) (ports_read left (record d { outputs = d.outputs ++ ports }))
  outputs_pass none d [] h = (none, subst (λ (ps : List Port). Passes kind (ports_read none d) [] (ports_read none (record d { outputs = ps }))) (sym (append-nil d.outputs)) (passes_nil (ports_read none d)))
  outputs_pass none d (port ∷ ports) h =
      let e = with_output port d in
      let first : Passes kind (ports_read none d) (port_text (codes "output ") port) (ports_read false e) = line_passes (ports_read none d) (ports_read false e) (port_line (codes "output ") port) (ports_before_end none d) (lack.port (codes "output ") port refl h.0) (output_right none d port h.0) in
      let others = outputs_pass false e ports h.1 in
      let both = passes_both (ports_read none d) (ports_read false e) (ports_read others.0 (record d { outputs = (d.outputs ++ port ∷ []) ++ ports })) (port_text (codes "output ") port) (ports_text (codes "output ") ports) first others.1 in
      (others.0, subst (λ (ps : List Port). Passes kind (ports_read none d) (ports_text (codes "output ") (port ∷ ports)) (ports_read others.0 (record d { outputs = ps }))) (append_assoc d.outputs (port ∷ []) ports) both)

  abbrev instrs_read : ℕ → Parts I → Reading I
  instrs_read left d = record { section = section.Instrs left; draft = Some d }

  instr_right : (left : ℕ) (d : Parts I) (i : I) → 0 < left → kind.instr_of (kind.instr_text i) ≡ Some i → after kind any_size (instrs_read left d) (kind.instr_text i) ≡ Some (instrs_read (left - 1) (with_instr i d))
  instr_right left d i some h = let more : eqb left 0 ≡ false = ne_eqb left 0 (λ e. omega arith) in rw (more, h) refl

  instrs_pass : (left : ℕ) (d : Parts I) (instrs : List I) → left ≡ length instrs → AllByRecursion (λ i. kind.instr_of (kind.instr_text i) ≡ Some i) instrs → Passes kind (instrs_read left d) (instrs_text kind.instr_text instrs) (instrs_read 0 (record d { instrs = d.instrs ++ instrs }))
  instrs_pass left d [] count h = subst (λ (x : List I). Passes kind (instrs_read left d) [] (instrs_read 0 (record d { instrs = x }))) (sym (append-nil d.instrs)) (subst (λ (n : ℕ). Passes kind (instrs_read left d) [] (instrs_read n d)) count (passes_nil (instrs_read left d)))
  instrs_pass left d (i ∷ instrs) count h =
      let e = with_instr i d in
      let first : Passes kind (instrs_read left d) (kind.instr_text i ++ codes "\n") (instrs_read (left - 1) e) = line_passes (instrs_read left d) (instrs_read (left - 1) e) (kind.instr_text i) refl (is_kind.lack (kind.instr_text i) i h.0) (instr_right left d i (omega arith) h.0) in
      let others = instrs_pass (left - 1) e instrs (omega arith) h.1 in
      let both = passes_both (instrs_read left d) (instrs_read (left - 1) e) (instrs_read 0 (record d { instrs = (d.instrs ++ i ∷ []) ++ instrs })) (kind.instr_text i ++ codes "\n") (instrs_text kind.instr_text instrs) first others in
      subst (λ (x : List I). Passes kind (instrs_read left d) (instrs_text kind.instr_text (i ∷ instrs)) (instrs_read 0 (record d { instrs = x }))) (append_assoc d.instrs (i ∷ []) instrs) both

  -- all of a text
  text_passes : (d : Parts I) → HasText kind d → Passes kind start (text_of kind d) (ended_read d)
  text_passes d h =
      let d0 : Parts I = begun d.target d.cells in
      let d1 : Parts I = record d0 { inputs = d.inputs } in
      let d2 : Parts I = record d1 { outputs = d.outputs } in
      let outputs = outputs_pass true d1 d.outputs h.outputs in
      let t1 = head_text kind d.target d.cells in
      let t2 = t1 ++ ports_text (codes "input ") d.inputs in
      let t3 = t2 ++ ports_text (codes "output ") d.outputs in
      let t4 = t3 ++ counted_text (codes "cycles ") (length d.instrs) in
      let t5 = t4 ++ instrs_text kind.instr_text d.instrs in
      let p1 : Passes kind start t1 (inputs_read d0) = head_passes d.target d.cells h.target h.cells in
      let p2 : Passes kind start t2 (inputs_read d1) = passes_both start (inputs_read d0) (inputs_read d1) t1 (ports_text (codes "input ") d.inputs) p1 (inputs_pass d0 d.inputs h.inputs) in
      let p3 : Passes kind start t3 (ports_read outputs.0 d2) = passes_both start (inputs_read d1) (ports_read outputs.0 d2) t2 (ports_text (codes "output ") d.outputs) p2 outputs.1 in
      let cycles : Passes kind (ports_read outputs.0 d2) (counted_text (codes "cycles ") (length d.instrs)) (instrs_read (length d.instrs) d2) =
      line_passes (ports_read outputs.0 d2) (instrs_read (length d.instrs) d2) (codes "cycles " ++ decimal (length d.instrs)) (ports_before_end outputs.0 d2) (lack.counted (codes "cycles ") (length d.instrs) refl h.cycles) (cycles_right outputs.0 d2 (length d.instrs) h.cycles) in
      let p4 : Passes kind start t4 (instrs_read (length d.instrs) d2) = passes_both start (ports_read outputs.0 d2) (instrs_read (length d.instrs) d2) t3 (counted_text (codes "cycles ") (length d.instrs)) p3 cycles in
      let p5 : Passes kind start t5 (instrs_read 0 d) = passes_both start (instrs_read (length d.instrs) d2) (instrs_read 0 d) t4 (instrs_text kind.instr_text d.instrs) p4 (instrs_pass (length d.instrs) d2 d.instrs refl h.instrs) in
      let end : Passes kind (instrs_read 0 d) (codes "end" ++ codes "\n") (ended_read d) = line_passes (instrs_read 0 d) (ended_read d) (codes "end") refl refl refl in
      passes_both start (instrs_read 0 d) (ended_read d) t5 (codes "end\n") p5 end

  pub parts_of-text : (d : Parts I) → HasText kind d → parts_of kind (text_of kind d) ≡ Ok d
  unfolding parts_of
  parts_of-text d h =
      let all = (text_passes d h).whole 1 0 [] in
      ap (λ (t : List ℕ). read_at kind 1 0 start t) (sym (append-nil (text_of kind d))) ∙ all.2

  -- a text that is cut off
  pub parts_of-cut : (d : Parts I) (k : ℕ) → HasText kind d → k < length (text_of kind d) → parts_of kind (take k (text_of kind d)) ≡ Err faults.Truncated
  unfolding parts_of
  parts_of-cut d k h lt = (text_passes d h).cut 1 0 k lt
