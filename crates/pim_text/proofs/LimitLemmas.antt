-- A reading that keeps only drafts within the limit ends as one that keeps all of them, but for those that are too large.
use Rattle.std.proofs.Common.{◌≡◌, ℕ, ◌-◌, Bool, true, false, cond, ltb, eqb, ◌||◌, List, [], ◌∷◌, Option, Some, None, Result, Ok, Err, codes, refl, ap, sym, ◌∙◌}
use Rattle.std.specs.Option.{option_map, option_and_then, option_or, ok_or}
use Rattle.std.specs.Str.{bytes_eq}
use Rattle.pim_io.specs.Lines.{LineView, lines}
use Rattle.pim_io.specs.Readings.{◌>>=◌}
use Rattle.pim_isa.specs.declared.draft.TheConstants.{MAX_CELLS}
use Rattle.pim_isa.specs.declared.port.Port.{Port}
use Rattle.pim_text.specs.declared.fault.TextFault.{TextFault}
use Rattle.pim_text.specs.declared.fault.TextFault.TheVariants as faults
use Rattle.pim_text.specs.declared.section.Section.{Section}
use Rattle.pim_text.specs.declared.section.Section.TheVariants as section
use Rattle.pim_text.specs.LineForms.{target_of, counted_of, port_of}
use Rattle.pim_text.specs.Parts.{Kind, Parts}
use Rattle.pim_text.specs.Reading.{Reading, start, aimed, begun, with_input, with_output, with_instr, behind_first, after_input, after_output, after_cycles, after_outputs, after_inputs, after_end, after_in, after, is_ended, line_read, read_from, any_size, parts_of, sized}
use Rattle.pim_text.specs.inner.Kept.{within_limit, parts_within_limit}

-- options

map-cond : {A B : Type 0} (f : A → B) (b : Bool) (x : A) → cond b (Some (f x)) None ≡ option_map f (cond b (Some x) None)
map-cond f true x = refl
map-cond f false x = refl

map-map : {A B C : Type 0} (f : B → C) (g : A → B) (o : Option A) → option_map (λ x. f (g x)) o ≡ option_map f (option_map g o)
map-map f g None = refl
map-map f g (Some x) = refl

map-or : {A B : Type 0} (f : A → B) (a b : Option A) → option_or (option_map f a) (option_map f b) ≡ option_map f (option_or a b)
map-or f None b = refl
map-or f (Some x) b = refl

module _ {I : Type 0} (kind : Kind I) where
  -- what is kept of a reading
  abbrev kept_draft : Option (Parts I) → Option (Parts I)
  kept_draft draft = option_and_then within_limit draft

  abbrev kept : Reading I → Reading I
  kept r = record { section = r.section; draft = kept_draft r.draft }

  -- a change that leaves the number of cells

  grown : (f : Parts I → Parts I) (b : Bool) (d : Parts I) → cond b None (Some (f d)) ≡ option_map f (cond b None (Some d))
  grown f true d = refl
  grown f false d = refl

  kept_input : (o : Option (Parts I)) (port : Port) → option_map (with_input port) (kept_draft o) ≡ kept_draft (option_map (with_input port) o)
  kept_input None port = refl
  kept_input (Some d) port = sym (grown (with_input port) (ltb MAX_CELLS d.cells) d)

  kept_output : (o : Option (Parts I)) (port : Port) → option_map (with_output port) (kept_draft o) ≡ kept_draft (option_map (with_output port) o)
  kept_output None port = refl
  kept_output (Some d) port = sym (grown (with_output port) (ltb MAX_CELLS d.cells) d)

  kept_instr : (o : Option (Parts I)) (instr : I) → option_map (with_instr instr) (kept_draft o) ≡ kept_draft (option_map (with_instr instr) o)
  kept_instr None instr = refl
  kept_instr (Some d) instr = sym (grown (with_instr instr) (ltb MAX_CELLS d.cells) d)

  -- each kind of line

  input_kept : (o : Option (Parts I)) (port : Option Port) → option_map (λ p. record { section = section.Inputs; draft = option_map (with_input p) (kept_draft o) }) port ≡ option_map kept (option_map (λ p. record { section = section.Inputs; draft = option_map (with_input p) o }) port)
  input_kept o None = refl
  input_kept o (Some p) = ap (λ (x : Option (Parts I)). Some (record { section = section.Inputs; draft = x })) (kept_input o p)

  output_kept : (o : Option (Parts I)) (port : Option Port) → option_map (λ p. record { section = section.Outputs; draft = option_map (with_output p) (kept_draft o) }) port ≡ option_map kept (option_map (λ p. record { section = section.Outputs; draft = option_map (with_output p) o }) port)
  output_kept o None = refl
  output_kept o (Some p) = ap (λ (x : Option (Parts I)). Some (record { section = section.Outputs; draft = x })) (kept_output o p)

  instr_kept : (left : ℕ) (o : Option (Parts I)) (instr : Option I) → option_map (λ i. record { section = section.Instrs left; draft = option_map (with_instr i) (kept_draft o) }) instr ≡ option_map kept (option_map (λ i. record { section = section.Instrs left; draft = option_map (with_instr i) o }) instr)
  instr_kept left o None = refl
  instr_kept left o (Some i) = ap (λ (x : Option (Parts I)). Some (record { section = section.Instrs left; draft = x })) (kept_instr o i)

  outputs_kept : (o : Option (Parts I)) (line : List ℕ) → after_outputs (kept_draft o) line ≡ option_map kept (after_outputs o line)
  outputs_kept o line =
      let outputs : after_output (kept_draft o) line ≡ option_map kept (after_output o line) = output_kept o (port_of (codes "output ") line) in
      let cycles : after_cycles (kept_draft o) line ≡ option_map kept (after_cycles o line) = map-map kept (λ (n : ℕ). record { section = section.Instrs n; draft = o }) (counted_of (codes "cycles ") line) in
      rw (outputs, cycles) (map-or kept (after_output o line) (after_cycles o line))

  inputs_kept : (o : Option (Parts I)) (line : List ℕ) → after_inputs (kept_draft o) line ≡ option_map kept (after_inputs o line)
  inputs_kept o line =
      let inputs : after_input (kept_draft o) line ≡ option_map kept (after_input o line) = input_kept o (port_of (codes "input ") line) in
      rw (inputs, outputs_kept o line) (map-or kept (after_input o line) (after_outputs o line))

  instrs_kept : (zero_left : Bool) (left : ℕ) (o : Option (Parts I)) (line : List ℕ) → cond zero_left (after_end (kept_draft o) line) (option_map (λ i. record { section = section.Instrs (left - 1); draft = option_map (with_instr i) (kept_draft o) }) (kind.instr_of line))
      ≡ option_map kept (cond zero_left (after_end o line) (option_map (λ i. record { section = section.Instrs (left - 1); draft = option_map (with_instr i) o }) (kind.instr_of line)))
  instrs_kept true left o line = map-cond kept (bytes_eq line (codes "end")) (record { section = section.Ended; draft = o })
  instrs_kept false left o line = instr_kept (left - 1) o (kind.instr_of line)

  after_kept : (s : Section) (o : Option (Parts I)) (line : List ℕ) → after_in kind within_limit s (kept_draft o) line ≡ option_map kept (after_in kind any_size s o line)
  after_kept section.First o line = map-cond kept (bytes_eq line kind.first) (record { section = behind_first kind.target; draft = o })
  after_kept section.Target o line = map-map kept (λ target. record { section = section.Cells target; draft = o }) (target_of line)
  after_kept (section.Cells target) o line = map-map kept (λ (n : ℕ). record { section = section.Inputs; draft = any_size (begun (aimed kind.target target) n) }) (counted_of (codes "cells ") line)
  after_kept section.Inputs o line = inputs_kept o line
  after_kept section.Outputs o line = outputs_kept o line
  after_kept (section.Instrs left) o line = instrs_kept (eqb left 0) left o line
  after_kept section.Ended o line = refl

  -- whole lines

  abbrev keeping : Result (Reading I) TextFault → Result (Reading I) TextFault
  keeping reading = reading >>= λ r. Ok (kept r)

  judged_kept : (b : Bool) (o : Option (Reading I)) (fault other : TextFault) → cond b (ok_or (option_map kept o) fault) (Err other) ≡ keeping (cond b (ok_or o fault) (Err other))
  judged_kept true None fault other = refl
  judged_kept true (Some r) fault other = refl
  judged_kept false o fault other = refl

  line_kept : (r : Reading I) (line : LineView) → line_read kind within_limit (kept r) line ≡ keeping (line_read kind any_size r line)
  line_kept r line = rw (after_kept r.section r.draft line.text) (judged_kept (line.ended || is_ended r.section) (after kind any_size r line.text) (faults.Line line.number) faults.Truncated)

  finished_kept : (b large : Bool) (d : Parts I) → cond b (ok_or (cond large None (Some d)) faults.TooLarge) (Err faults.Truncated) ≡ (cond b (Ok d) (Err faults.Truncated) >>= λ e. cond large (Err faults.TooLarge) (Ok d))
  finished_kept true true d = refl
  finished_kept true false d = refl
  finished_kept false large d = refl

  end_kept : (b : Bool) (o : Option (Parts I)) → cond b (ok_or (kept_draft o) faults.TooLarge) (Err faults.Truncated) ≡ (cond b (ok_or o faults.TooLarge) (Err faults.Truncated) >>= sized)
  end_kept true None = refl
  end_kept false None = refl
  end_kept true (Some d) = finished_kept true (ltb MAX_CELLS d.cells) d
  end_kept false (Some d) = refl

  on_kept : (others : List LineView) (x : Result (Reading I) TextFault) → ((r : Reading I) → read_from kind within_limit (kept r) others ≡ (read_from kind any_size r others >>= sized)) → (keeping x >>= λ next. read_from kind within_limit next others) ≡ ((x >>= λ next. read_from kind any_size next others) >>= sized)
  on_kept others (Ok r) h = h r
  on_kept others (Err fault) h = refl

  read_kept : (r : Reading I) (lines : List LineView) → read_from kind within_limit (kept r) lines ≡ (read_from kind any_size r lines >>= sized)
  read_kept r [] = end_kept (is_ended r.section) r.draft
  read_kept r (line ∷ others) =
      ap (λ (x : Result (Reading I) TextFault). x >>= λ next. read_from kind within_limit next others) (line_kept r line) ∙ on_kept others (line_read kind any_size r line) (λ next. read_kept next others)

  pub parts_of-kept : (bytes : List ℕ) → parts_within_limit kind bytes ≡ (parts_of kind bytes >>= sized)
  unfolding parts_of
  parts_of-kept bytes = read_kept start (lines bytes)
