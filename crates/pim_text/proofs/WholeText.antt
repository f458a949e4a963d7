-- What is read as the parts of a program is their text.
use Rattle.std.proofs.Common.{◌≡◌, ℕ, ◌+◌, ◌-◌, ◌^◌, ◌<◌, Bool, true, false, cond, eqb, inl, inr, List, [], ◌∷◌, ◌++◌, length, Option, Some, None, Ok, Err, codes, refl, ap, sym, ◌∙◌, subst, append_assoc, add-zero, arith}
use Rattle.std.specs.List.{AllByRecursion}
use Rattle.std.specs.Option.{MatchOption, option_map, ok_or}
use Rattle.std.specs.Str.{bytes_eq}
use Rattle.std.proofs.lemmas.Bool.{eqb-true, eqb-false}
use Rattle.std.proofs.lemmas.List.{append-nil, length_push}
use Rattle.std.proofs.lemmas.Option.{cond_some}
use Rattle.std.proofs.lemmas.Slice.Eq.{bytes_eq-Decides}
use Rattle.pim_io.specs.Lines.{LineView, is_newline, last_line, lines_after, lines}
use Rattle.pim_isa.specs.declared.port.Port.{Port}
use Rattle.pim_isa.specs.declared.target.Target.{Target}
use Rattle.pim_text.specs.declared.fault.TextFault.{TextFault}
use Rattle.pim_text.specs.declared.fault.TextFault.TheVariants as faults
use Rattle.pim_text.specs.declared.section.Section.{Section}
use Rattle.pim_text.specs.declared.section.Section.TheVariants as section
use Rattle.pim_text.specs.LineForms.{target_of, counted_of, port_of}
use Rattle.pim_text.specs.LineLaws.{OneLine}
use Rattle.pim_text.specs.Parts.{Kind, IsKind, Parts, instrs_text, told_target, head_text, text as text_of, IsTold, HasText}
use Rattle.pim_text.specs.Reading.{Reading, start, aimed, begun, with_input, with_output, with_instr, behind_first, after_first, after_target, after_cells, after_input, after_output, after_cycles, after_outputs, after_inputs, after_end, after_in, after, is_ended, line_read, read_from, any_size, parts_of}
use Rattle.pim_text.specs.Spelled.{HasPortLine}
use Rattle.pim_text.specs.Text.{counted_text, port_text, ports_text}
use Rattle.pim_text.proofs.OptionLemmas.{mapped, or_is, ok_is, bind_ok, judged_line}

-- one more port, and one more instruction, at the end of a text

ports_text-push : (word : List ℕ) (ports : List Port) (port : Port) → ports_text word (ports ++ port ∷ []) ≡ ports_text word ports ++ port_text word port
ports_text-push word [] port = append-nil (port_text word port)
ports_text-push word (p ∷ ports) port = ap (λ (t : List ℕ). port_text word p ++ t) (ports_text-push word ports port) ∙ sym (append_assoc (port_text word p) (ports_text word ports) (port_text word port))

instrs_text-push : {I : Type 0} (spell : I → List ℕ) (instrs : List I) (i : I) → instrs_text spell (instrs ++ i ∷ []) ≡ instrs_text spell instrs ++ (spell i ++ codes "\n")
instrs_text-push spell [] i = append-nil (spell i ++ codes "\n")
instrs_text-push spell (j ∷ instrs) i = ap (λ (t : List ℕ). (spell j ++ codes "\n") ++ t) (instrs_text-push spell instrs i) ∙ sym (append_assoc (spell j ++ codes "\n") (instrs_text spell instrs) (spell i ++ codes "\n"))

all_push : {X : Type 0} (P : X → Type 0) (xs : List X) (x : X) → AllByRecursion P xs → P x → AllByRecursion P (xs ++ x ∷ [])
all_push P [] x h p = (p, tt)
all_push P (y ∷ xs) x h p = (h.0, all_push P xs x h.1 p)

-- the bytes so far with one more line
abbrev longer : List ℕ → List ℕ → List ℕ
longer read line = read ++ (line ++ codes "\n")

-- the first line, and the target where it is told
abbrev kind_text : {I : Type 0} → Kind I → Target → List ℕ
kind_text kind target = (kind.first ++ codes "\n") ++ told_target kind.target target

-- an instruction that is read from its line
abbrev IsRead : {I : Type 0} → Kind I → I → Type 0
IsRead kind i = kind.instr_of (kind.instr_text i) ≡ Some i

-- what the bytes so far are, where a reading stands behind them

pub record CellsRead {I : Type 0} (kind : Kind I) (target : Target) (read : List ℕ) : Type 0 where
  pub spelled : read ≡ kind_text kind target
  pub told : IsTold kind.target target

pub record InputsRead {I : Type 0} (kind : Kind I) (d : Parts I) (read : List ℕ) : Type 0 where
  pub spelled : read ≡ head_text kind d.target d.cells ++ ports_text (codes "input ") d.inputs
  pub target : IsTold kind.target d.target
  pub cells : d.cells < 2 ^ 32
  pub inputs : AllByRecursion HasPortLine d.inputs
  pub no_outputs : d.outputs ≡ []
  pub no_instrs : d.instrs ≡ []

pub record OutputsRead {I : Type 0} (kind : Kind I) (d : Parts I) (read : List ℕ) : Type 0 where
  pub spelled : read ≡ head_text kind d.target d.cells ++ ports_text (codes "input ") d.inputs ++ ports_text (codes "output ") d.outputs
  pub target : IsTold kind.target d.target
  pub cells : d.cells < 2 ^ 32
  pub inputs : AllByRecursion HasPortLine d.inputs
  pub outputs : AllByRecursion HasPortLine d.outputs
  pub no_instrs : d.instrs ≡ []

pub record InstrsRead {I : Type 0} (kind : Kind I) (left : ℕ) (d : Parts I) (read : List ℕ) : Type 0 where
  pub spelled : read ≡ head_text kind d.target d.cells ++ ports_text (codes "input ") d.inputs ++ ports_text (codes "output ") d.outputs ++ counted_text (codes "cycles ") (length d.instrs + left) ++ instrs_text kind.instr_text d.instrs
  pub target : IsTold kind.target d.target
  pub cells : d.cells < 2 ^ 32
  pub inputs : AllByRecursion HasPortLine d.inputs
  pub outputs : AllByRecursion HasPortLine d.outputs
  pub cycles : length d.instrs + left < 2 ^ 32
  pub instrs : AllByRecursion (IsRead kind) d.instrs

pub record EndedRead {I : Type 0} (kind : Kind I) (d : Parts I) (read : List ℕ) : Type 0 where
  pub spelled : read ≡ text_of kind d
  pub has_text : HasText kind d

abbrev ReadSo : {I : Type 0} → Kind I → Section → Option (Parts I) → List ℕ → Type 0
ReadSo kind section.First draft read = read ≡ []
ReadSo kind section.Target draft read = (kind.target ≡ None) × (read ≡ kind.first ++ codes "\n")
ReadSo kind (section.Cells target) draft read = CellsRead kind target read
ReadSo kind section.Inputs draft read = MatchOption draft ⊥ (λ d. InputsRead kind d read)
ReadSo kind section.Outputs draft read = MatchOption draft ⊥ (λ d. OutputsRead kind d read)
ReadSo kind (section.Instrs left) draft read = MatchOption draft ⊥ (λ d. InstrsRead kind left d read)
ReadSo kind section.Ended draft read = MatchOption draft ⊥ (λ d. EndedRead kind d read)

abbrev Stands : {I : Type 0} → Kind I → Reading I → List ℕ → Type 0
Stands kind r read = ReadSo kind r.section r.draft read

-- a target that is told is the draft's
pub aimed_is : (t : Option Target) (target : Target) → IsTold t target → aimed t target ≡ target
aimed_is None target h = refl
aimed_is (Some only) target h = sym h

-- what becomes of the first line, by whether a line tells the target
behind_first_stands : {I : Type 0} (kind : Kind I) (t : Option Target) (draft : Option (Parts I)) (read : List ℕ) → kind.target ≡ t → read ≡ kind.first ++ codes "\n" → ReadSo kind (behind_first t) draft read
behind_first_stands kind None draft read e h = (e, h)
behind_first_stands kind (Some only) draft read e h = record {
  spelled = h ∙ sym (append-nil (kind.first ++ codes "\n")) ∙ ap (λ (t : Option Target). (kind.first ++ codes "\n") ++ told_target t only) (sym e);
  told = subst (λ (t : Option Target). IsTold t only) (sym e) refl;
}

module _ {I : Type 0} (kind : Kind I) (laws : OneLine) (is_kind : IsKind kind) where
  first_stands : (read line : List ℕ) (draft : Option (Parts I)) (next : Reading I) → read ≡ [] → after_first kind draft line ≡ Some next → Stands kind next (longer read line)
  first_stands read line draft next h e =
      let made : Reading I = record { section = behind_first kind.target; draft = draft } in
      let tests = cond_some (bytes_eq line kind.first) made next e in
      let line_is : line ≡ kind.first = (bytes_eq-Decides line kind.first).0 tests.0 in
      let so_far : longer read line ≡ kind.first ++ codes "\n" = ap (λ (r : List ℕ). longer r line) h ∙ ap (λ (l : List ℕ). longer [] l) line_is in
      subst (λ (n : Reading I). Stands kind n (longer read line)) tests.1 (behind_first_stands kind kind.target draft (longer read line) refl so_far)

  target_stands : (read line : List ℕ) (draft : Option (Parts I)) (next : Reading I) → ReadSo kind section.Target draft read → after_target draft line ≡ Some next → Stands kind next (longer read line)
  target_stands read line draft next h e =
      let m = mapped (λ (t : Target). let made : Reading I = record { section = section.Cells t; draft = draft } in made) (target_of line) next e in
      let line_is = laws.target line m.0 m.1 in
      let so_far : longer read line ≡ (kind.first ++ codes "\n") ++ told_target None m.0 = ap (λ (r : List ℕ). longer r line) h.1 ∙ ap (λ (l : List ℕ). longer (kind.first ++ codes "\n") l) line_is in
      let stands : CellsRead kind m.0 (longer read line) = record {
        spelled = so_far ∙ ap (λ (t : Option Target). (kind.first ++ codes "\n") ++ told_target t m.0) (sym h.0);
        told = subst (λ (t : Option Target). IsTold t m.0) (sym h.0) tt;
      } in
      subst (λ (n : Reading I). Stands kind n (longer read line)) m.2 stands

  cells_stand : (read line : List ℕ) (target : Target) (next : Reading I) → CellsRead kind target read → after_cells kind any_size target line ≡ Some next → Stands kind next (longer read line)
  cells_stand read line target next h e =
      let m = mapped (λ (n : ℕ). let made : Reading I = record { section = section.Inputs; draft = Some (begun (aimed kind.target target) n) } in made) (counted_of (codes "cells ") line) next e in
      let number = laws.counted (codes "cells ") line m.0 m.1 in
      let so_far : longer read line ≡ head_text kind target m.0 = ap (λ (r : List ℕ). longer r line) h.spelled ∙ ap (λ (l : List ℕ). longer (kind_text kind target) l) number.0 in
      let stands : InputsRead kind (begun target m.0) (longer read line) = record { spelled = so_far ∙ sym (append-nil (head_text kind target m.0)); target = h.told; cells = number.1; inputs = tt; no_outputs = refl; no_instrs = refl } in
      let aimed_so : InputsRead kind (begun (aimed kind.target target) m.0) (longer read line) = subst (λ (t : Target). InputsRead kind (begun t m.0) (longer read line)) (sym (aimed_is kind.target target h.told)) stands in
      subst (λ (n : Reading I). Stands kind n (longer read line)) m.2 aimed_so

  input_stands : (read line : List ℕ) (draft : Option (Parts I)) (next : Reading I) → ReadSo kind section.Inputs draft read → after_input draft line ≡ Some next → Stands kind next (longer read line)
  input_stands read line None next h e = absurd h
  input_stands read line (Some d) next h e =
      let m = mapped (λ (p : Port). let made : Reading I = record { section = section.Inputs; draft = Some (with_input p d) } in made) (port_of (codes "input ") line) next e in
      let port = laws.port (codes "input ") line m.0 m.1 in
      let head = head_text kind d.target d.cells in
      let so_far : longer read line ≡ (head ++ ports_text (codes "input ") d.inputs) ++ port_text (codes "input ") m.0 = ap (λ (r : List ℕ). longer r line) h.spelled ∙ ap (λ (l : List ℕ). longer (head ++ ports_text (codes "input ") d.inputs) l) port.0 in
      let pushed : (head ++ ports_text (codes "input ") d.inputs) ++ port_text (codes "input ") m.0 ≡ head ++ ports_text (codes "input ") (d.inputs ++ m.0 ∷ []) = append_assoc head (ports_text (codes "input ") d.inputs) (port_text (codes "input ") m.0) ∙ ap (λ (t : List ℕ). head ++ t) (sym (ports_text-push (codes "input ") d.inputs m.0)) in
      let stands : InputsRead kind (with_input m.0 d) (longer read line) = record { spelled = so_far ∙ pushed; target = h.target; cells = h.cells; inputs = all_push HasPortLine d.inputs m.0 h.inputs port.1; no_outputs = h.no_outputs; no_instrs = h.no_instrs } in
      subst (λ (n : Reading I). Stands kind n (longer read line)) m.2 stands

  output_stands : (read line : List ℕ) (draft : Option (Parts I)) (next : Reading I) → ReadSo kind section.Outputs draft read → after_output draft line ≡ Some next → Stands kind next (longer read line)
  output_stands read line None next h e = absurd h
  output_stands read line (Some d) next h e =
      let m = mapped (λ (p : Port). let made : Reading I = record { section = section.Outputs; draft = Some (with_output p d) } in made) (port_of (codes "output ") line) next e in
      let port = laws.port (codes "output ") line m.0 m.1 in
      let head = head_text kind d.target d.cells ++ ports_text (codes "input ") d.inputs in
      let so_far : longer read line ≡ (head ++ ports_text (codes "output ") d.outputs) ++ port_text (codes "output ") m.0 = ap (λ (r : List ℕ). longer r line) h.spelled ∙ ap (λ (l : List ℕ). longer (head ++ ports_text (codes "output ") d.outputs) l) port.0 in
      let pushed : (head ++ ports_text (codes "output ") d.outputs) ++ port_text (codes "output ") m.0 ≡ head ++ ports_text (codes "output ") (d.outputs ++ m.0 ∷ []) = append_assoc head (ports_text (codes "output ") d.outputs) (port_text (codes "output ") m.0) ∙ ap (λ (t : List ℕ). head ++ t) (sym (ports_text-push (codes "output ") d.outputs m.0)) in
      let stands : OutputsRead kind (with_output m.0 d) (longer read line) = record { spelled = so_far ∙ pushed; target = h.target; cells = h.cells; inputs = h.inputs; outputs = all_push HasPortLine d.outputs m.0 h.outputs port.1; no_instrs = h.no_instrs } in
      subst (λ (n : Reading I). Stands kind n (longer read line)) m.2 stands

  cycles_stand : (read line : List ℕ) (draft : Option (Parts I)) (next : Reading I) → ReadSo kind section.Outputs draft read → after_cycles draft line ≡ Some next → Stands kind next (longer read line)
  cycles_stand read line None next h e = absurd h
  cycles_stand read line (Some d) next h e =
      let m = mapped (λ (n : ℕ). let made : Reading I = record { section = section.Instrs n; draft = Some d } in made) (counted_of (codes "cycles ") line) next e in
      let number = laws.counted (codes "cycles ") line m.0 m.1 in
      let head = head_text kind d.target d.cells ++ ports_text (codes "input ") d.inputs ++ ports_text (codes "output ") d.outputs in
      let none : length d.instrs ≡ 0 = ap length h.no_instrs in
      let count : length d.instrs + m.0 ≡ m.0 = omega arith in
      let so_far : longer read line ≡ head ++ counted_text (codes "cycles ") m.0 = ap (λ (r : List ℕ). longer r line) h.spelled ∙ ap (λ (l : List ℕ). longer head l) number.0 in
      let counted : head ++ counted_text (codes "cycles ") m.0 ≡ head ++ counted_text (codes "cycles ") (length d.instrs + m.0) = ap (λ (n : ℕ). head ++ counted_text (codes "cycles ") n) (sym count) in
      let closed : head ++ counted_text (codes "cycles ") (length d.instrs + m.0) ≡ head ++ counted_text (codes "cycles ") (length d.instrs + m.0) ++ instrs_text kind.instr_text d.instrs = sym (append-nil (head ++ counted_text (codes "cycles ") (length d.instrs + m.0))) ∙ ap (λ (is : List I). head ++ counted_text (codes "cycles ") (length d.instrs + m.0) ++ instrs_text kind.instr_text is) (sym h.no_instrs) in
      let small : length d.instrs + m.0 < 2 ^ 32 = subst (λ (n : ℕ). n < 2 ^ 32) (sym count) number.1 in
      let stands : InstrsRead kind m.0 d (longer read line) = record { spelled = so_far ∙ counted ∙ closed; target = h.target; cells = h.cells; inputs = h.inputs; outputs = h.outputs; cycles = small; instrs = subst (λ (is : List I). AllByRecursion (IsRead kind) is) (sym h.no_instrs) tt } in
      subst (λ (n : Reading I). Stands kind n (longer read line)) m.2 stands

  end_stands : (read line : List ℕ) (draft : Option (Parts I)) (next : Reading I) → ReadSo kind (section.Instrs 0) draft read → after_end draft line ≡ Some next → Stands kind next (longer read line)
  end_stands read line None next h e = absurd h
  end_stands read line (Some d) next h e =
      let made : Reading I = record { section = section.Ended; draft = Some d } in
      let tests = cond_some (bytes_eq line (codes "end")) made next e in
      let line_is : line ≡ codes "end" = (bytes_eq-Decides line (codes "end")).0 tests.0 in
      let head = head_text kind d.target d.cells ++ ports_text (codes "input ") d.inputs ++ ports_text (codes "output ") d.outputs in
      let count : length d.instrs + 0 ≡ length d.instrs = add-zero (length d.instrs) in
      let so_far : longer read line ≡ head ++ counted_text (codes "cycles ") (length d.instrs + 0) ++ instrs_text kind.instr_text d.instrs ++ codes "end\n" = ap (λ (r : List ℕ). longer r line) h.spelled ∙ ap (λ (l : List ℕ). longer (head ++ counted_text (codes "cycles ") (length d.instrs + 0) ++ instrs_text kind.instr_text d.instrs) l) line_is in
      let whole : head ++ counted_text (codes "cycles ") (length d.instrs + 0) ++ instrs_text kind.instr_text d.instrs ++ codes "end\n" ≡ text_of kind d = ap (λ (n : ℕ). head ++ counted_text (codes "cycles ") n ++ instrs_text kind.instr_text d.instrs ++ codes "end\n") count in
      let small : length d.instrs < 2 ^ 32 = subst (λ (n : ℕ). n < 2 ^ 32) count h.cycles in
      let stands : EndedRead kind d (longer read line) = record { spelled = so_far ∙ whole; has_text = record { target = h.target; cells = h.cells; inputs = h.inputs; outputs = h.outputs; cycles = small; instrs = h.instrs } } in
      subst (λ (n : Reading I). Stands kind n (longer read line)) tests.1 stands

  instr_stands : (read line : List ℕ) (left : ℕ) (draft : Option (Parts I)) (next : Reading I) → 0 < left → ReadSo kind (section.Instrs left) draft read → option_map (λ i. record { section = section.Instrs (left - 1); draft = option_map (with_instr i) draft }) (kind.instr_of line) ≡ Some next → Stands kind next (longer read line)
  instr_stands read line left None next some h e = absurd h
  instr_stands read line left (Some d) next some h e =
      let m = mapped (λ (i : I). let made : Reading I = record { section = section.Instrs (left - 1); draft = Some (with_instr i d) } in made) (kind.instr_of line) next e in
      let i = m.0 in
      let line_is : line ≡ kind.instr_text i = is_kind.one line i m.1 in
      let is_read : IsRead kind i = ap kind.instr_of (sym line_is) ∙ m.1 in
      let head = head_text kind d.target d.cells ++ ports_text (codes "input ") d.inputs ++ ports_text (codes "output ") d.outputs in
      let n = length d.instrs + left in
      let count : n ≡ length (d.instrs ++ i ∷ []) + (left - 1) = omega (arith, length_push d.instrs i) in
      let so_far : longer read line ≡ (head ++ counted_text (codes "cycles ") n ++ instrs_text kind.instr_text d.instrs) ++ (kind.instr_text i ++ codes "\n") = ap (λ (r : List ℕ). longer r line) h.spelled ∙ ap (λ (l : List ℕ). longer (head ++ counted_text (codes "cycles ") n ++ instrs_text kind.instr_text d.instrs) l) line_is in
      let pushed : (head ++ counted_text (codes "cycles ") n ++ instrs_text kind.instr_text d.instrs) ++ (kind.instr_text i ++ codes "\n") ≡ head ++ counted_text (codes "cycles ") n ++ instrs_text kind.instr_text (d.instrs ++ i ∷ []) = append_assoc (head ++ counted_text (codes "cycles ") n) (instrs_text kind.instr_text d.instrs) (kind.instr_text i ++ codes "\n") ∙ ap (λ (t : List ℕ). head ++ counted_text (codes "cycles ") n ++ t) (sym (instrs_text-push kind.instr_text d.instrs i)) in
      let counted : head ++ counted_text (codes "cycles ") n ++ instrs_text kind.instr_text (d.instrs ++ i ∷ []) ≡ head ++ counted_text (codes "cycles ") (length (d.instrs ++ i ∷ []) + (left - 1)) ++ instrs_text kind.instr_text (d.instrs ++ i ∷ []) = ap (λ (k : ℕ). head ++ counted_text (codes "cycles ") k ++ instrs_text kind.instr_text (d.instrs ++ i ∷ [])) count in
      let small : length (d.instrs ++ i ∷ []) + (left - 1) < 2 ^ 32 = subst (λ (k : ℕ). k < 2 ^ 32) count h.cycles in
      let stands : InstrsRead kind (left - 1) (with_instr i d) (longer read line) = record { spelled = so_far ∙ pushed ∙ counted; target = h.target; cells = h.cells; inputs = h.inputs; outputs = h.outputs; cycles = small; instrs = all_push (IsRead kind) d.instrs i h.instrs is_read } in
      subst (λ (k : Reading I). Stands kind k (longer read line)) m.2 stands

  instrs_stand : (read line : List ℕ) (zero_left : Bool) (left : ℕ) (draft : Option (Parts I)) (next : Reading I) → eqb left 0 ≡ zero_left → ReadSo kind (section.Instrs left) draft read
      → cond zero_left (after_end draft line) (option_map (λ i. record { section = section.Instrs (left - 1); draft = option_map (with_instr i) draft }) (kind.instr_of line)) ≡ Some next → Stands kind next (longer read line)
  instrs_stand read line true left draft next z h e =
      let none : left ≡ 0 = eqb-true left 0 z in
      end_stands read line draft next (subst (λ (k : ℕ). ReadSo kind (section.Instrs k) draft read) none h) e
  instrs_stand read line false left draft next z h e =
      let some : left ≡ 0 → ⊥ = eqb-false left 0 z in
      instr_stands read line left draft next (omega arith) h e

  outputs_stand : (read line : List ℕ) (draft : Option (Parts I)) (next : Reading I) → ReadSo kind section.Outputs draft read → after_outputs draft line ≡ Some next → Stands kind next (longer read line)
  outputs_stand read line draft next h e =
      elim (or_is (after_output draft line) (after_cycles draft line) next e) [
        | inl output ↦ output_stands read line draft next h output
        | inr cycles ↦ cycles_stand read line draft next h cycles
      ]

  -- behind the inputs the outputs begin
  no_outputs_yet : (read : List ℕ) (draft : Option (Parts I)) → ReadSo kind section.Inputs draft read → ReadSo kind section.Outputs draft read
  no_outputs_yet read None h = h
  no_outputs_yet read (Some d) h =
      let head = head_text kind d.target d.cells ++ ports_text (codes "input ") d.inputs in
      record {
        spelled = h.spelled ∙ sym (append-nil head) ∙ ap (λ (ps : List Port). head ++ ports_text (codes "output ") ps) (sym h.no_outputs);
        target = h.target;
        cells = h.cells;
        inputs = h.inputs;
        outputs = subst (λ (ps : List Port). AllByRecursion HasPortLine ps) (sym h.no_outputs) tt;
        no_instrs = h.no_instrs;
      }

  inputs_stand : (read line : List ℕ) (draft : Option (Parts I)) (next : Reading I) → ReadSo kind section.Inputs draft read → after_inputs draft line ≡ Some next → Stands kind next (longer read line)
  inputs_stand read line draft next h e =
      elim (or_is (after_input draft line) (after_outputs draft line) next e) [
        | inl input ↦ input_stands read line draft next h input
        | inr outputs ↦ outputs_stand read line draft next (no_outputs_yet read draft h) outputs
      ]

  -- one more line that is right
  line_stands : (s : Section) (draft : Option (Parts I)) (read line : List ℕ) (next : Reading I) → ReadSo kind s draft read → after_in kind any_size s draft line ≡ Some next → Stands kind next (longer read line)
  line_stands section.First draft read line next h e = first_stands read line draft next h e
  line_stands section.Target draft read line next h e = target_stands read line draft next h e
  line_stands (section.Cells target) draft read line next h e = cells_stand read line target next h e
  line_stands section.Inputs draft read line next h e = inputs_stand read line draft next h e
  line_stands section.Outputs draft read line next h e = outputs_stand read line draft next h e
  line_stands (section.Instrs left) draft read line next h e = instrs_stand read line (eqb left 0) left draft next refl h e
  line_stands section.Ended draft read line next h e = absurd cc

-- the bytes of lines

abbrev line_bytes : LineView → List ℕ
line_bytes line = line.text ++ cond line.ended (codes "\n") []

abbrev joined : List LineView → List ℕ
joined [] = []
joined (line ∷ others) = line_bytes line ++ joined others

joined-last : (number place : ℕ) (run : List ℕ) → joined (last_line number place run) ≡ run
joined-last number place [] = refl
joined-last number place (b ∷ run) = append-nil ((b ∷ run) ++ []) ∙ append-nil (b ∷ run)

joined-lines : (number place : ℕ) (run bytes : List ℕ) → joined (lines_after number place run bytes) ≡ run ++ bytes
joined-lines number place run [] = joined-last number place run ∙ sym (append-nil run)
joined-lines number place run (b ∷ bytes) = by_newline (is_newline b) refl (joined-lines (number + 1) (place + length run + 1) [] bytes) (joined-lines number place (run ++ b ∷ []) bytes)
  where
    by_newline : (t : Bool) → is_newline b ≡ t → joined (lines_after (number + 1) (place + length run + 1) [] bytes) ≡ bytes → joined (lines_after number place (run ++ b ∷ []) bytes) ≡ (run ++ b ∷ []) ++ bytes
        → joined (cond t (record { number = number; start = place; text = run; ended = true } ∷ lines_after (number + 1) (place + length run + 1) [] bytes) (lines_after number place (run ++ b ∷ []) bytes)) ≡ run ++ b ∷ bytes
    by_newline true t others same =
        let b_is : b ≡ 10 = eqb-true b 10 t in
        ap (λ (r : List ℕ). (run ++ codes "\n") ++ r) others ∙ append_assoc run (codes "\n") bytes ∙ ap (λ (c : ℕ). run ++ c ∷ bytes) (sym b_is)
    by_newline false t others same = same ∙ append_assoc run (b ∷ []) bytes

-- behind the end no line may follow
nothing_follows : {I : Type 0} (kind : Kind I) (s : Section) (draft : Option (Parts I)) (line : List ℕ) → is_ended s ≡ true → after_in kind any_size s draft line ≡ None
nothing_follows kind section.First draft line e = absurd cc
nothing_follows kind section.Target draft line e = absurd cc
nothing_follows kind (section.Cells target) draft line e = absurd cc
nothing_follows kind section.Inputs draft line e = absurd cc
nothing_follows kind section.Outputs draft line e = absurd cc
nothing_follows kind (section.Instrs left) draft line e = absurd cc
nothing_follows kind section.Ended draft line e = refl

-- a line that is read has a newline, and is right
line_read_is : {I : Type 0} (kind : Kind I) (r : Reading I) (line : LineView) (next : Reading I) → line_read kind any_size r line ≡ Ok next → (line.ended ≡ true) × (after kind any_size r line.text ≡ Some next)
line_read_is kind r line next e = judged_line line.ended (is_ended r.section) (after kind any_size r line.text) (faults.Line line.number) faults.Truncated next (nothing_follows kind r.section r.draft line.text) e

end_is : {I : Type 0} (kind : Kind I) (s : Section) (draft : Option (Parts I)) (read : List ℕ) (d : Parts I) → ReadSo kind s draft read → cond (is_ended s) (ok_or draft faults.TooLarge) (Err faults.Truncated) ≡ Ok d → EndedRead kind d read
end_is kind section.First draft read d h e = absurd cc
end_is kind section.Target draft read d h e = absurd cc
end_is kind (section.Cells target) draft read d h e = absurd cc
end_is kind section.Inputs draft read d h e = absurd cc
end_is kind section.Outputs draft read d h e = absurd cc
end_is kind (section.Instrs left) draft read d h e = absurd cc
end_is kind section.Ended None read d h e = absurd h
end_is kind section.Ended (Some x) read d h e = subst (λ y. EndedRead kind y read) (ok_is {E = TextFault} x d e) h

module _ {I : Type 0} (kind : Kind I) (laws : OneLine) (is_kind : IsKind kind) where
  all_read : (r : Reading I) (ls : List LineView) (read : List ℕ) (d : Parts I) → Stands kind r read → read_from kind any_size r ls ≡ Ok d → EndedRead kind d (read ++ joined ls)
  all_read r [] read d h e = subst (λ (t : List ℕ). EndedRead kind d t) (sym (append-nil read)) (end_is kind r.section r.draft read d h e)
  all_read r (line ∷ others) read d h e =
      let b = bind_ok (line_read kind any_size r line) (λ next. read_from kind any_size next others) d e in
      let right = line_read_is kind r line b.0 b.1 in
      let stands = line_stands kind laws is_kind r.section r.draft read line.text b.0 h right.1 in
      let rest = all_read b.0 others (longer read line.text) d stands b.2 in
      let bytes_are : line_bytes line ≡ line.text ++ codes "\n" = ap (λ (t : Bool). line.text ++ cond t (codes "\n") []) right.0 in
      let regrouped : longer read line.text ++ joined others ≡ read ++ (line_bytes line ++ joined others) = append_assoc read (line.text ++ codes "\n") (joined others) ∙ ap (λ (t : List ℕ). read ++ (t ++ joined others)) (sym bytes_are) in
      subst (λ (t : List ℕ). EndedRead kind d t) regrouped rest

  -- what is read is its text
  pub parts_are : (bytes : List ℕ) (d : Parts I) → parts_of kind bytes ≡ Ok d → (bytes ≡ text_of kind d) × HasText kind d
  unfolding parts_of
  parts_are bytes d e =
      let h = all_read start (lines bytes) [] d refl e in
      let whole : joined (lines bytes) ≡ bytes = joined-lines 1 0 [] bytes in
      (sym whole ∙ h.spelled, h.has_text)
