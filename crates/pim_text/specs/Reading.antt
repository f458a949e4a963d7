-- Reading the lines of a program's text of any kind. They stand in this order: the first line, the target where the kind has
-- several, the cells, the inputs, the outputs, the number of cycles, as many instructions, and `end`.
use Rattle.std.specs.Prelude.{◌≡◌, ℕ, ◌<◌, length, take, ◌-◌, ◌==◌, ◌||◌, nat_lt, Bool, true, false, if◌then◌else◌, List, [], ◌∷◌, ◌++◌, codes, Option, Some, None, option_map, Result, Ok, Err}
use Rattle.std.specs.Option.{option_or, ok_or}
use Rattle.std.specs.Str.{bytes_eq}
use Rattle.pim_io.specs.Lines.{LineView, lines}
use Rattle.pim_io.specs.Readings.{◌>>=◌}
use Rattle.pim_isa.specs.declared.draft.TheConstants.{MAX_CELLS}
use Rattle.pim_isa.specs.declared.port.Port.{Port}
use Rattle.pim_isa.specs.declared.target.Target.{Target}
use Rattle.pim_text.specs.declared.fault.TextFault.{TextFault}
use Rattle.pim_text.specs.declared.fault.TextFault.TheVariants as faults
use Rattle.pim_text.specs.declared.section.Section.{Section}
use Rattle.pim_text.specs.declared.section.Section.TheVariants as section
use Rattle.pim_text.specs.LineForms.{target_of, counted_of, port_of}
use Rattle.pim_text.specs.Parts.{Kind, Parts, HasText, text}

-- how far a text is read: which lines may come next, and the draft, which begins once the number of cells is told
pub record Reading (I : Type 0) : Type 0 where
  pub section : Section
  pub draft : Option (Parts I)

-- nothing is read
abbrev pub start : {I : Type 0} → Reading I
start = record { section = section.First; draft = None }

-- a draft without ports and instructions
abbrev pub begun : {I : Type 0} → Target → ℕ → Parts I
begun target cells = record { target = target; cells = cells; inputs = []; outputs = []; instrs = [] }

-- a draft with one more input
abbrev pub with_input : {I : Type 0} → Port → Parts I → Parts I
with_input port d = record d { inputs = d.inputs ++ port ∷ [] }

-- a draft with one more output
abbrev pub with_output : {I : Type 0} → Port → Parts I → Parts I
with_output port d = record d { outputs = d.outputs ++ port ∷ [] }

-- a draft with one more instruction
abbrev pub with_instr : {I : Type 0} → I → Parts I → Parts I
with_instr instr d = record d { instrs = d.instrs ++ instr ∷ [] }

-- the target of a draft: that of all programs of the kind, or else the one that is told
abbrev pub aimed : Option Target → Target → Target
aimed None told = told
aimed (Some only) told = only

-- behind the first line the target follows, or the cells where all programs of the kind are for this target
abbrev pub behind_first : Option Target → Section
behind_first None = section.Target
behind_first (Some only) = section.Cells only

-- the first line is right where the text begins
abbrev pub after_first : {I : Type 0} → Kind I → Option (Parts I) → List ℕ → Option (Reading I)
after_first kind draft line =
    if bytes_eq line kind.first then Some (record { section = behind_first kind.target; draft = draft }) else None

-- the line of a target is right behind the first line, where it is told
abbrev pub after_target : {I : Type 0} → Option (Parts I) → List ℕ → Option (Reading I)
after_target draft line = option_map (λ target. record { section = section.Cells target; draft = draft }) (target_of line)

-- the line of the cells is right behind the target; `keep` is what becomes of the draft that begins there
abbrev pub after_cells : {I : Type 0} → Kind I → (Parts I → Option (Parts I)) → Target → List ℕ → Option (Reading I)
after_cells kind keep told line =
    option_map (λ cells. record { section = section.Inputs; draft = keep (begun (aimed kind.target told) cells) }) (counted_of (codes "cells ") line)

-- the line of an input
abbrev pub after_input : {I : Type 0} → Option (Parts I) → List ℕ → Option (Reading I)
after_input draft line =
    option_map (λ port. record { section = section.Inputs; draft = option_map (with_input port) draft }) (port_of (codes "input ") line)

-- the line of an output
abbrev pub after_output : {I : Type 0} → Option (Parts I) → List ℕ → Option (Reading I)
after_output draft line =
    option_map (λ port. record { section = section.Outputs; draft = option_map (with_output port) draft }) (port_of (codes "output ") line)

-- the line of the cycles, as many as instructions follow
abbrev pub after_cycles : {I : Type 0} → Option (Parts I) → List ℕ → Option (Reading I)
after_cycles draft line =
    option_map (λ cycles. record { section = section.Instrs cycles; draft = draft }) (counted_of (codes "cycles ") line)

-- behind an output a further output or the cycles are right
abbrev pub after_outputs : {I : Type 0} → Option (Parts I) → List ℕ → Option (Reading I)
after_outputs draft line = option_or (after_output draft line) (after_cycles draft line)

-- behind the cells and behind an input a further input is right too
abbrev pub after_inputs : {I : Type 0} → Option (Parts I) → List ℕ → Option (Reading I)
after_inputs draft line = option_or (after_input draft line) (after_outputs draft line)

-- the last line
abbrev pub after_end : {I : Type 0} → Option (Parts I) → List ℕ → Option (Reading I)
after_end draft line =
    if bytes_eq line (codes "end") then Some (record { section = section.Ended; draft = draft }) else None

-- an instruction is right while some are left, and then `end`
abbrev pub after_instrs : {I : Type 0} → Kind I → ℕ → Option (Parts I) → List ℕ → Option (Reading I)
after_instrs kind left draft line =
    if left == 0
    then after_end draft line
    else option_map (λ instr. record { section = section.Instrs (left - 1); draft = option_map (with_instr instr) draft }) (kind.instr_of line)

-- how far a text is read after one more line, if that line is right by what may come next; nothing is right behind `end`
abbrev pub after_in : {I : Type 0} → Kind I → (Parts I → Option (Parts I)) → Section → Option (Parts I) → List ℕ → Option (Reading I)
after_in kind keep section.First draft line = after_first kind draft line
after_in kind keep section.Target draft line = after_target draft line
after_in kind keep (section.Cells told) draft line = after_cells kind keep told line
after_in kind keep section.Inputs draft line = after_inputs draft line
after_in kind keep section.Outputs draft line = after_outputs draft line
after_in kind keep (section.Instrs left) draft line = after_instrs kind left draft line
after_in kind keep section.Ended draft line = None

-- the same behind a reading
abbrev pub after : {I : Type 0} → Kind I → (Parts I → Option (Parts I)) → Reading I → List ℕ → Option (Reading I)
after kind keep r line = after_in kind keep r.section r.draft line

-- `end` was read
abbrev pub is_ended : Section → Bool
is_ended section.First = false
is_ended section.Target = false
is_ended (section.Cells target) = false
is_ended section.Inputs = false
is_ended section.Outputs = false
is_ended (section.Instrs left) = false
is_ended section.Ended = true

-- one more line; a last piece without a newline is judged only behind `end`, where nothing may follow
abbrev pub line_read : {I : Type 0} → Kind I → (Parts I → Option (Parts I)) → Reading I → LineView → Result (Reading I) TextFault
line_read kind keep r line =
    if line.ended || is_ended r.section then ok_or (after kind keep r line.text) (faults.Line line.number) else Err faults.Truncated

-- the draft at the end of the lines, where `end` was read
abbrev pub finished : {I : Type 0} → Reading I → Result (Parts I) TextFault
finished r = if is_ended r.section then ok_or r.draft faults.TooLarge else Err faults.Truncated

-- the draft that these further lines lead to
abbrev pub read_from : {I : Type 0} → Kind I → (Parts I → Option (Parts I)) → Reading I → List LineView → Result (Parts I) TextFault
read_from kind keep r [] = finished r
read_from kind keep r (line ∷ others) = line_read kind keep r line >>= λ next. read_from kind keep next others

-- a draft of as many cells as it says
abbrev pub any_size : {I : Type 0} → Parts I → Option (Parts I)
any_size draft = Some draft

-- the draft that bytes are the text of, or their first fault: a line that is wrong, else that `end` is missing
unfoldable pub parts_of : {I : Type 0} → Kind I → List ℕ → Result (Parts I) TextFault
parts_of kind bytes = read_from kind any_size start (lines bytes)

-- a draft that has no more cells than a program may have
abbrev pub sized : {I : Type 0} → Parts I → Result (Parts I) TextFault
sized draft = if nat_lt MAX_CELLS draft.cells then Err faults.TooLarge else Ok draft

-- the same, unless the draft has too many cells
abbrev pub sized_parts_of : {I : Type 0} → Kind I → List ℕ → Result (Parts I) TextFault
sized_parts_of kind bytes = parts_of kind bytes >>= sized

-- Laws of the texts of a kind: what is read is its text, a text is read as its parts, and a front of it as cut off.
pub record TextLaws {I : Type 0} (kind : Kind I) : Type 0 where
  pub one : (bytes : List ℕ) (p : Parts I) → parts_of kind bytes ≡ Ok p → (bytes ≡ text kind p) × HasText kind p
  pub read : (p : Parts I) → HasText kind p → parts_of kind (text kind p) ≡ Ok p
  pub cut : (p : Parts I) (k : ℕ) → HasText kind p → k < length (text kind p) → parts_of kind (take k (text kind p)) ≡ Err faults.Truncated
