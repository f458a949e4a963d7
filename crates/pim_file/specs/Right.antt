-- Which lines of a program file are right: each by the last line before it and, once the number of cycles has stood, by how
-- many lines have followed that one. The lines before a line are listed with the last one first.
use Rattle.std.specs.Prelude.{ℕ, ◌+◌, ◌==◌, ◌&&◌, ◌||◌, not, nat_lt, Bool, true, false, if◌then◌else◌, List, [], ◌∷◌, codes, Option, Some, None, option_map, is_some, Result, Ok, Err}
use Rattle.std.specs.Str.{bytes_eq}
use Rattle.pim_io.specs.Lines.{LineView}
use Rattle.pim_isa.specs.Programs.{ProgramView}
use Rattle.pim_file.specs.declared.fault.FileFault.{FileFault}
use Rattle.pim_file.specs.declared.fault.FileFault.TheVariants as faults
use Rattle.pim_text.specs.LineForms.{target_of, counted_of, port_of}
use Rattle.pim_text.specs.InstrForms.{instr_of}

-- the first line
abbrev pub is_form : List ℕ → Bool
is_form line = bytes_eq line (codes "pim 1")

-- the line of a target
abbrev pub is_target : List ℕ → Bool
is_target line = is_some (target_of line)

-- the line of the number of cells
abbrev pub is_cells : List ℕ → Bool
is_cells line = is_some (counted_of (codes "cells ") line)

-- the line of an input
abbrev pub is_input : List ℕ → Bool
is_input line = is_some (port_of (codes "input ") line)

-- the line of an output
abbrev pub is_output : List ℕ → Bool
is_output line = is_some (port_of (codes "output ") line)

-- the line of the number of cycles
abbrev pub is_cycles : List ℕ → Bool
is_cycles line = is_some (counted_of (codes "cycles ") line)

-- the line of an instruction
abbrev pub is_instr : List ℕ → Bool
is_instr line = is_some (instr_of line)

-- the last line
abbrev pub is_end : List ℕ → Bool
is_end line = bytes_eq line (codes "end")

-- a number of cycles and how many lines have followed it, with one more line, which may say another number
abbrev pub cycles_and_more : Option ℕ → Option (ℕ × ℕ) → Option (ℕ × ℕ)
cycles_and_more (Some cycles) others = Some (cycles, 0)
cycles_and_more None others = option_map (λ c. (c.0, c.1 + 1)) others

-- the number on the last line of cycles, and how many lines have followed that line
abbrev pub cycles_before : List (List ℕ) → Option (ℕ × ℕ)
cycles_before [] = None
cycles_before (last ∷ others) = cycles_and_more (counted_of (codes "cycles ") last) (cycles_before others)

-- behind the number of cycles as many instructions are right, and then `end`
abbrev pub right_in_body : Option (ℕ × ℕ) → List ℕ → Bool
right_in_body None line = false
right_in_body (Some c) line = if nat_lt c.1 c.0 then is_instr line else (c.1 == c.0) && is_end line

-- the line may stand behind these lines
abbrev pub right : List (List ℕ) → List ℕ → Bool
right [] line = is_form line
right (last ∷ others) line =
    if is_form last then is_target line
    else (if is_target last then is_cells line
    else (if is_cells last || is_input last then is_input line || (is_output line || is_cycles line)
    else (if is_output last then is_output line || is_cycles line
    else right_in_body (cycles_before (last ∷ others)) line)))

-- the last of these lines is `end`
abbrev pub is_complete : List (List ℕ) → Bool
is_complete [] = false
is_complete (last ∷ others) = is_end last

-- the number of the first line that is wrong behind these lines; a last piece without a newline is wrong only behind `end`
abbrev pub first_wrong : List (List ℕ) → List LineView → Option ℕ
first_wrong before [] = None
first_wrong before (line ∷ others) =
    if line.ended
    then (if right before line.text then first_wrong (line.text ∷ before) others else Some line.number)
    else (if is_complete before then Some line.number else None)

-- no line is wrong, and `end` is missing
abbrev pub is_cut_off : List (List ℕ) → List LineView → Bool
is_cut_off before [] = not (is_complete before)
is_cut_off before (line ∷ others) =
    if line.ended then right before line.text && is_cut_off (line.text ∷ before) others else not (is_complete before)

-- the wrong line that a reading ends with
abbrev pub wrong_line : Result ProgramView FileFault → Option ℕ
wrong_line (Ok program) = None
wrong_line (Err (faults.Line n)) = Some n
wrong_line (Err (faults.Invalid invalid)) = None
wrong_line (Err faults.TooLarge) = None
wrong_line (Err faults.Truncated) = None
wrong_line (Err (faults.Byte place)) = None
wrong_line (Err faults.NoMemory) = None

-- a reading ends too early
abbrev pub is_truncated : Result ProgramView FileFault → Bool
is_truncated (Ok program) = false
is_truncated (Err (faults.Line n)) = false
is_truncated (Err (faults.Invalid invalid)) = false
is_truncated (Err faults.TooLarge) = false
is_truncated (Err faults.Truncated) = true
is_truncated (Err (faults.Byte place)) = false
is_truncated (Err faults.NoMemory) = false
