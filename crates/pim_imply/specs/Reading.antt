-- Which program of the IMPLY machine a text is of. Its lines stand in this order: `imply 1`, the cells, the inputs, the outputs, the
-- number of cycles, as many instructions, and `end`.
use Rattle.std.specs.Prelude.{ℕ, List, codes, Option, Some, None, Result, Ok, Err}
use Rattle.pim_io.specs.Readings.{◌>>=◌}
use Rattle.pim_isa.specs.declared.target.Target.TheVariants.{Plim}
use Rattle.pim_text.specs.Parts.{Kind, Parts}
use Rattle.pim_text.specs.Reading.{sized_parts_of}
use Rattle.pim_text.specs.declared.fault.TextFault.{TextFault}
use Rattle.pim_text.specs.declared.fault.TextFault.TheVariants as texts
use Rattle.pim_imply.specs.declared.fault.ImplyFault.{ImplyFault}
use Rattle.pim_imply.specs.declared.fault.ImplyFault.TheVariants as faults
use Rattle.pim_imply.specs.declared.instr.ImplyInstr.{ImplyInstr}
use Rattle.pim_imply.specs.declared.invalid.ImplyInvalid.{ImplyInvalid}
use Rattle.pim_imply.specs.Lines.{instr_of}
use Rattle.pim_imply.specs.Programs.{ImplyView}
use Rattle.pim_imply.specs.Text.{imply_text}
use Rattle.pim_imply.specs.Validity.{fault_of}

-- the kind of text: no line tells a target, so that any may stand for it
abbrev pub imply_kind : Kind ImplyInstr
imply_kind = record { first = codes "imply 1"; target = Some Plim; instr_text = imply_text; instr_of = instr_of }

-- the parts of a draft
abbrev pub imply_parts : ImplyView → Parts ImplyInstr
imply_parts d = record { target = Plim; cells = d.cells; inputs = d.inputs; outputs = d.outputs; instrs = d.instrs }

-- the draft of parts
abbrev pub parts_imply : Parts ImplyInstr → ImplyView
parts_imply p = record { cells = p.cells; inputs = p.inputs; outputs = p.outputs; instrs = p.instrs }

-- the fault of a program whose text has this fault
abbrev pub imply_fault : TextFault → ImplyFault
imply_fault (texts.Line n) = faults.Line n
imply_fault texts.TooLarge = faults.TooLarge
imply_fault texts.Truncated = faults.Truncated
imply_fault texts.NoMemory = faults.NoMemory

-- the draft of a text that gives these parts
abbrev pub imply_draft : Result (Parts ImplyInstr) TextFault → Result ImplyView ImplyFault
imply_draft (Ok parts) = Ok (parts_imply parts)
imply_draft (Err fault) = Err (imply_fault fault)

-- the draft that bytes are the text of
unfoldable pub draft_of : List ℕ → Result ImplyView ImplyFault
draft_of bytes = imply_draft (sized_parts_of imply_kind bytes)

-- a draft that has this fault, or none
abbrev pub with_fault : ImplyView → Option ImplyInvalid → Result ImplyView ImplyFault
with_fault draft None = Ok draft
with_fault draft (Some invalid) = Err (faults.Invalid invalid)

-- the program of a draft that has no fault
abbrev pub validated : ImplyView → Result ImplyView ImplyFault
validated draft = with_fault draft (fault_of draft)

-- the program that bytes are the text of, or their first fault: a line that is wrong, else that `end` is missing, else too many
-- cells, else what makes the program invalid
unfoldable pub imply_of : List ℕ → Result ImplyView ImplyFault
imply_of bytes = draft_of bytes >>= validated
