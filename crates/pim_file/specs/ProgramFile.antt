-- Which program a file is, or its first fault: a line that is wrong, else that `end` is missing, else too many cells, else
-- what makes the program invalid.
use Rattle.std.specs.Prelude.{nat_lt, if◌then◌else◌, List, ℕ, Option, Some, None, Result, Ok, Err}
use Rattle.pim_io.specs.Readings.{◌>>=◌}
use Rattle.pim_isa.specs.Programs.{ProgramView}
use Rattle.pim_isa.specs.Validity.{fault_of}
use Rattle.pim_isa.specs.declared.draft.TheConstants.{MAX_CELLS}
use Rattle.pim_isa.specs.declared.instr.Instr.{Instr}
use Rattle.pim_isa.specs.declared.invalid.Invalid.{Invalid}
use Rattle.pim_text.specs.Parts.{Parts}
use Rattle.pim_text.specs.ProgramTexts.{program_kind, parts_program}
use Rattle.pim_text.specs.Reading.{parts_of}
use Rattle.pim_text.specs.declared.fault.TextFault.{TextFault}
use Rattle.pim_text.specs.declared.fault.TextFault.TheVariants as texts
use Rattle.pim_file.specs.declared.fault.FileFault.{FileFault}
use Rattle.pim_file.specs.declared.fault.FileFault.TheVariants as faults

-- the fault of a file whose text has this fault
abbrev pub file_fault : TextFault → FileFault
file_fault (texts.Line n) = faults.Line n
file_fault texts.TooLarge = faults.TooLarge
file_fault texts.Truncated = faults.Truncated
file_fault texts.NoMemory = faults.NoMemory

-- the draft of a file whose text gives these parts
abbrev pub file_draft : Result (Parts Instr) TextFault → Result ProgramView FileFault
file_draft (Ok parts) = Ok (parts_program parts)
file_draft (Err fault) = Err (file_fault fault)

-- the draft that a file is the text of
unfoldable pub draft_of : List ℕ → Result ProgramView FileFault
draft_of bytes = file_draft (parts_of program_kind bytes)

-- a draft that has this fault, or none
abbrev pub with_fault : ProgramView → Option Invalid → Result ProgramView FileFault
with_fault draft None = Ok draft
with_fault draft (Some invalid) = Err (faults.Invalid invalid)

-- the program of a draft that has no fault
abbrev pub validated : ProgramView → Result ProgramView FileFault
validated draft = with_fault draft (fault_of draft)

-- a draft that has no more cells than a program may have
abbrev pub sized : ProgramView → Result ProgramView FileFault
sized draft = if nat_lt MAX_CELLS draft.cells then Err faults.TooLarge else Ok draft

-- the draft that a file is the text of, unless it has too many cells
abbrev pub sized_draft_of : List ℕ → Result ProgramView FileFault
sized_draft_of bytes = draft_of bytes >>= sized

-- the program that a file is the text of
unfoldable pub parse1_of : List ℕ → Result ProgramView FileFault
parse1_of bytes = sized_draft_of bytes >>= validated
