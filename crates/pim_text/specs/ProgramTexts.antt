-- The kind of text of a program for MAGIC or PLiM, and such a program as the parts that its text tells.
use Rattle.std.specs.Prelude.{codes, None}
use Rattle.pim_isa.specs.Programs.{ProgramView}
use Rattle.pim_isa.specs.declared.instr.Instr.{Instr}
use Rattle.pim_text.specs.InstrForms.{instr_of}
use Rattle.pim_text.specs.Parts.{Kind, Parts}
use Rattle.pim_text.specs.Text.{instr_text}

-- the kind: a line tells the target
abbrev pub program_kind : Kind Instr
program_kind = record { first = codes "pim 1"; target = None; instr_text = instr_text; instr_of = instr_of }

-- the parts of a draft
abbrev pub program_parts : ProgramView → Parts Instr
program_parts d = record { target = d.target; cells = d.cells; inputs = d.inputs; outputs = d.outputs; instrs = d.instrs }

-- the draft of parts
abbrev pub parts_program : Parts Instr → ProgramView
parts_program p = record { target = p.target; cells = p.cells; inputs = p.inputs; outputs = p.outputs; instrs = p.instrs }
