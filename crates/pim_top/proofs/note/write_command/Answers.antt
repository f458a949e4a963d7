use Rattle.std.proofs.Common.{◌∙◌, List, ℕ, codes, subst}
use Rattle.pim_top.specs.Notes.{debug_line}
use Rattle.pim_top.specs.inner.Writing.{WroteLine}
use Rattle.pim_top.proofs.note.write_command.Goals as goal

pub returns-in-NoSuchBreak : goal.returns-in-NoSuchBreak
returns-in-NoSuchBreak g c =
    let F : List ℕ → Type 0 = λ d. WroteLine g.E.Sink.taken g.E.Sink.faults c.args.notes.now c.write_debug_line-in-NoSuchBreak.new.notes (debug_line c.args.line (codes ": no such break ") d) c.write_debug_line-in-NoSuchBreak.result in
    rw c.in-NoSuchBreak.is (subst F (c.as_bytes-number.ensures.value ∙ c.format.ensures.text) c.write_debug_line-in-NoSuchBreak.ensures)

pub returns-in-OutOfProgram : goal.returns-in-OutOfProgram
returns-in-OutOfProgram g c =
    let F : List ℕ → Type 0 = λ d. WroteLine g.E.Sink.taken g.E.Sink.faults c.args.notes.now c.write_debug_line-in-OutOfProgram.new.notes (debug_line c.args.line (codes ": out of program ") d) c.write_debug_line-in-OutOfProgram.result in
    rw c.in-OutOfProgram.is (subst F (c.as_bytes-at.ensures.value ∙ c.format-in-OutOfProgram.ensures.text) c.write_debug_line-in-OutOfProgram.ensures)

pub returns-in-NoSuchCell : goal.returns-in-NoSuchCell
returns-in-NoSuchCell g c =
    let F : List ℕ → Type 0 = λ d. WroteLine g.E.Sink.taken g.E.Sink.faults c.args.notes.now c.write_debug_line-in-NoSuchCell.new.notes (debug_line c.args.line (codes ": no such cell ") d) c.write_debug_line-in-NoSuchCell.result in
    rw c.in-NoSuchCell.is (subst F (c.as_bytes-cell.ensures.value ∙ c.format-in-NoSuchCell.ensures.text) c.write_debug_line-in-NoSuchCell.ensures)

pub returns-in-NoMemory : goal.returns-in-NoMemory
returns-in-NoMemory g c = rw c.in-NoMemory.is c.write_text.ensures
