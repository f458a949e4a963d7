use Rattle.std.proofs.Common.{List, ℕ, subst}
use Rattle.pim_top.specs.Notes.{large}
use Rattle.pim_top.specs.inner.Writing.{WroteLine}
use Rattle.pim_top.proofs.note.write_blif.Goals as goal

pub returns-in-Syntax : goal.returns-in-Syntax
returns-in-Syntax g c = rw c.in-Syntax.is c.write_blif_line.ensures

pub returns-in-RowWidth : goal.returns-in-RowWidth
returns-in-RowWidth g c = rw c.in-RowWidth.is c.write_blif_line-in-RowWidth.ensures

pub returns-in-MixedPhase : goal.returns-in-MixedPhase
returns-in-MixedPhase g c = rw c.in-MixedPhase.is c.write_blif_line-in-MixedPhase.ensures

pub returns-in-TwiceInput : goal.returns-in-TwiceInput
returns-in-TwiceInput g c = rw c.in-TwiceInput.is c.write_blif_line-in-TwiceInput.ensures

pub returns-in-NoMemory : goal.returns-in-NoMemory
returns-in-NoMemory g c = rw c.in-NoMemory.is c.write_text.ensures

pub returns-in-TooLarge : goal.returns-in-TooLarge
returns-in-TooLarge g c =
    let F : List ℕ → Type 0 = λ w. WroteLine g.E.Sink.taken g.E.Sink.faults c.args.notes.now c.write_large.new.notes (large w) c.write_large.result in
    rw c.in-TooLarge.is (subst F c.kind_word.ensures c.write_large.ensures)
