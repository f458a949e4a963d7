use Rattle.std.proofs.Common.{List, ℕ, subst}
use Rattle.pim_top.specs.Notes.{large}
use Rattle.pim_top.specs.inner.Writing.{WroteLine}
use Rattle.pim_top.proofs.note.write_aiger.Goals as goal

pub returns-in-Header : goal.returns-in-Header
returns-in-Header g c = rw c.in-Header.is c.write_bad.ensures

pub returns-in-Latches : goal.returns-in-Latches
returns-in-Latches g c = rw c.in-Latches.is c.write_bad-in-Latches.ensures

pub returns-in-Number : goal.returns-in-Number
returns-in-Number g c = rw c.in-Number.is c.write_bad_number.ensures

pub returns-in-Literal : goal.returns-in-Literal
returns-in-Literal g c = rw c.in-Literal.is c.write_bad_number-in-Literal.ensures

pub returns-in-Truncated : goal.returns-in-Truncated
returns-in-Truncated g c = rw c.in-Truncated.is c.write_bad_number-in-Truncated.ensures

pub returns-in-Delta : goal.returns-in-Delta
returns-in-Delta g c = rw c.in-Delta.is c.write_bad_number-in-Delta.ensures

pub returns-in-Symbol : goal.returns-in-Symbol
returns-in-Symbol g c = rw c.in-Symbol.is c.write_bad_number-in-Symbol.ensures

pub returns-in-NoMemory : goal.returns-in-NoMemory
returns-in-NoMemory g c = rw c.in-NoMemory.is c.write_text.ensures

pub returns-in-TooLarge : goal.returns-in-TooLarge
returns-in-TooLarge g c =
    let F : List ℕ → Type 0 = λ w. WroteLine g.E.Sink.taken g.E.Sink.faults c.args.notes.now c.write_large.new.notes (large w) c.write_large.result in
    rw c.in-TooLarge.is (subst F c.kind_word.ensures c.write_large.ensures)
