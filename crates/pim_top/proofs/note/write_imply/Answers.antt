use Rattle.pim_top.proofs.note.write_imply.Goals as goal

pub returns-in-TooFewCells : goal.returns-in-TooFewCells
returns-in-TooFewCells g c = rw c.in-TooFewCells.is c.write_needed.ensures

pub returns-in-TooLarge : goal.returns-in-TooLarge
returns-in-TooLarge g c = rw c.in-TooLarge.is c.write_large.ensures

pub returns-in-NoMemory : goal.returns-in-NoMemory
returns-in-NoMemory g c = rw c.in-NoMemory.is c.write_text.ensures
