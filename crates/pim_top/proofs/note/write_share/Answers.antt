use Rattle.pim_top.proofs.note.write_share.Goals as goal

pub returns-in-OtherTarget : goal.returns-in-OtherTarget
returns-in-OtherTarget g c = rw c.in-OtherTarget.is c.write_part.ensures

pub returns-in-TooFewCells : goal.returns-in-TooFewCells
returns-in-TooFewCells g c = rw c.in-TooFewCells.is c.write_needed.ensures

pub returns-in-Turn : goal.returns-in-Turn
returns-in-Turn g c = rw c.in-Turn.is c.write_turn.ensures

pub returns-in-Missing : goal.returns-in-Missing
returns-in-Missing g c = rw c.in-Missing.is c.write_bad_number.ensures

pub returns-in-NoMemory : goal.returns-in-NoMemory
returns-in-NoMemory g c = rw c.in-NoMemory.is c.write_text.ensures
