use Rattle.pim_top.proofs.note.write_assembly.Goals as goal

pub returns-in-Name : goal.returns-in-Name
returns-in-Name g c = rw c.in-Name.is c.write_bad_number-in-Name.ensures

pub returns-in-NoMemory : goal.returns-in-NoMemory
returns-in-NoMemory g c = rw c.in-NoMemory.is c.write_text.ensures
