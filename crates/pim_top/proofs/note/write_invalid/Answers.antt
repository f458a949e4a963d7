use Rattle.pim_top.proofs.note.write_invalid.Goals as goal

pub returns-in-TargetRead : goal.returns-in-TargetRead
returns-in-TargetRead g c = rw c.in-TargetRead.is c.write_instruction-in-TargetRead.ensures

pub returns-in-WrongTarget : goal.returns-in-WrongTarget
returns-in-WrongTarget g c = rw c.in-WrongTarget.is c.write_instruction-in-WrongTarget.ensures

pub returns-in-InitList : goal.returns-in-InitList
returns-in-InitList g c = rw c.in-InitList.is c.write_instruction-in-InitList.ensures

pub returns-in-Port : goal.returns-in-Port
returns-in-Port g c = rw c.in-Port.is c.write_placed.ensures
