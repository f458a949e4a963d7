use Rattle.pim_top.proofs.note.write_imply_invalid.Goals as goal

pub returns-in-Port : goal.returns-in-Port
returns-in-Port g c = rw c.in-Port.is c.write_bad_number.ensures

pub returns-in-CellRange : goal.returns-in-CellRange
returns-in-CellRange g c = rw c.in-CellRange.is c.write_placed.ensures

pub returns-in-SameCell : goal.returns-in-SameCell
returns-in-SameCell g c = rw c.in-SameCell.is c.write_placed-in-SameCell.ensures
