use Rattle.pim_file.proofs.ItemLemmas.{label_spelled, length_spelled}
use Rattle.pim_file.proofs.binary.items.Items.port.Goals as goal

-- bytes that are read as a label are one
pub returns-clause-label : goal.returns-clause-label
returns-clause-label c =
    let length = length_spelled c.number.new.self c.in_ok-length.length c.length.new.self c.in_ok-length.ensures in
    let label = label_spelled c.in_ok-length.length c.length.new.self c.in_ok-label.label.now c.label.new.self length.1 c.in_ok-label.ensures in
    label.2
