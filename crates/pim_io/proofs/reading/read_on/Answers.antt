use Rattle.pim_io.proofs.Wholes.{IsSpent-GaveSome}
use Rattle.pim_io.proofs.reading.read_on.Goals as goal

pub returns-clause-end : goal.returns-clause-end
returns-clause-end g c = IsSpent-GaveSome _ _ _ _ _ (c.in-Ok-read.ensures.gives c.requires)
