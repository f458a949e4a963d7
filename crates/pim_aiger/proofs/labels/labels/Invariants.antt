use Rattle.std.proofs.Common.{◌≡◌, take}
use Rattle.pim_aiger.specs.Files.{labels_of}
use Rattle.pim_aiger.proofs.labels.labels.Given as goal

abbrev pub invariant-loop-variable : goal.invariant-loop-variable
invariant-loop-variable l = l.labels ≡ labels_of (take l.variable-index l.variables)
