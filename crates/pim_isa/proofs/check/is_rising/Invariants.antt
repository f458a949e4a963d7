use Rattle.std.proofs.Common.{◌≡◌, drop}
use Rattle.pim_isa.specs.Validity.{rises_above}
use Rattle.pim_isa.proofs.check.is_rising.Given as goal

-- the rest rises above the last number exactly where the whole list rises above the first
abbrev pub invariant-loop-cell : goal.invariant-loop-cell
invariant-loop-cell l = rises_above l.last (drop l.cell-index l.rest) ≡ rises_above l.initial.last l.rest
