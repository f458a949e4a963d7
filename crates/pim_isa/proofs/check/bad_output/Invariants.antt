use Rattle.std.proofs.Common.{◌≡◌, ◌+◌, drop}
use Rattle.pim_isa.specs.Validity.{bad_output}
use Rattle.pim_isa.proofs.check.bad_output.Given as goal

-- the rest, from its place on, gives what the whole list gives
abbrev pub invariant-loop-k : goal.invariant-loop-k
invariant-loop-k l = bad_output l.cells (l.first + l.k) (drop l.k l.outputs) ≡ bad_output l.cells l.first l.outputs
