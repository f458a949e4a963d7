use Rattle.std.proofs.Common.{◌≡◌, map, take}
use Rattle.pim_aig.specs.Moving.{moved}
use Rattle.pim_mig.proofs.converting.add_outputs.Given as goal

-- the outputs so far are the first ones, moved
abbrev pub invariant-loop-output : goal.invariant-loop-output
invariant-loop-output l = l.mig ≡ record l.initial.mig { outputs = map (moved l.lits) (take l.output-index l.outputs) }
