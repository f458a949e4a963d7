use Rattle.std.proofs.Common.{◌≡◌, map, take}
use Rattle.pim_aig.specs.Moving.{moved}
use Rattle.pim_rewrite.proofs.passes.add_outputs.Given as goal

-- the outputs so far are the first ones, moved
abbrev pub invariant-loop-output : goal.invariant-loop-output
invariant-loop-output l = l.made ≡ record l.initial.made { outputs = map (moved l.lits) (take l.output-index l.outputs) }
