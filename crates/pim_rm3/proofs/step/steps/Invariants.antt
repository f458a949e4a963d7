use Rattle.std.proofs.Common.{◌≡◌, map}
use Rattle.std.specs.List.{range_with_len}
use Rattle.pim_rm3.specs.Steps.{step_of}
use Rattle.pim_rm3.proofs.step.steps.Given as goal

abbrev pub invariant-loop-literal : goal.invariant-loop-literal
invariant-loop-literal l = l.steps.items ≡ map (step_of l.mig) (range_with_len 0 l.literal)
