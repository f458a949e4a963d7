use Rattle.pim_simpler.proofs.ReadSteps.{ToRead}
use Rattle.pim_simpler.proofs.scheduler.Scheduler.release.Given as goal

-- the reads that are left, after those that are done, are all of them
abbrev pub invariant-loop-child : goal.invariant-loop-child
invariant-loop-child l = ToRead l.initial.self l.self l.child-items l.child-index
