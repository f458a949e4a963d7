use Rattle.pim_simpler.proofs.ReadSteps.{ToRead-more}
use Rattle.pim_simpler.proofs.scheduler.Scheduler.release.Goals as goal

pub loop-child-preserved : goal.loop-child-preserved
loop-child-preserved c =
    ToRead-more _ c.loop-child.self c.take_read.new.self _ c.loop-child.child-index c.loop-child-test.true (c.in_ok-take_read.ensures) c.loop-child.invariant
