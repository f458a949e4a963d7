use Rattle.pim_simpler.proofs.Stages.{Stage}
use Rattle.pim_simpler.proofs.scheduler.Scheduler.run.Given as goal

-- the gates of the order so far are placed
abbrev pub invariant-loop-gate : goal.invariant-loop-gate
invariant-loop-gate l = Stage l.initial.self.net l.order l.initial.self.draft.cells l.initial.self.draft l.gate-index l.self
