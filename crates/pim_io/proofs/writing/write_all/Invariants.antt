use Rattle.std.proofs.Common.{◌≡◌, length, take, ◌-◌, ◌≤◌}
use Rattle.pim_io.specs.Outside.{TookAll}
use Rattle.pim_io.proofs.writing.write_all.Given as goal

abbrev pub invariant-loop-at : goal.invariant-loop-at
invariant-loop-at g l =
    (l.at ≤ length l.piece) × (g.K.Sink.faults l.sink ≡ g.K.Sink.faults l.initial.sink) × TookAll (g.K.Sink.taken l.initial.sink) (g.K.Sink.taken l.sink) (take l.at l.piece)

abbrev pub decreases-loop-at : goal.decreases-loop-at
decreases-loop-at g l = length l.piece - l.at
