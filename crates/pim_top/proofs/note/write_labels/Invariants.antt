use Rattle.std.proofs.Common.{Ok, take}
use Rattle.pim_io.specs.Outside.{Wrote}
use Rattle.pim_io.specs.Writes.{WritesAddUp}
use Rattle.pim_io.specs.declared.sink.SinkFault.{SinkFault}
use Rattle.pim_top.specs.Notes.{spaced}
use Rattle.pim_top.proofs.note.write_labels.Given as goal

-- the labels so far were written
abbrev pub invariant-loop-label : goal.invariant-loop-label
invariant-loop-label g l = record {
  laws : WritesAddUp;
  wrote : Wrote {A = Unit {0}} {E = SinkFault} (Ok tt) (g.E.Sink.taken l.initial.notes) (g.E.Sink.taken l.notes) (g.E.Sink.faults l.initial.notes) (g.E.Sink.faults l.notes) (spaced (take l.label-index l.label-items));
}
