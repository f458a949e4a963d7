use Rattle.std.proofs.Common.{drop, take}
use Rattle.pim_graph.proofs.Marking.{IsHeld}
use Rattle.pim_graph.proofs.peaks.peak.Given as goal

abbrev pub invariant-loop-place : goal.invariant-loop-place
invariant-loop-place l = IsHeld l.graph (take l.place l.order) (drop l.place l.order) l.marks.items l.held l.most
