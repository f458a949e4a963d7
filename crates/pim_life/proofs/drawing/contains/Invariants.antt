use Rattle.std.proofs.Common.{◌≡◌, drop}
use Rattle.pim_graph.specs.Graphs.{has}
use Rattle.pim_life.proofs.drawing.contains.Given as goal

-- the gate is among those that are left where it is among all
abbrev pub invariant-loop-other : goal.invariant-loop-other
invariant-loop-other l = has (drop l.other-index l.gates) l.gate ≡ has l.gates l.gate
