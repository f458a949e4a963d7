use Rattle.std.proofs.Common.{◌≡◌, drop}
use Rattle.pim_isa.specs.Sound.{cells_of}
use Rattle.pim_life.specs.inner.Drawing.{gates_held}
use Rattle.pim_life.proofs.drawing.add_roots.Given as goal

-- the roots so far, with those of the outputs that are left, are all
abbrev pub invariant-loop-port : goal.invariant-loop-port
invariant-loop-port l = record {
  roots : gates_held l.held l.graph.roots (cells_of (drop l.port-index l.outputs)) ≡ gates_held l.held l.initial.graph.roots (cells_of l.outputs);
  kids : l.graph.kids ≡ l.initial.graph.kids;
}
