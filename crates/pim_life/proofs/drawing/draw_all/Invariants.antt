use Rattle.std.proofs.Common.{◌≡◌, drop}
use Rattle.pim_life.specs.inner.Drawing.{Holds, drawn_from}
use Rattle.pim_life.proofs.drawing.draw_all.Given as goal

-- drawing the instructions that are left makes the whole
abbrev pub invariant-loop-instr : goal.invariant-loop-instr
invariant-loop-instr l = record {
  drawn : drawn_from (record { kids = l.graph.kids; held = l.held.items }) (drop l.instr-index l.instrs)
      ≡ drawn_from (record { kids = l.initial.graph.kids; held = l.initial.held.items }) l.instrs;
  roots : l.graph.roots ≡ l.initial.graph.roots;
  holds : Holds l.graph.kids l.held.items;
}
