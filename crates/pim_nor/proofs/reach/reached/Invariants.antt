use Rattle.std.proofs.Common.{◌≡◌, vec_len}
use Rattle.pim_nor.specs.Leaves.{leaves}
use Rattle.pim_nor.specs.Named.{gate_at, slots}
use Rattle.pim_nor.specs.Reached.{reached}
use Rattle.pim_nor.proofs.reach.reached.Given as goal

abbrev pub invariant-loop-slot : goal.invariant-loop-slot
invariant-loop-slot l = record {
  rest : reached (gate_at l.plan.graph (leaves l.plan.graph l.plan.width)) l.slot l.marks.items ≡ reached (gate_at l.plan.graph (leaves l.plan.graph l.plan.width)) l.initial.slot l.initial.marks.items;
  len : vec_len l.marks ≡ slots l.plan.graph;
}
