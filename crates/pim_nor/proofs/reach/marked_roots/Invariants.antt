use Rattle.std.proofs.Common.{◌≡◌, map, drop, vec_len}
use Rattle.pim_nor.specs.Named.{source, slots}
use Rattle.pim_nor.specs.Reached.{mark_all}
use Rattle.pim_nor.proofs.reach.marked_roots.Given as goal

abbrev pub invariant-loop-out : goal.invariant-loop-out
invariant-loop-out l = record {
  rest : mark_all l.marks.items (map (source l.inputs) (drop l.out-index l.out-items)) ≡ mark_all l.initial.marks.items (map (source l.inputs) l.out-items);
  len : vec_len l.marks ≡ slots l.plan.graph;
}
