use Rattle.std.proofs.Common.{◌≡◌, ◌+◌, ◌++◌, length, map}
use Rattle.std.specs.List.{range_with_len}
use Rattle.pim_adder.specs.Adders.{numbered}
use Rattle.pim_adder.proofs.netlist.add_inputs.Given as goal

abbrev pub invariant-loop-k : goal.invariant-loop-k
invariant-loop-k l = record {
  made : l.draft ≡ record l.initial.draft { inputs = l.initial.draft.inputs ++ range_with_len l.start l.k; input_labels = l.initial.draft.input_labels ++ map (numbered l.letter) (range_with_len 0 l.k) };
  count : length l.draft.inputs ≡ length l.initial.draft.inputs + l.k;
}
