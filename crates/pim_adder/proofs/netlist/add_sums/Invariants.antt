use Rattle.std.proofs.Common.{◌≡◌, ◌++◌, length, map}
use Rattle.std.specs.List.{range_with_len}
use Rattle.pim_adder.specs.Adders.{numbered, plain, sum}
use Rattle.pim_adder.proofs.netlist.add_sums.Given as goal

abbrev pub invariant-loop-k : goal.invariant-loop-k
invariant-loop-k l = record {
  made : l.draft ≡ record l.initial.draft { outputs = l.initial.draft.outputs ++ map (λ i. plain (sum l.bits i)) (range_with_len 0 l.k); output_labels = l.initial.draft.output_labels ++ map (numbered 115) (range_with_len 0 l.k) };
  count : length l.draft.outputs ≡ l.k;
}
