use Rattle.std.proofs.Common.{◌≡◌, ◌++◌, take, drop}
use Rattle.pim_aiger.specs.SymbolTable.{all_labels}
use Rattle.pim_aiger.proofs.labels.add_outputs.Given as goal

abbrev pub invariant-loop-k : goal.invariant-loop-k
invariant-loop-k l = record {
  exact : l.draft ≡ record l.initial.draft { outputs = take l.k l.outputs; output_labels = l.draft.output_labels };
  labels : l.draft.output_labels ++ all_labels 111 l.k (drop l.k l.names) ≡ all_labels 111 0 l.names;
}
