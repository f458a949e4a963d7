use Rattle.std.proofs.Common.{◌≡◌, ◌++◌, take, drop}
use Rattle.pim_aiger.specs.SymbolTable.{all_labels}
use Rattle.pim_aiger.proofs.labels.add_inputs.Given as goal

abbrev pub invariant-loop-k : goal.invariant-loop-k
invariant-loop-k l = record {
  exact : l.draft ≡ record l.initial.draft { inputs = take l.k l.inputs; input_labels = l.draft.input_labels };
  labels : l.draft.input_labels ++ all_labels 105 l.k (drop l.k l.names) ≡ all_labels 105 0 l.names;
}
