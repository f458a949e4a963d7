use Rattle.std.proofs.Common.{◌≡◌, ◌++◌, take}
use Rattle.pim_ports.proofs.ports.add_inputs.Given as goal

-- the ports so far have the labels of the first inputs
abbrev pub invariant-loop-k : goal.invariant-loop-k
invariant-loop-k l = record {
  added : l.ports.inputs ≡ l.initial.ports.inputs ++ take l.k l.net.input_labels;
  others : l.ports.outputs ≡ l.initial.ports.outputs;
}
