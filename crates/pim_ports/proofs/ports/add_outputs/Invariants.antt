use Rattle.std.proofs.Common.{◌≡◌, ◌++◌, take}
use Rattle.pim_ports.proofs.ports.add_outputs.Given as goal

-- the ports so far have the labels of the first outputs
abbrev pub invariant-loop-k : goal.invariant-loop-k
invariant-loop-k l = record {
  added : l.ports.outputs ≡ l.initial.ports.outputs ++ take l.k l.net.output_labels;
  others : l.ports.inputs ≡ l.initial.ports.inputs;
}
