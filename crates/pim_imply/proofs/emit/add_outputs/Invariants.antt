use Rattle.std.proofs.Common.{◌≡◌, ◌++◌, drop}
use Rattle.pim_imply.specs.inner.Schedules.{output_ports}
use Rattle.pim_imply.proofs.emit.add_outputs.Given as goal

-- the draft so far, with the ports of the outputs that are left, is the draft with all of them
abbrev pub invariant-loop-k : goal.invariant-loop-k
invariant-loop-k l =
    record l.draft { outputs = l.draft.outputs ++ output_ports l.aig l.cells (drop l.k l.outputs) (drop l.k l.labels) }
    ≡ record l.initial.draft { outputs = l.initial.draft.outputs ++ output_ports l.aig l.cells l.outputs l.labels }
