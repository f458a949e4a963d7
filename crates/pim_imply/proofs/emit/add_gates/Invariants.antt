use Rattle.std.proofs.Common.{◌≡◌, ◌++◌, drop, flat_map}
use Rattle.pim_imply.specs.inner.Schedules.{gate_instrs}
use Rattle.pim_imply.proofs.emit.add_gates.Given as goal

-- the draft so far, with the instructions of the gates that are left, is the draft with all of them
abbrev pub invariant-loop-gate : goal.invariant-loop-gate
invariant-loop-gate l =
    record l.draft { instrs = l.draft.instrs ++ flat_map (gate_instrs l.aig l.cells) (drop l.gate-index l.order) }
    ≡ record l.initial.draft { instrs = l.initial.draft.instrs ++ flat_map (gate_instrs l.aig l.cells) l.order }
