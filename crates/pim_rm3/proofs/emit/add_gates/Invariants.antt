use Rattle.std.proofs.Common.{◌≡◌, ◌++◌, drop, flat_map}
use Rattle.pim_rm3.specs.Schedules.{instrs_at}
use Rattle.pim_rm3.proofs.emit.add_gates.Given as goal

-- the draft so far, with the instructions of the gates that are left, is the draft with all of them
abbrev pub invariant-loop-place : goal.invariant-loop-place
invariant-loop-place l =
    record l.draft { instrs = l.draft.instrs ++ flat_map (instrs_at l.aig l.cells) (drop l.place l.order) }
    ≡ record l.initial.draft { instrs = l.initial.draft.instrs ++ flat_map (instrs_at l.aig l.cells) l.order }
