use Rattle.std.proofs.Common.{◌≡◌, ◌++◌, drop, flat_map}
use Rattle.pim_rm3.specs.SmartSchedules.{smart_instrs}
use Rattle.pim_rm3.proofs.votes.add_votes.Given as goal

-- the draft so far, with the instructions of the gates that are left, is the draft with all of them
abbrev pub invariant-loop-literal : goal.invariant-loop-literal
invariant-loop-literal l =
    record l.draft { instrs = l.draft.instrs ++ flat_map (smart_instrs l.mig l.held) (drop l.literal-index l.order) }
    ≡ record l.initial.draft { instrs = l.initial.draft.instrs ++ flat_map (smart_instrs l.mig l.held) l.order }
