use Rattle.std.proofs.Common.{◌≡◌, ◌++◌, drop, map}
use Rattle.pim_imply.specs.inner.Schedules.{cell_of}
use Rattle.pim_imply.specs.declared.instr.ImplyInstr.TheVariants.{Imp}
use Rattle.pim_imply.proofs.emit.add_imps.Given as goal

-- the draft so far, with the instructions of the literals that are left, is the draft with all of them
abbrev pub invariant-loop-literal : goal.invariant-loop-literal
invariant-loop-literal l =
    record l.draft { instrs = l.draft.instrs ++ map (λ c. Imp c l.z) (map (cell_of l.aig l.cells) (drop l.literal-index l.literals)) }
    ≡ record l.initial.draft { instrs = l.initial.draft.instrs ++ map (λ c. Imp c l.z) (map (cell_of l.aig l.cells) l.literals) }
