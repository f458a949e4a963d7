use Rattle.std.proofs.Common.{◌≡◌, ℕ, drop}
use Rattle.pim_lanes.specs.Banks.{row_of, IsRow, SameFrame}
use Rattle.pim_imply.specs.Machines.{iexec}
use Rattle.pim_batch.proofs.majorities.run_imply.Given as goal

-- the rest of the instructions, on the rows so far, gives what all of them give
abbrev pub invariant-loop-instr : goal.invariant-loop-instr
invariant-loop-instr l =
    ((r : ℕ) → IsRow l.initial.bank r → iexec (drop l.instr-index l.instr-items) (row_of l.bank r) ≡ iexec l.instr-items (row_of l.initial.bank r))
    × SameFrame l.initial.bank l.bank
