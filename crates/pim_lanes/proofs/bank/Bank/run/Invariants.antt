use Rattle.std.proofs.Common.{◌≡◌, ℕ, drop}
use Rattle.pim_isa.specs.Steps.{exec}
use Rattle.pim_lanes.specs.Banks.{row_of, IsRow, SameFrame}
use Rattle.pim_lanes.proofs.bank.Bank.run.Given as goal

-- the rest of the instructions, on the rows so far, gives what all of them give
abbrev pub invariant-loop-instr : goal.invariant-loop-instr
invariant-loop-instr l =
    ((r : ℕ) → IsRow l.initial.self r → exec (drop l.instr-index l.instr-items) (row_of l.self r) ≡ exec l.instr-items (row_of l.initial.self r))
    × SameFrame l.initial.self l.self
