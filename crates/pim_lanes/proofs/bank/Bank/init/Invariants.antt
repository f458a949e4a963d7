use Rattle.std.proofs.Common.{◌≡◌, ℕ, drop}
use Rattle.pim_isa.specs.Steps.{set_ones}
use Rattle.pim_lanes.specs.Banks.{row_of, IsRow, SameFrame}
use Rattle.pim_lanes.proofs.bank.Bank.init.Given as goal

-- the rest of the cells, on the rows so far, gives what all of them give
abbrev pub invariant-loop-cell : goal.invariant-loop-cell
invariant-loop-cell l =
    ((r : ℕ) → IsRow l.initial.self r → set_ones (drop l.cell-index l.cells) (row_of l.self r) ≡ set_ones l.cells (row_of l.initial.self r))
    × SameFrame l.initial.self l.self
