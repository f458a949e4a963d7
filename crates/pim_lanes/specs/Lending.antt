-- How a bank ends, once a column that it lent for writing is let go.
use Rattle.std.specs.Prelude.{ℕ, List}
use Rattle.std.specs.Borrow.{Fml, MutBor, Lends, Array, u64}
use Rattle.pim_lanes.specs.contracts.bank.Bank.{the_row}
use Rattle.pim_lanes.specs.Banks.{BankView, with_column}

-- as it was, with what was written last in the column of cell c
abbrev pub LendsColumn : MutBor BankView → ℕ → MutBor (List ℕ) → Fml
LendsColumn b c r = Lends the_row (Array u64 0) b r (with_column b.now c)
