-- The windows of one row that several programs take, one behind another.
use Rattle.std.specs.Prelude.{◌≡◌, ℕ, ◌+◌, ◌<◌, Bool, List, length, sum_by, take}
use Rattle.pim_isa.specs.Programs.{ProgramView}
use Rattle.pim_isa.specs.Steps.{bit}

-- how many cells the programs have in all
abbrev pub needed : List ProgramView → ℕ
needed parts = sum_by (λ p. p.cells) parts

-- the first cell of the window of part j: as many as the parts before it have
abbrev pub base : List ProgramView → ℕ → ℕ
base parts j = needed (take j parts)

-- the n cells of the row from the cell `from` on hold what the row w holds
pub record InWindow (from n : ℕ) (row w : List Bool) : Type 0 where
  pub long : length w ≡ n
  pub same : (c : ℕ) → c < n → bit row (from + c) ≡ bit w c
