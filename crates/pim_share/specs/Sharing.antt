-- What it is for programs to share a row.
use Rattle.std.specs.Prelude.{◌≡◌, ℕ, ◌+◌, ◌≤◌, Bool, List, length, map, All, Some, slice_get}
use Rattle.pim_isa.specs.Primed.{IsPrimed}
use Rattle.pim_isa.specs.Programs.{ProgramView}
use Rattle.pim_isa.specs.Steps.{bit, exec}
use Rattle.pim_share.specs.Windows.{base, InWindow}

-- from every row that is long enough, the program leaves in the window of each part exactly what that part alone leaves
-- there, so the part's outputs are those of its run alone; all cells outside the windows stay as before
pub record IsShared (parts : List ProgramView) (program : ProgramView) : Type 0 where
  pub windows : (j : ℕ) (part : ProgramView) (row w : List Bool) → slice_get parts j ≡ Some part → program.cells ≤ length row →
      InWindow (base parts j) part.cells row w →
      InWindow (base parts j) part.cells (exec program.instrs row) (exec part.instrs w)
  pub outputs : (j : ℕ) (part : ProgramView) (row w : List Bool) → slice_get parts j ≡ Some part → program.cells ≤ length row →
      InWindow (base parts j) part.cells row w →
      map (λ o. bit (exec program.instrs row) (base parts j + o.cell)) part.outputs
      ≡ map (λ o. bit (exec part.instrs w) o.cell) part.outputs
  pub others : (row : List Bool) (c : ℕ) → program.cells ≤ c → bit (exec program.instrs row) c ≡ bit row c
  pub length_kept : (row : List Bool) → length (exec program.instrs row) ≡ length row

-- where each part is primed, so is the program
abbrev pub KeepsPrimed : List ProgramView → ProgramView → Type 0
KeepsPrimed parts program = All (λ (p : ProgramView). IsPrimed p.instrs) parts → IsPrimed program.instrs
