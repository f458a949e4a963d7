-- Where the columns and rows of a cover stand.
use Rattle.std.specs.Prelude.{◌≡◌, ◌<◌, ◌≤◌, ℕ, List, [], ◌∷◌, All, length}
use Rattle.pim_net.specs.declared.cover.Bit3.{Bit3}
use Rattle.pim_net.specs.declared.cover.Store.{Store}
use Rattle.pim_net.specs.declared.cover.Store.TheVariants.{Columns, Row, Lists}
use Rattle.pim_net.specs.declared.limits.TheConstants.{MAX_COLUMNS, MAX_ROWS, MAX_SIGNALS}
pub use Rattle.pim_net.specs.inner.ListsViews.{ListsView}

-- the columns
abbrev pub store_ins : Store → List ℕ
store_ins (Columns ins) = ins
store_ins (Row only) = only.ins
store_ins (Lists lists) = lists.value.ins

-- the rows
abbrev pub store_rows : Store → List (List Bit3)
store_rows (Columns ins) = []
store_rows (Row only) = only.row ∷ []
store_rows (Lists lists) = lists.value.rows

-- signals in range, a cell per column in each row, and no more of both than the limits allow
pub record IsStore (s : Store) : Type 0 where
  pub below : All (λ n. n < MAX_SIGNALS) (store_ins s)
  pub narrow : length (store_ins s) < MAX_COLUMNS
  pub whole : All (λ row. length row ≡ length (store_ins s)) (store_rows s)
  pub short : length (store_rows s) ≤ MAX_ROWS
