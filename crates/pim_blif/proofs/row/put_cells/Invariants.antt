use Rattle.std.proofs.Common.{◌≡◌, ◌++◌, drop}
use Rattle.std.specs.List.{list_all}
use Rattle.pim_blif.specs.Rows.{is_cell, cells_of}
use Rattle.pim_blif.proofs.row.put_cells.Given as goal

abbrev pub invariant-loop-b : goal.invariant-loop-b
invariant-loop-b l = record {
  cells : l.cells.items ++ cells_of (drop l.b-index l.pattern) ≡ cells_of l.pattern;
  right : list_all is_cell (drop l.b-index l.pattern) ≡ list_all is_cell l.pattern;
}
