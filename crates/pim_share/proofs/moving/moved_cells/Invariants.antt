use Rattle.std.proofs.Common.{◌≡◌, ◌+◌, ◌++◌, drop, map}
use Rattle.pim_share.proofs.moving.moved_cells.Given as goal

abbrev pub invariant-loop-cell : goal.invariant-loop-cell
invariant-loop-cell l = l.list ++ map (λ c. l.base + c) (drop l.cell-index l.cells) ≡ map (λ c. l.base + c) l.cells
