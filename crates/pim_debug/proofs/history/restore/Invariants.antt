use Rattle.std.proofs.Common.{◌≡◌, length, drop}
use Rattle.pim_debug.specs.inner.Histories.{put}
use Rattle.pim_debug.proofs.history.restore.Given as goal

-- the rest of the cells, on the row so far, gives what all of them give
abbrev pub invariant-loop-cell : goal.invariant-loop-cell
invariant-loop-cell l = put (drop (length l.yielded) l.cells) (drop (length l.yielded) l.bits) l.row ≡ put l.cells l.bits l.initial.row
