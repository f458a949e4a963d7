use Rattle.std.proofs.Common.{◌≡◌, ◌+◌, ◌-◌, ◌≤◌, ◌++◌, length, map, drop}
use Rattle.std.specs.Prelude.{vec_len, vec_capacity}
use Rattle.pim_isa.specs.Steps.{bit}
use Rattle.pim_debug.proofs.history.save.Given as goal

-- the log so far and the bits of the cells that are left; and there is room for them
abbrev pub invariant-loop-cell : goal.invariant-loop-cell
invariant-loop-cell l =
    (l.log.items ++ map (bit l.row) (drop l.cell-index l.cells) ≡ l.initial.log.items ++ map (bit l.row) l.cells)
    × (vec_len l.log + (length l.cells - l.cell-index) ≤ vec_capacity l.log)
