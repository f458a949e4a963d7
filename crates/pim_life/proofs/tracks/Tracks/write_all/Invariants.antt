use Rattle.std.proofs.Common.{◌≡◌, drop}
use Rattle.pim_life.specs.inner.Tracks.{all_written}
use Rattle.pim_life.proofs.tracks.Tracks.write_all.Given as goal

-- writing the cells that are left makes the whole
abbrev pub invariant-loop-cell : goal.invariant-loop-cell
invariant-loop-cell l =
    all_written l.place (drop l.cell-index l.cells) l.self ≡ all_written l.place l.cells l.initial.self
