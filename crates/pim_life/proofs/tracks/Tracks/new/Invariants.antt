use Rattle.std.proofs.Common.{◌≡◌}
use Rattle.std.specs.Prelude.{replicate}
use Rattle.pim_life.specs.inner.Tracks.{blank}
use Rattle.pim_life.proofs.tracks.Tracks.new.Given as goal

-- so many blank tracks
abbrev pub invariant-loop-cell : goal.invariant-loop-cell
invariant-loop-cell l = l.tracks.items ≡ replicate l._cell blank
