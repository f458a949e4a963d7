use Rattle.std.proofs.Common.{◌≡◌, ◌++◌, drop}
use Rattle.std.specs.List.{flat_map}
use Rattle.pim_life.specs.inner.Tracks.{track_lives}
use Rattle.pim_life.proofs.lifetimes.push_all.Given as goal

-- the lives so far, with those of the cells that are left, are all
abbrev pub invariant-loop-track : goal.invariant-loop-track
invariant-loop-track l =
    l.lives.items ++ flat_map track_lives (drop l.track-index l.tracks) ≡ l.initial.lives.items ++ flat_map track_lives l.tracks
