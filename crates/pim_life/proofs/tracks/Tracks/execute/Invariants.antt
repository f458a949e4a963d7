use Rattle.std.proofs.Common.{◌≡◌, drop}
use Rattle.pim_life.specs.inner.Tracks.{after_instrs}
use Rattle.pim_life.proofs.tracks.Tracks.execute.Given as goal

-- executing the instructions that are left makes the whole
abbrev pub invariant-loop-place : goal.invariant-loop-place
invariant-loop-place l =
    after_instrs l.place (drop l.place l.instrs) l.self ≡ after_instrs 0 l.instrs l.initial.self
