use Rattle.std.proofs.Common.{◌≡◌, drop}
use Rattle.pim_isa.specs.Sound.{cells_of}
use Rattle.pim_life.specs.declared.life.End.TheVariants.{Output}
use Rattle.pim_life.specs.inner.Tracks.{all_ended}
use Rattle.pim_life.proofs.tracks.Tracks.put_out.Given as goal

-- putting out the outputs that are left makes the whole
abbrev pub invariant-loop-port : goal.invariant-loop-port
invariant-loop-port l =
    all_ended Output (cells_of (drop l.port-index l.outputs)) l.self ≡ all_ended Output (cells_of l.outputs) l.initial.self
