use Rattle.std.proofs.Common.{◌≡◌, drop}
use Rattle.pim_isa.specs.Sound.{cells_of}
use Rattle.pim_life.specs.inner.Tracks.{all_loaded}
use Rattle.pim_life.proofs.tracks.Tracks.load.Given as goal

-- loading the inputs that are left makes the whole
abbrev pub invariant-loop-port : goal.invariant-loop-port
invariant-loop-port l =
    all_loaded (cells_of (drop l.port-index l.inputs)) l.self ≡ all_loaded (cells_of l.inputs) l.initial.self
