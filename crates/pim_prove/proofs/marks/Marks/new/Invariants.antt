use Rattle.std.proofs.Common.{◌≡◌, drop}
use Rattle.pim_isa.specs.Sound.{cells_of}
use Rattle.pim_isa.specs.Steps.{set_ones}
use Rattle.pim_prove.proofs.marks.Marks.new.Given as goal

-- setting the inputs that are left makes the whole
abbrev pub invariant-loop-port : goal.invariant-loop-port
invariant-loop-port l = set_ones (cells_of (drop l.port-index l.port-items)) l.marks ≡ set_ones (cells_of l.port-items) l.initial.marks
