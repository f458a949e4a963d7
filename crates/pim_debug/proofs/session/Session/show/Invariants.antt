use Rattle.std.proofs.Common.{◌≡◌, ◌++◌, map, drop}
use Rattle.pim_isa.specs.Steps.{bit}
use Rattle.pim_debug.specs.Answers.{shown}
use Rattle.pim_debug.specs.States.{cells_of}
use Rattle.pim_debug.proofs.session.Session.show.Given as goal

-- the bits so far and those of the outputs that are left
abbrev pub invariant-loop-port : goal.invariant-loop-port
invariant-loop-port l = l.bits ++ map (λ o. bit (cells_of l.self) o.cell) (drop l.port-index l.outputs) ≡ shown l.self
