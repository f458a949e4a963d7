use Rattle.std.proofs.Common.{◌≡◌, ◌++◌, map}
use Rattle.pim_debug.specs.States.{stops_from}
use Rattle.pim_debug.proofs.StopLemmas.{stop_in}
use Rattle.pim_debug.proofs.stops.Stops.list.Given as goal

-- the list so far and the breakpoints that are left
abbrev pub invariant-loop-number : goal.invariant-loop-number
invariant-loop-number l = l.list.items ++ map stop_in l.number-iterator ≡ stops_from 0 l.self.stops
