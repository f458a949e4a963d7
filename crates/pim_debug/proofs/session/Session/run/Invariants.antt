use Rattle.std.proofs.Common.{◌≡◌, ◌-◌}
use Rattle.pim_debug.proofs.StopLemmas.{IsRunning}
use Rattle.pim_debug.proofs.session.Session.run.Given as goal

-- the position alone changes, and the run is there or goes on to the same end
abbrev pub invariant-loop-is_there : goal.invariant-loop-is_there
invariant-loop-is_there l =
    (l.self-inside.history ≡ record l.initial.self-inside.history { at = l.self-inside.history.at })
    × (l.self-inside.stops ≡ l.initial.self-inside.stops)
    × IsRunning l.last l.before l.self-inside.history.at l.self-inside.stops.stops l.is_there

abbrev pub decreases-loop-is_there : goal.decreases-loop-is_there
decreases-loop-is_there l = l.last - l.self-inside.history.at
