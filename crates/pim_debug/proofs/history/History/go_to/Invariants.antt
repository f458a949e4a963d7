use Rattle.std.proofs.Common.{◌≡◌, ◌-◌, ◌≤◌}
use Rattle.pim_debug.proofs.history.History.go_to.Given as goal

-- not further than that, and nothing else changes
abbrev pub invariant-loop-self : goal.invariant-loop-self
invariant-loop-self l = (l.self ≡ record l.initial.self { at = l.self.at }) × (l.self.at ≤ l.k) × (l.initial.self.at ≤ l.self.at)

abbrev pub decreases-loop-self : goal.decreases-loop-self
decreases-loop-self l = l.k - l.self.at
