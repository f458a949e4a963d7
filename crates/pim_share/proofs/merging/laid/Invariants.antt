use Rattle.std.proofs.Common.{◌≡◌, ◌≤◌, ◌+◌, ◌++◌, drop}
use Rattle.pim_share.specs.Turns.{laid}
use Rattle.pim_share.specs.Windows.{needed}
use Rattle.pim_share.proofs.merging.laid.Given as goal

abbrev pub invariant-loop-part : goal.invariant-loop-part
invariant-loop-part l =
    (l.left.items ++ laid l.base (drop l.part-index l.parts) ≡ laid 0 l.parts) × (l.base + needed (drop l.part-index l.parts) ≤ 1048576)
