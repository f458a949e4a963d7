use Rattle.std.proofs.Common.{◌≡◌, ◌++◌, ◌∷◌, vec_len}
use Rattle.std.specs.Prelude.{reverse}
use Rattle.pim_net.specs.inner.DepthFirst.{EachKnown, trail_sigs}
use Rattle.pim_net.specs.Faults.{back_to}
use Rattle.pim_net.proofs.Trails.{rest_back}
use Rattle.pim_net.proofs.visit.trail_back.Given as goal

abbrev pub invariant-back : goal.invariant-back
invariant-back l = record {
  known : EachKnown l.equations (reverse l.path.items);
  back : l.list.items ++ rest_back l.goal l.last (trail_sigs l.equations (reverse l.path.items)) ≡ back_to l.goal (trail_sigs l.equations (l.fn.at ∷ reverse l.fn.path.items));
}

abbrev pub decreases-back : goal.decreases-back
decreases-back l = vec_len l.path
