use Rattle.std.proofs.Common.{◌≡◌, ◌≤◌}
use Rattle.pim_mig.specs.Needs.{needed_count}
use Rattle.pim_rewrite.specs.Normal.{AreUpright, HasValues}
use Rattle.pim_rewrite.specs.Rewritten.{rounds}
use Rattle.pim_rewrite.proofs.rewriting.settle.Given as goal

-- the rounds that are left come to the whole
abbrev pub invariant-loop-left : goal.invariant-loop-left
invariant-loop-left l = record {
  whole : rounds l.left l.now ≡ rounds l.most l.fn.mig;
  few : needed_count l.now ≤ needed_count l.fn.mig;
  enough : needed_count l.now ≤ l.left;
  values : HasValues l.fn.mig l.now;
  upright : AreUpright l.now.nodes;
  inputs : l.now.inputs ≡ l.fn.mig.inputs;
}

abbrev pub decreases-loop-left : goal.decreases-loop-left
decreases-loop-left l = l.left
