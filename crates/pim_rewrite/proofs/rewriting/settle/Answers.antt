use Rattle.std.proofs.Common.{◌≡◌, ◌-◌, suc, sym, ◌∙◌, ap, arith}
use Rattle.pim_mig.specs.Graph.{MigView}
use Rattle.pim_rewrite.proofs.Rounds.{none_needed, rounds_none, rounds_step}
use Rattle.pim_rewrite.proofs.rewriting.settle.Goals as goal

pub returns-in-None-clause-rounds : goal.returns-in-None-clause-rounds
returns-in-None-clause-rounds c = sym (rounds_none c.loop-left.left c.loop-left.now (c.in_ok-one_round.ensures.none c.in-None.is)) ∙ c.loop-left.invariant.whole

pub loop-left-preserved : goal.loop-left-preserved
loop-left-preserved c =
    let inv = c.loop-left.invariant in
    let left = c.loop-left.left in
    let now = c.loop-left.now in
    let next = c.in-Some.next in
    let round = rw c.in-Some.is at c.in_ok-one_round.ensures.round in
    let case = rw c.in-Some.is at c.in_ok-one_round.ensures.case in
    let fewer = rw c.in-Some.is at c.in_ok-one_round.ensures.fewer in
    let values = rw c.in-Some.is at c.in_ok-one_round.ensures.values in
    let at : left ≡ suc (left - 1) = omega (arith, c.loop-left-test.true) in
    record {
      whole = rounds_step left (left - 1) now next _ at case round inv.whole;
      few = omega (arith, fewer, inv.few);
      enough = omega (arith, fewer, inv.enough);
      values = λ bits count. values bits (count ∙ sym inv.inputs) ∙ inv.values bits count;
      upright = rw c.in-Some.is at c.in_ok-one_round.ensures.upright;
      inputs = ap (λ (g : MigView). g.inputs) round ∙ inv.inputs;
    }

pub returns-clause-settled : goal.returns-clause-settled
returns-clause-settled c = none_needed c.loop-left.now (omega (arith, c.loop-left.invariant.enough, c.loop-left-test.false))
