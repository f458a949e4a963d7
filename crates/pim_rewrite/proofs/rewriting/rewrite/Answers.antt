use Rattle.std.proofs.Common.{List, length, ap, arith}
use Rattle.pim_mig.specs.declared.node.Maj.{Maj}
use Rattle.pim_rewrite.proofs.Rounds.{needed_few}
use Rattle.pim_rewrite.proofs.rewriting.rewrite.Goals as goal

pub flip-requires : goal.flip-requires
flip-requires c = record { few = omega (arith, needed_few c.args.mig.now, c.requires) }

pub settle-requires-clause-few : goal.settle-requires-clause-few
settle-requires-clause-few c = omega (arith, needed_few c.args.mig.now, c.in_ok-first.ensures.no_more, c.requires)

pub settle-requires-clause-enough : goal.settle-requires-clause-enough
settle-requires-clause-enough c =
    omega (arith, needed_few c.args.mig.now, c.in_ok-first.ensures.no_more, ap (λ (xs : List Maj). length xs) c.nodes.ensures.nodes)

pub copy-requires-clause-few : goal.copy-requires-clause-few
copy-requires-clause-few c = omega (arith, needed_few c.args.mig.now, c.in_ok-first.ensures.no_more, c.in_ok-last.ensures.no_more, c.requires)
