use Rattle.std.proofs.Common.{◌∙◌, ap}
use Rattle.pim_rewrite.specs.Passes.{copy}
use Rattle.pim_rewrite.proofs.NoMore.{copy_no_more}
use Rattle.pim_rewrite.proofs.Settled.{copy_normal}
use Rattle.pim_rewrite.proofs.rewriting.copy.Goals as goal

pub returns-clause-no_more : goal.returns-clause-no_more
returns-clause-no_more c =
    copy_no_more c.nodes_have_laws.ensures c.args.mig.now c.in_ok-new.new c.nodes.ensures.sound (c.in_ok-new.ensures.made ∙ ap copy c.in_ok-reading.ensures)

pub returns-clause-normal : goal.returns-clause-normal
returns-clause-normal c =
    copy_normal c.nodes_have_laws.ensures c.args.mig.now c.in_ok-new.new c.nodes.ensures.sound c.nodes-2.ensures.sound (c.in_ok-new.ensures.made ∙ ap copy c.in_ok-reading.ensures) c.requires.upright c.requires.settled
