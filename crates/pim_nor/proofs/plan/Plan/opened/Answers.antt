use Rattle.std.proofs.Common.{arith, sym, ◌∙◌}
use Rattle.std.proofs.lemmas.Grind.{common_steps}
use Rattle.pim_nor.proofs.Counting.{gives_way-IsAnd}
use Rattle.pim_nor.proofs.plan.Plan.opened.Goals as goal

pub and_at-requires-clause-there : goal.and_at-requires-clause-there
and_at-requires-clause-there c =
    let is = gives_way-IsAnd c.args.self.now.graph c.gives_way.ensures.sound c.args.literal (sym c.gives_way.ensures.gives_way ∙ c.if-gives_way.true) in
    grind (arith, common_steps, is.there, c.node.ensures)
