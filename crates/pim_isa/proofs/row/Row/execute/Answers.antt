use Rattle.std.proofs.Common.{length, ap, ◌∙◌}
use Rattle.pim_isa.proofs.RowLemmas.{length-set_ones}
use Rattle.pim_isa.proofs.row.Row.execute.Goals as goal

-- a bit for each cell still
pub returns-in-Init-clause-long : goal.returns-in-Init-clause-long
returns-in-Init-clause-long c = ap length c.set_ones.ensures ∙ length-set_ones c.list.result.now c.args.self.now
