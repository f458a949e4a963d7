use Rattle.std.proofs.Common.{sym}
use Rattle.pim_net.proofs.Rows.{length-rows_of}
use Rattle.pim_net.proofs.lists.Lists.row_count.Goals as goal

pub returns : goal.returns
returns c = rw (← c.self.view_is) (sym (length-rows_of _ _ _))
