use Rattle.std.proofs.Common.{length, arith}
use Rattle.pim_prove.proofs.Lanes.{column_filled}
use Rattle.pim_prove.proofs.digits.fill_digits.Goals as goal

pub returns : goal.returns
returns c =
    column_filled c.loop-place.column c.args.start c.args.k c.loop-place.place (length c.args.column.now) c.loop-place.invariant (omega arith)
