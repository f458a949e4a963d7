use Rattle.std.proofs.Common.{Bool, not}
use Rattle.pim_isa.specs.Steps.{majority}
use Rattle.pim_lanes.proofs.ColumnLemmas.{stored_by}
use Rattle.pim_lanes.proofs.columns.rm3_column.Goals as goal

pub returns : goal.returns
returns c =
    let below = c.split_at_mut-below in
    let target = c.split_at_mut-target in
    stored_by (λ (x y z : Bool). majority y (not z) x) c.args.words c.args.z c.args.p c.args.q c.args.buffer.now
    below.result.0.now below.result.1.now target.result.0.now c.rm3_into.new.z target.result.1.now
    c.column_beside-first.result.now c.column_beside-second.result.now
    below.ensures.value target.ensures.value below.ensures.front_len target.ensures.front_len c.rm3_into.auto.z
    (c.column_beside-first.ensures.value target.result.0.now target.ensures.front_len)
    (c.column_beside-second.ensures.value target.result.0.now target.ensures.front_len)
    c.rm3_into.ensures
