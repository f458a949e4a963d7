use Rattle.std.proofs.Common.{Bool, ◌&&◌, not}
use Rattle.pim_lanes.proofs.ColumnLemmas.{stored_by}
use Rattle.pim_lanes.proofs.columns.nor1_column.Goals as goal

pub returns : goal.returns
returns c =
    let below = c.split_at_mut-below in
    let target = c.split_at_mut-target in
    let a_is = c.column_beside.ensures.value target.result.0.now target.ensures.front_len in
    stored_by (λ (x y z : Bool). x && not y) c.args.words c.args.t c.args.a c.args.a c.args.buffer.now
    below.result.0.now below.result.1.now target.result.0.now c.nor1_into.new.t target.result.1.now
    c.column_beside.result.now c.column_beside.result.now
    below.ensures.value target.ensures.value below.ensures.front_len target.ensures.front_len c.nor1_into.auto.t
    a_is a_is c.nor1_into.ensures
