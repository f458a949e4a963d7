use Rattle.std.proofs.Common.{◌≡◌, length, true, refl, ap, ◌∙◌, arith}
use Rattle.pim_lanes.proofs.ColumnLemmas.{stored_here, column_in_slice, length-column_in}
use Rattle.pim_lanes.proofs.columns.set_column.Goals as goal

pub returns : goal.returns
returns c =
    let w = c.args.words in
    let buffer = c.args.buffer.now in
    let long : length c.ones_into.new.t ≡ c.args.words =
    c.ones_into.auto.t ∙ ap length (column_in_slice w buffer c.args.t _ refl) ∙ length-column_in w buffer c.args.t c.requires in
    stored_here w c.args.t _ (λ r. true) buffer c.ones_into.new.t refl c.requires long
    (λ r small. c.ones_into.ensures r (omega arith))
