use Rattle.std.proofs.Common.{ℕ, List, length, refl, ap, ◌∙◌}
use Rattle.pim_io.specs.Lanes.{lane}
use Rattle.pim_lanes.proofs.ColumnLemmas.{stored_here}
use Rattle.pim_lanes.proofs.columns.put_column.Goals as goal

pub returns : goal.returns
returns c =
    stored_here c.args.words c.args.t _ (λ r. lane c.args.new.now r) c.args.buffer.now c.copy_from_slice.new.self refl c.requires.within
    (ap length c.copy_from_slice.ensures.after ∙ c.requires.long)
    (λ r small. ap (λ (ws : List ℕ). lane ws r) c.copy_from_slice.ensures.after)
