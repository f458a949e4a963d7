use Rattle.std.proofs.Common.{length, sym, ap, ◌∙◌}
use Rattle.pim_batch.specs.inner.Packing.{PackedView}
use Rattle.pim_batch.proofs.PackingLemmas.{length-packed_rows}
use Rattle.pim_batch.proofs.packed.Packed.count.Goals as goal

pub returns-clause-value : goal.returns-clause-value
returns-clause-value c =
    sym (length-packed_rows c.self.inside.tile c.self.inside.stage c.self.inside.count) ∙ ap (λ (p : PackedView). length p.rows) c.self.view_is
