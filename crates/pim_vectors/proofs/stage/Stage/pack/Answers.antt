use Rattle.std.proofs.Common.{◌∙◌}
use Rattle.std.proofs.lemmas.List.{with_items_is}
use Rattle.pim_vectors.proofs.StageLemmas.{packed_row}
use Rattle.pim_vectors.proofs.stage.Stage.pack.Goals as goal

pub returns-clause-vectors : goal.returns-clause-vectors
returns-clause-vectors c =
    packed_row _ c.args.self.now c.deref_mut.result.now c.pack_lane.new.bytes _ c.args.index c.args.line.now c.self.view_is
    (with_items_is c.self.inside.bytes c.pack_lane.new.bytes (c.pack_lane.auto.bytes ∙ c.deref_mut.ensures.len)) c.deref_mut.ensures.value
    c.requires.fits.0 c.pack_lane.ensures
