use Rattle.std.proofs.Common.{◌∙◌}
use Rattle.pim_vectors.proofs.StageLemmas.{unpacked_row}
use Rattle.pim_vectors.proofs.stage.Stage.unpack.Goals as goal

pub returns : goal.returns
returns c =
    c.unpack_lane.ensures ∙ unpacked_row _ c.args.self.now c.deref.result.now c.args.index c.self.view_is c.deref.ensures.value
