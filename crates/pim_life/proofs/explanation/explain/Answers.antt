use Rattle.std.proofs.Common.{ap, length}
use Rattle.pim_life.proofs.Joined.{text_finished}
use Rattle.pim_life.proofs.explanation.explain.Goals as goal

pub returns : goal.returns
returns c =
    text_finished c.args.program.now _ _ _ _ _ _ _ c.new-text.ensures.items c.list.ensures c.in_ok-tracks.ensures.lives c.in_ok-push_cells.ensures
    c.cells.ensures.value (ap length c.instrs.ensures.value) c.in_ok-push_summary.ensures
