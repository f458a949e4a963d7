use Rattle.std.proofs.Common.{◌≡◌, min, length, sym, ◌∙◌, rules}
use Rattle.std.proofs.lemmas.Slice.Zip.{zip_end}
use Rattle.pim_debug.proofs.HistoryLemmas.{put_end}
use Rattle.pim_debug.proofs.history.restore.Goals as goal

-- at the end nothing is left to put
pub returns : goal.returns
returns c =
    let all : length c.loop-cell.yielded ≡ min (length c.args.cells.now) (length c.args.bits.now) =
    zip_end c.args.cells.now c.args.bits.now _ _ _ c.next.new.self _ (search rules) (search rules) c.loop-cell.yielded_by c.in-None.is c.next.ensures.steps in
    sym (put_end (length c.loop-cell.yielded) c.args.cells.now c.args.bits.now c.loop-cell.row all) ∙ c.loop-cell.invariant
