use Rattle.std.proofs.Common.{◌≡◌, length, ap, sym, subst, ◌∙◌}
use Rattle.std.specs.List.{range_with_len}
use Rattle.pim_graph.specs.Peaks.{IsPlaced}
use Rattle.pim_life.proofs.Drawings.{own_placed}
use Rattle.pim_life.proofs.tree_line.own_peak.Goals as goal

pub peak-requires : goal.peak-requires
peak-requires c =
    let g = c.args.graph.now in
    let own : c.deref.result.now ≡ range_with_len 0 (length g.kids) =
    c.deref.ensures.value ∙ c.in_ok-gates.ensures ∙ ap (range_with_len 0) c.len.ensures.count in
    subst (IsPlaced g) (sym own) (own_placed g c.len.ensures.sound)
