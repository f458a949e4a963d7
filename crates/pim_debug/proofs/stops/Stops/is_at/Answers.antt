use Rattle.std.proofs.Common.{◌≡◌, ◌<◌, length, ap, sym, ◌∙◌}
use Rattle.std.specs.Prelude.{nat_lt, count_by}
use Rattle.std.proofs.lemmas.List.{get_or_default}
use Rattle.pim_debug.specs.States.{stands_at}
use Rattle.pim_debug.proofs.StopLemmas.{any_counts}
use Rattle.pim_debug.proofs.stops.Stops.is_at.Goals as goal

-- some are counted there
pub returns : goal.returns
returns c =
    let small : c.args.k < length c.self.inside.counts.items = rw (← c.self.view_is) at c.requires in
    let counted : c.index.result.now ≡ count_by (stands_at c.args.k) c.self.inside.slots.slots =
    c.index.ensures ∙ get_or_default c.self.inside.counts.items c.args.k c.index.result.now 0 small ∙ c.self.invariant.counted c.args.k small in
    rw (← c.self.view_is) (ap (nat_lt 0) counted ∙ sym (any_counts c.args.k c.self.inside.slots.slots))
