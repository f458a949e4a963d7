use Rattle.std.proofs.Common.{◌≡◌, ◌∙◌}
use Rattle.slab.specs.Slab.{entries_from}
use Rattle.pim_debug.proofs.StopLemmas.{stops_in_entries}
use Rattle.pim_debug.proofs.stops.Stops.list.Goals as goal

-- all of them are left
pub loop-number-init : goal.loop-number-init
loop-number-init c =
    let all : c.into_iter-number-iterator.result ≡ entries_from 0 c.self.inside.slots.slots =
    c.into_iter-number-iterator.ensures.into_iter_gives ∙ c.iter-number-items.ensures.rest in
    rw (← c.self.view_is, c.new-list.ensures.items, all) (stops_in_entries 0 c.self.inside.slots.slots)
