use Rattle.std.proofs.Common.{◌≡◌, ◌+◌, ◌<◌, length, get_or, arith}
use Rattle.std.proofs.lemmas.Grind.{common_steps}
use Rattle.pim_debug.proofs.StopLemmas.{counts_set}
use Rattle.pim_debug.proofs.stops.Stops.set.Goals as goal

-- one more is counted at its position
pub invariant_of-self-2 : goal.invariant_of-self-2
invariant_of-self-2 c =
    let small : c.args.k < length c.self.inside.counts.items = rw (← c.self.view_is) at c.requires in
    let more : c.in_ok-count.count ≡ get_or c.self.inside.counts.items c.args.k 0 + 1 = grind (arith, common_steps) in
    counts_set c.self.inside.counts.items c.self.inside.slots.slots c.insert.new.self.slots c.in_ok-number.number c.args.k c.in_ok-count.count
    c.self.invariant small more c.in_ok-number.ensures.was_vacant c.in_ok-number.ensures.updates.changed c.in_ok-number.ensures.updates.others
