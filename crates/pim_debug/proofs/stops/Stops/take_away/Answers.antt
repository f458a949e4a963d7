use Rattle.std.proofs.Common.{◌≡◌, ◌-◌, ◌<◌, get_or, arith, sym, ◌∙◌, Some}
use Rattle.std.proofs.lemmas.List.{get_or_default}
use Rattle.pim_debug.specs.States.{stop_of}
use Rattle.pim_debug.proofs.StopLemmas.{counts_some, counts_taken}
use Rattle.pim_debug.proofs.stops.Stops.take_away.Goals as goal

-- the breakpoint is counted at its position
pub overflow_sub-index_mut : goal.overflow_sub-index_mut
overflow_sub-index_mut c =
    let here : stop_of c.self.inside.slots.slots c.args.n ≡ Some c.in-Some.k = sym c.try_remove.ensures.value ∙ c.in-Some.is in
    let some : 0 < get_or c.self.inside.counts.items c.in-Some.k 0 =
    counts_some c.self.inside.counts.items c.self.inside.slots.slots c.args.n c.in-Some.k c.self.invariant here in
    let count : c.index_mut.result.now ≡ get_or c.self.inside.counts.items c.in-Some.k 0 =
    c.index_mut.ensures.value
    ∙ get_or_default c.self.inside.counts.items c.in-Some.k c.index_mut.result.now 0 (c.self.invariant.within c.args.n c.in-Some.k here) in
    omega arith

-- one less is counted there
pub invariant_of-self-2 : goal.invariant_of-self-2
invariant_of-self-2 c =
    let here : stop_of c.self.inside.slots.slots c.args.n ≡ Some c.in-Some.k = sym c.try_remove.ensures.value ∙ c.in-Some.is in
    let some : 0 < get_or c.self.inside.counts.items c.in-Some.k 0 =
    counts_some c.self.inside.counts.items c.self.inside.slots.slots c.args.n c.in-Some.k c.self.invariant here in
    let count : c.index_mut.result.now ≡ get_or c.self.inside.counts.items c.in-Some.k 0 =
    c.index_mut.ensures.value
    ∙ get_or_default c.self.inside.counts.items c.in-Some.k c.index_mut.result.now 0 (c.self.invariant.within c.args.n c.in-Some.k here) in
    counts_taken c.self.inside.counts.items c.self.inside.slots.slots c.try_remove.new.self.slots c.args.n c.in-Some.k (c.index_mut.result.now - 1)
    c.self.invariant (omega arith) here c.try_remove.ensures.updates.changed c.try_remove.ensures.updates.others
