use Rattle.std.proofs.Common.{◌≡◌, ℕ, ◌+◌, ◌-◌, List, Bool, [], max, take, drop, count_by, ap, subst, sym, ◌∙◌, arith}
use Rattle.std.proofs.lemmas.Grind.{common_steps}
use Rattle.pim_graph.specs.inner.Marks.{is_marked}
use Rattle.pim_graph.proofs.Marking.{IsHeld, held_back, held_ends, held_few, held_starts}
use Rattle.pim_graph.proofs.Peaking.{peak_bounds, peak_within}
use Rattle.pim_graph.proofs.Placing.{length-placed}
use Rattle.pim_graph.proofs.peaks.peak.Goals as goal

pub count_marked-held-requires-clause-few : goal.count_marked-held-requires-clause-few
count_marked-held-requires-clause-few c =
    omega (arith, length-placed c.args.graph.now c.args.order.now c.requires, c.root_marks.ensures.sound.gates_fit)

pub loop-place-init : goal.loop-place-init
loop-place-init c =
    let placed = c.requires in
    held_starts c.args.graph.now c.args.order.now c.in_ok-marks.marks.items c.count_marked-held.result placed (omega (arith, c.in_ok-marks.ensures.len)) c.in_ok-marks.ensures.marked (c.count_marked-held.ensures ∙ ap (λ (marks : List Bool). count_by (is_marked marks) c.args.order.now) c.deref.ensures.value)

pub overflow_add-held : goal.overflow_add-held
overflow_add-held c =
    let few = held_few c.args.graph.now c.args.order.now c.loop-place.place c.loop-place.marks.items c.loop-place.held c.loop-place.most c.loop-place.auto.place c.loop-place.invariant in
    omega (arith, length-placed c.args.graph.now c.args.order.now c.requires, c.root_marks.ensures.sound.gates_fit, c.mark_reads-held.ensures.few)

pub overflow_add-held-in-loop-place : goal.overflow_add-held-in-loop-place
overflow_add-held-in-loop-place c =
    let few = held_few c.args.graph.now c.args.order.now c.loop-place.place c.loop-place.marks.items c.loop-place.held c.loop-place.most c.loop-place.auto.place c.loop-place.invariant in
    omega (arith, length-placed c.args.graph.now c.args.order.now c.requires, c.root_marks.ensures.sound.gates_fit, c.mark_reads-held.ensures.few)

pub loop-place-preserved : goal.loop-place-preserved
loop-place-preserved c =
    let g = c.args.graph.now in
    let order = c.args.order.now in
    let q = c.loop-place.place in
    let old = c.loop-place.marks.items in
    let new = c.mark_reads-held.new.marks.items in
    let held = c.loop-place.held in
    let one = c.from-held.result in
    let more = c.mark_reads-held.result in
    let most = c.loop-place.most in
    let greatest : c.max-most.result ≡ max most (held - one + more + 1) = grind (arith, common_steps) in
    let P : ℕ → Type 0 = λ n. IsHeld g (take (q - 1) order) (drop (q - 1) order) new (held - one + more) n in
    subst P (sym greatest) (held_back g order q c.children.result.now old new held one more most c.requires c.loop-place-test.true c.loop-place.auto.place c.children.ensures.list c.loop-place.invariant (c.from-held.ensures ∙ grind (arith, common_steps)) (λ x l. c.mark_reads-held.ensures.marked x (omega arith)) (omega (arith, c.mark_reads-held.ensures.len)) c.mark_reads-held.ensures.more)

pub returns-clause-peak : goal.returns-clause-peak
returns-clause-peak c =
    held_ends c.args.graph.now c.args.order.now c.loop-place.place c.loop-place.marks.items c.loop-place.held c.loop-place.most c.loop-place-test.false c.loop-place.invariant

pub returns-clause-bounds : goal.returns-clause-bounds
returns-clause-bounds c = λ p l.
    let whole = held_ends c.args.graph.now c.args.order.now c.loop-place.place c.loop-place.marks.items c.loop-place.held c.loop-place.most c.loop-place-test.false c.loop-place.invariant in
    omega (arith, peak_bounds c.args.graph.now [] c.args.order.now p l)

pub returns-clause-within : goal.returns-clause-within
returns-clause-within c =
    let whole = held_ends c.args.graph.now c.args.order.now c.loop-place.place c.loop-place.marks.items c.loop-place.held c.loop-place.most c.loop-place-test.false c.loop-place.invariant in
    omega (arith, peak_within c.args.graph.now [] c.args.order.now)
