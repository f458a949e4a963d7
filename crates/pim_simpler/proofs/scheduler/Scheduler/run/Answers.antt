use Rattle.std.proofs.Common.{◌≡◌, ◌∙◌, ℕ, ◌+◌, sym, ap, subst, length, slice_index}
use Rattle.pim_simpler.specs.inner.Kept.{ScheduleView, placed, after_reads}
use Rattle.pim_simpler.proofs.Stages.{Stage, start_stage, end_stage, refill_stage, place_stage, stage_there, stage_asks}
use Rattle.pim_simpler.proofs.scheduler.Scheduler.run.Goals as goal

pub loop-gate-init : goal.loop-gate-init
loop-gate-init c =
    start_stage c.args.order.now c.args.self.now c.requires.plan c.requires.begins
    (sym (ap (λ (s : ScheduleView). length s.cells) c.self.view_is) ∙ (c.self.invariant.0 ∙ ap (λ (s : ScheduleView). length s.net.gates) c.self.view_is))

pub place-requires-clause-there : goal.place-requires-clause-there
place-requires-clause-there c =
    let n = c.args.self.now.net in
    let d = c.args.self.now.draft in
    let ready = refill_stage n c.args.order.now d.cells d c.loop-gate.gate-index c.loop-gate.self c.refill.new.self c.requires.plan c.loop-gate-test.true c.in_ok-refill.ensures c.loop-gate.invariant in
    stage_there n c.args.order.now d.cells d c.loop-gate.gate-index c.refill.new.self c.requires.plan c.loop-gate-test.true ready.0

pub place-requires-clause-primed : goal.place-requires-clause-primed
place-requires-clause-primed c =
    let n = c.args.self.now.net in
    let d = c.args.self.now.draft in
    (refill_stage n c.args.order.now d.cells d c.loop-gate.gate-index c.loop-gate.self c.refill.new.self c.requires.plan c.loop-gate-test.true c.in_ok-refill.ensures c.loop-gate.invariant).1

pub release-requires-clause-there : goal.release-requires-clause-there
release-requires-clause-there c =
    let n = c.args.self.now.net in
    let d = c.args.self.now.draft in
    let ready = refill_stage n c.args.order.now d.cells d c.loop-gate.gate-index c.loop-gate.self c.refill.new.self c.requires.plan c.loop-gate-test.true c.in_ok-refill.ensures c.loop-gate.invariant in
    (stage_asks n c.args.order.now d.cells d c.loop-gate.gate-index c.refill.new.self c.place.new.self c.requires.plan c.loop-gate-test.true ready.0 c.in_ok-place.ensures).there

pub release-requires-clause-children : goal.release-requires-clause-children
release-requires-clause-children c =
    let n = c.args.self.now.net in
    let d = c.args.self.now.draft in
    let ready = refill_stage n c.args.order.now d.cells d c.loop-gate.gate-index c.loop-gate.self c.refill.new.self c.requires.plan c.loop-gate-test.true c.in_ok-refill.ensures c.loop-gate.invariant in
    (stage_asks n c.args.order.now d.cells d c.loop-gate.gate-index c.refill.new.self c.place.new.self c.requires.plan c.loop-gate-test.true ready.0 c.in_ok-place.ensures).children

pub release-requires-clause-read : goal.release-requires-clause-read
release-requires-clause-read c =
    let n = c.args.self.now.net in
    let d = c.args.self.now.draft in
    let ready = refill_stage n c.args.order.now d.cells d c.loop-gate.gate-index c.loop-gate.self c.refill.new.self c.requires.plan c.loop-gate-test.true c.in_ok-refill.ensures c.loop-gate.invariant in
    (stage_asks n c.args.order.now d.cells d c.loop-gate.gate-index c.refill.new.self c.place.new.self c.requires.plan c.loop-gate-test.true ready.0 c.in_ok-place.ensures).read

pub loop-gate-preserved : goal.loop-gate-preserved
loop-gate-preserved c =
    let n = c.args.self.now.net in
    let order = c.args.order.now in
    let d = c.args.self.now.draft in
    let p : ℕ = c.loop-gate.gate-index in
    let x : ℕ = slice_index order p in
    let ready = refill_stage n order d.cells d p c.loop-gate.self c.refill.new.self c.requires.plan c.loop-gate-test.true c.in_ok-refill.ensures c.loop-gate.invariant in
    let step : c.release.new.self ≡ after_reads (placed x c.refill.new.self) x =
    c.in_ok-release.ensures ∙ ap (λ (s : ScheduleView). after_reads s x) c.in_ok-place.ensures in
    let P : ScheduleView → Type 0 = λ s. Stage n order d.cells d (p + 1) s in
    subst P (sym step) (place_stage c.tell_needed.ensures.read n order d.cells d p c.refill.new.self c.requires.plan c.loop-gate-test.true ready.1 ready.0)

pub returns : goal.returns
returns c = end_stage c.args.order.now c.args.self.now c.loop-gate.self c.loop-gate.gate-index c.loop-gate-test.false c.loop-gate.invariant
