use Rattle.std.proofs.Common.{◌∙◌, sym, ap, subst, List, ℕ, ◌+◌, Option, Ok}
use Rattle.std.specs.Borrow.{Bor}
use Rattle.pim_io.specs.Outside.{Told}
use Rattle.pim_vectors.specs.Tiles.{IsVector}
use Rattle.pim_top.specs.inner.Standing.{IsWalk, Stops}
use Rattle.pim_top.specs.declared.refusal.Refusal.{Refusal}
use Rattle.pim_top.proofs.WalkStates.{after-same, end-told, failed-told, took-told, unfit-told, vector-no, vector-yes}
use Rattle.pim_top.proofs.walk.take_up.Goals as goal

pub returns-in-Ok-None-clause-goes : goal.returns-in-Ok-None-clause-goes
returns-in-Ok-None-clause-goes g c =
    let before = g.S.Source.left c.args.input.now in
    let now = g.S.Source.left c.next.new.source in
    let old = c.args.lines.now in
    let new = c.next.follows.lender-at-none in
    end-told before now (g.E.Executor.runner c.args.executor.now).width old new (g.E.Executor.rows c.args.executor.now)
    (after-same old before now _ _ new (c.in-Ok-None.is ∙ ap (λ (o : Option (Bor (List ℕ))). Ok o) c.in-Ok-None.field-0-is) c.next.follows.holds-at-none)
    (rw c.in-Ok-None.field-0-is at c.in-Ok-None.ensures.line)

pub returns-then-not-vector_fits-clause-stops : goal.returns-then-not-vector_fits-clause-stops
returns-then-not-vector_fits-clause-stops g c =
    let before = g.S.Source.left c.args.input.now in
    let now = g.S.Source.left c.next.new.source in
    let line = c.in-Ok-Some.line.now in
    let width = (g.E.Executor.runner c.args.executor.now).width in
    let unfit = vector-no width line
    (λ h.
    let t = c.vector_fits.ensures.1 (subst (λ (n : ℕ). IsVector n line) (sym c.requires.width) h) in
    let f = c.if-not-vector_fits.true in
    cc) in
    unfit-told before now width c.args.lines.now line (c.given-number.result + 1) (rw c.in-Ok-Some.field-0-is at c.in-Ok-Some.ensures.line) unfit (ap (λ (n : ℕ). n + 1) c.given-number.ensures.given)

pub returns-else-not-vector_fits-clause-goes : goal.returns-else-not-vector_fits-clause-goes
returns-else-not-vector_fits-clause-goes g c =
    let before = g.S.Source.left c.args.input.now in
    let now = g.S.Source.left c.next.new.source in
    let line = c.in-Ok-Some.line.now in
    let width = (g.E.Executor.runner c.args.executor.now).width in
    let old = c.args.lines.now in
    let new = c.next.follows.lender-at-none in
    let t = c.vector_fits.ensures.0 c.if-not-vector_fits.false in
    let fits = vector-yes width line (subst (λ (n : ℕ). IsVector n line) c.requires.width t) in
    took-told before now width old new c.in-Ok-Some.line (g.E.Executor.rows c.args.executor.now) (g.E.Executor.rows c.push.new.self)
    (after-same old before now _ _ new (c.in-Ok-Some.is ∙ ap (λ (o : Option (Bor (List ℕ))). Ok o) c.in-Ok-Some.field-0-is) c.next.follows.holds-at-none)
    (rw c.in-Ok-Some.field-0-is at c.in-Ok-Some.ensures.line) fits c.push.ensures.pushed

pub returns-in-Err-clause-stops : goal.returns-in-Err-clause-stops
returns-in-Err-clause-stops g c =
    let before = g.S.Source.left c.args.input.now in
    let now = g.S.Source.left c.next.new.source in
    let width = (g.E.Executor.runner c.args.executor.now).width in
    let old = c.args.lines.now in
    let new = c.next.follows.lender-at-none in
    let R : Refusal → Type 0 = λ r. Told before now (λ left rest. (bytes front : List ℕ) → IsWalk width bytes left old front → Stops width bytes rest front r) in
    subst R (sym c.of_lines.ensures) (failed-told before now width old new c.in-Err.fault (after-same old before now _ _ new c.in-Err.is c.next.follows.holds-at-none) c.in-Err.ensures.refused)
