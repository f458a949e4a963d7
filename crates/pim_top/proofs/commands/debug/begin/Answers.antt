use Rattle.std.proofs.Common.{◌∙◌, sym, ap, subst, List, ℕ, Option, Some, None, Ok}
use Rattle.std.specs.Borrow.{Bor}
use Rattle.pim_debug.specs.States.{SessionView}
use Rattle.pim_io.specs.Outside.{Told}
use Rattle.pim_top.specs.declared.refusal.Refusal.{Refusal}
use Rattle.pim_top.specs.inner.Sessions.{DebugStops, IsDebugging, IsOfInput}
use Rattle.pim_top.proofs.WalkStates.{after-same}
use Rattle.pim_top.proofs.commands.debug.Told.{begin-front, begin-none, begin-session, begin-stops, begin-unfit, fault-kinds, first-refusal}
use Rattle.pim_top.proofs.commands.debug.begin.Goals as goal

pub returns-in-Ok-None-clause-refused : goal.returns-in-Ok-None-clause-refused
returns-in-Ok-None-clause-refused g c =
    begin-none (g.S.Source.left c.args.input.now) (g.S.Source.left c.next.new.source) c.args.program.now c.args.fill c.args.lines.now c.requires
    (rw c.in-Ok-None.field-0-is at c.in-Ok-None.ensures.line)

pub returns-then-not-fits-clause-refused : goal.returns-then-not-fits-clause-refused
returns-then-not-fits-clause-refused g c =
    begin-unfit (g.S.Source.left c.args.input.now) (g.S.Source.left c.next.new.source) c.args.program.now c.args.fill c.args.lines.now c.in-Ok-Some.line.now c.requires
    (rw c.in-Ok-Some.field-0-is at c.in-Ok-Some.ensures.line) (sym c.fits.ensures ∙ c.if-not-fits.true)

pub returns-in-Err-clause-refused : goal.returns-in-Err-clause-refused
returns-in-Err-clause-refused g c =
    let before = g.S.Source.left c.args.input.now in
    let now = g.S.Source.left c.next.new.source in
    let old = c.args.lines.now in
    let new = c.next.follows.lender-at-none in
    let R : Refusal → Type 0 = λ r. Told before now (λ left rest. (taken : Option (List ℕ)) → DebugStops c.args.program.now c.args.fill left rest taken taken r) in
    subst R (first-refusal c.in-Err.fault ∙ sym c.of_lines.ensures) (begin-stops before now c.args.program.now c.args.fill old new c.in-Err.fault c.requires
    (after-same old before now _ _ new c.in-Err.is c.next.follows.holds-at-none) c.in-Err.ensures.refused)

pub returns-in-Err-clause-kinds : goal.returns-in-Err-clause-kinds
returns-in-Err-clause-kinds g c =
    let R : Refusal → Type 0 = IsOfInput (g.S.Source.faults c.args.input.now) (g.S.Source.faults c.next.new.source) in
    subst R (first-refusal c.in-Err.fault ∙ sym c.of_lines.ensures) (fault-kinds None c.in-Err.fault (g.S.Source.faults c.args.input.now) (g.S.Source.faults c.next.new.source) c.in-Err.ensures.fault c.in-Err.ensures.spared)

pub returns-in_default-clause-refused : goal.returns-in_default-clause-refused
returns-in_default-clause-refused g c =
    begin-front (g.S.Source.left c.args.input.now) (g.S.Source.left c.next.new.source) c.args.program.now c.args.fill c.args.lines.now (Ok (Some c.in-Ok-Some.line.now)) c.requires
    (rw c.in-Ok-Some.field-0-is at c.in-Ok-Some.ensures.line)

pub returns-in-Ok-clause-begun : goal.returns-in-Ok-clause-begun
returns-in-Ok-clause-begun g c =
    let before = g.S.Source.left c.args.input.now in
    let now = g.S.Source.left c.next.new.source in
    let old = c.args.lines.now in
    let new = c.next.follows.lender-at-none in
    let R : SessionView → Type 0 = λ s. Told before now (λ left rest. (taken : Option (List ℕ)) → IsDebugging c.args.program.now c.args.fill left rest taken taken new (Some s)) in
    subst R (sym c.in-Ok.ensures)
    (begin-session before now c.args.program.now c.args.fill old new c.in-Ok-Some.line c.requires
    (after-same old before now _ _ new (c.in-Ok-Some.is ∙ ap (λ (o : Option (Bor (List ℕ))). Ok o) c.in-Ok-Some.field-0-is) c.next.follows.holds-at-none)
    (rw c.in-Ok-Some.field-0-is at c.in-Ok-Some.ensures.line) (sym c.fits.ensures ∙ c.if-not-fits.false))
