use Rattle.std.proofs.Common.{◌∙◌, sym, ap, subst, List, ℕ, ◌+◌, Option, Ok}
use Rattle.std.specs.Borrow.{Bor}
use Rattle.pim_io.specs.Outside.{Told}
use Rattle.pim_top.specs.declared.refusal.Refusal.{Refusal}
use Rattle.pim_top.specs.inner.Sessions.{DebugStops, IsOfDebug}
use Rattle.pim_top.proofs.WalkStates.{after-same}
use Rattle.pim_top.proofs.commands.debug.Told.{From, answered-goes, answered-kinds, answered-refused, line-kinds, line-none, line-refused, line-stops}
use Rattle.pim_top.proofs.commands.debug.obey_line.Goals as goal

pub returns-in-Ok-None-clause-goes : goal.returns-in-Ok-None-clause-goes
returns-in-Ok-None-clause-goes g c =
    let before = g.S.Source.left c.args.input.now in
    let now = g.S.Source.left c.next.new.source in
    let old = c.args.lines.now in
    let new = c.next.follows.lender-at-none in
    line-none before now (g.K.Sink.taken c.args.output.now) c.args.session.now.program old new c.args.session.now
    (after-same old before now _ _ new (c.in-Ok-None.is ∙ ap (λ (o : Option (Bor (List ℕ))). Ok o) c.in-Ok-None.field-0-is) c.next.follows.holds-at-none)
    (rw c.in-Ok-None.field-0-is at c.in-Ok-None.ensures.line)

pub returns-in-Ok-clause-goes : goal.returns-in-Ok-clause-goes
returns-in-Ok-clause-goes g c =
    let before = g.S.Source.left c.args.input.now in
    let now = g.S.Source.left c.next.new.source in
    let old = c.args.lines.now in
    let new = c.next.follows.lender-at-none in
    answered-goes before now (g.K.Sink.taken c.args.output.now) (g.K.Sink.taken c.answer.new.output) c.args.session.now.program old new
    c.args.session.now c.command.new.self c.in-Ok-Some.line c.in-Ok.reply c.answer.result
    (after-same old before now _ _ new (c.in-Ok-Some.is ∙ ap (λ (o : Option (Bor (List ℕ))). Ok o) c.in-Ok-Some.field-0-is) c.next.follows.holds-at-none)
    (rw c.in-Ok-Some.field-0-is at c.in-Ok-Some.ensures.line)
    c.in-Ok.ensures.accepted c.in-Ok.ensures.answers c.command.ensures.same c.answer.ensures.goes c.answer.ensures.done

pub returns-in-Ok-clause-refused : goal.returns-in-Ok-clause-refused
returns-in-Ok-clause-refused g c =
    answered-refused (g.S.Source.left c.args.input.now) (g.S.Source.left c.next.new.source) (g.K.Sink.taken c.args.output.now) (g.K.Sink.taken c.answer.new.output)
    c.args.session.now.program c.args.lines.now c.args.session.now c.command.new.self c.in-Ok-Some.line.now c.in-Ok.reply
    (g.K.Sink.faults c.args.output.now) (g.K.Sink.faults c.answer.new.output) c.answer.result
    (rw c.in-Ok-Some.field-0-is at c.in-Ok-Some.ensures.line)
    c.in-Ok.ensures.accepted c.in-Ok.ensures.answers c.command.ensures.same c.answer.ensures.refused

pub returns-in-Ok-clause-kinds : goal.returns-in-Ok-clause-kinds
returns-in-Ok-clause-kinds g c =
    answered-kinds _ (g.K.Sink.taken c.args.output.now) (g.K.Sink.taken c.answer.new.output) (g.S.Source.faults c.args.input.now) (g.S.Source.faults c.next.new.source)
    (g.K.Sink.faults c.args.output.now) (g.K.Sink.faults c.answer.new.output) c.answer.result c.in-Ok-Some.ensures.steady c.answer.ensures.refused

pub returns-in-Err-command-clause-refused : goal.returns-in-Err-command-clause-refused
returns-in-Err-command-clause-refused g c =
    let before = g.S.Source.left c.args.input.now in
    let now = g.S.Source.left c.next.new.source in
    let taken = g.K.Sink.taken c.args.output.now in
    let old = c.args.lines.now in
    let s = c.args.session.now in
    let R : Refusal → Type 0 = λ r. Told before now (From s.program taken old s (λ fill bytes first rest. DebugStops s.program fill bytes rest first taken r)) in
    subst R (sym c.of_command.ensures) (line-refused before now taken s.program old s c.in-Ok-Some.line.now (c.given-number.result + 1) c.in-Err-command.fault
    (rw c.in-Ok-Some.field-0-is at c.in-Ok-Some.ensures.line) (ap (λ (n : ℕ). n + 1) c.given-number.ensures.given) c.in-Err-command.ensures.refused)

pub returns-in-Err-clause-refused : goal.returns-in-Err-clause-refused
returns-in-Err-clause-refused g c =
    let before = g.S.Source.left c.args.input.now in
    let now = g.S.Source.left c.next.new.source in
    let taken = g.K.Sink.taken c.args.output.now in
    let old = c.args.lines.now in
    let new = c.next.follows.lender-at-none in
    let s = c.args.session.now in
    let R : Refusal → Type 0 = λ r. Told before now (From s.program taken old s (λ fill bytes first rest. DebugStops s.program fill bytes rest first taken r)) in
    subst R (sym (c.of_further.ensures s)) (line-stops before now taken s.program old new s c.in-Err.fault c.requires
    (after-same old before now _ _ new c.in-Err.is c.next.follows.holds-at-none) c.in-Err.ensures.refused)

pub returns-in-Err-clause-kinds : goal.returns-in-Err-clause-kinds
returns-in-Err-clause-kinds g c =
    let s = c.args.session.now in
    let R : Refusal → Type 0 = IsOfDebug (g.S.Source.faults c.args.input.now) (g.S.Source.faults c.next.new.source) (g.K.Sink.faults c.args.output.now) (g.K.Sink.faults c.args.output.now) in
    subst R (sym (c.of_further.ensures s)) (line-kinds s c.in-Err.fault (g.S.Source.faults c.args.input.now) (g.S.Source.faults c.next.new.source) (g.K.Sink.faults c.args.output.now) c.in-Err.ensures.fault c.in-Err.ensures.spared)
